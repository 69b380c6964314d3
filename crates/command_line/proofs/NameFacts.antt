-- What a command's name says of what its words give.
use Rattle.std.proofs.Common.{◌≢◌, List, codes, refl}
use Rattle.clap.specs.Words.{Row, Text}
use Rattle.command_line.specs.Jobs.{IsCommand, IsSearch, IsTask}
use Rattle.command_line.specs.declared.job.Command.{Command}
use Rattle.command_line.specs.declared.job.Command.TheVariants as commands
use Rattle.command_line.specs.declared.job.Search.{Search}
use Rattle.command_line.specs.declared.job.Search.TheVariants as searches
use Rattle.command_line.specs.declared.job.Task.{Task}
use Rattle.command_line.specs.declared.job.Task.TheVariants as tasks
use Rattle.option_words.specs.AuditWords.{AuditsOf}
use Rattle.option_words.specs.declared.audited.Audited.{Audited}
use Rattle.command_line.specs.MigrationWords.{TakesOver}
use Rattle.command_line.proofs.AskingFacts.{differs}

module _ (name : Text) (rows : List Row) where
  pub stored_search : name ≢ codes "direct" → name ≢ codes "scan" → name ≢ codes "reach" → (search : Search) → IsSearch name rows search
      → (task : Task) × IsTask name rows task
  stored_search no_direct no_scan no_reach (searches.Direct question) h = absurd (no_direct h.0)
  stored_search no_direct no_scan no_reach (searches.Scan question legs) h = absurd (no_scan h.0)
  stored_search no_direct no_scan no_reach (searches.Reach question minutes) h = absurd (no_reach h.0)
  stored_search no_direct no_scan no_reach (searches.Stored store task) h = (task, (h.0, h.1.1))

  pub found_command : name ≢ codes "serve" → name ≢ codes "matrix" → (command : Command) → IsCommand name rows command → (search : Search) × IsSearch name rows search
  found_command no_serve no_matrix (commands.Find search) h = (search, h)
  found_command no_serve no_matrix (commands.Matrix question workers progress) h = absurd (no_matrix h.0)
  found_command no_serve no_matrix (commands.Serve store workers) h = absurd (no_serve h.0)

  pub no_task : name ≢ codes "ask" → name ≢ codes "list" → name ≢ codes "audit" → name ≢ codes "build" → name ≢ codes "migrate" → name ≢ codes "merge"
      → (task : Task) → ¬ IsTask name rows task
  no_task no_ask no_list no_audit no_build no_migrate no_merge (tasks.Ask question legs) h = no_ask h.0
  no_task no_ask no_list no_audit no_build no_migrate no_merge tasks.List h = no_list h.0
  no_task no_ask no_list no_audit no_build no_migrate no_merge (tasks.Audit whose) h = no_audit h.0
  no_task no_ask no_list no_audit no_build no_migrate no_merge (tasks.Build workers progress part) h = no_build h.0
  no_task no_ask no_list no_audit no_build no_migrate no_merge (tasks.Migrate old progress) h = no_migrate h.0
  no_task no_ask no_list no_audit no_build no_migrate no_merge (tasks.Merge parts progress) h = no_merge h.0

-- what isn't there of a command's own words
module _ (rows : List Row) where
  pub no_audit : ((whose : Audited) → ¬ AuditsOf rows whose) → (task : Task) → ¬ IsTask (codes "audit") rows task
  no_audit none (tasks.Ask question legs) h = differs refl h.0
  no_audit none tasks.List h = differs refl h.0
  no_audit none (tasks.Audit whose) h = none whose h.1
  no_audit none (tasks.Build workers progress part) h = differs refl h.0
  no_audit none (tasks.Migrate old progress) h = differs refl h.0
  no_audit none (tasks.Merge parts progress) h = differs refl h.0

  pub no_migration : ((old : Text) → ¬ TakesOver rows old) → (task : Task) → ¬ IsTask (codes "migrate") rows task
  no_migration none (tasks.Ask question legs) h = differs refl h.0
  no_migration none tasks.List h = differs refl h.0
  no_migration none (tasks.Audit whose) h = differs refl h.0
  no_migration none (tasks.Build workers progress part) h = differs refl h.0
  no_migration none (tasks.Migrate old progress) h = none old.now h.1.0
  no_migration none (tasks.Merge parts progress) h = differs refl h.0

-- What each outcome of a crash holds, each later outcome holds, step by step.
use Rattle.std.proofs.Common.{◌≡◌, ℕ, Bool, true, false, List, [], ◌∷◌, refl, sym, ap, ◌∙◌, subst, inl, inr}
use Rattle.disk_model.specs.Crash.{filled_bytes}
use Rattle.disk_model.specs.Image.{IsOutcome, settled_image}
use Rattle.disk_model.specs.Laws.{MakesOutcomes}
use Rattle.disk_model.proofs.Moments.{only_settled}
use Rattle.pattern_tree.specs.Finished.{FinishedTree}
use Rattle.section_store.specs.Lasting.{BeginsWith, HasSource, Keeps, LosesNothing}
use Rattle.section_store.specs.Sections.{Form}
use Rattle.section_store.proofs.Lasting.{in_turn, one_more, still}
use Rattle.planner_core.specs.Calls.{Lasts, OpensGate, SyncsGate, SyncsSection, WritesSection}
use Rattle.planner_core.specs.Run.{Run}
use Rattle.planner_core.specs.Running.{IsSound}
use Rattle.planner_core.specs.Steps.{Case, Crashes, StepsTo}
use Rattle.planner_core.specs.Views.{ArchiveView, Basis, Phase, disk_in, RunningView, StoppedView, runs, stopped}
use Rattle.planner_core.specs.declared.step.Reply.{Reply}
use Rattle.planner_core.specs.declared.step.Step.{Step}
use Rattle.planner_core.specs.declared.step.Step.TheVariants as E
use Rattle.planner_core.proofs.Hands.{gate_opened, section_begun, section_synced}

-- what runs is for that form
abbrev pub IsFor : Form → Phase → Type 0
IsFor form (runs u) = u.archive.form ≡ form
IsFor form (stopped d) = Unit {0}

pub sound_for : (basis : Basis) (phase : Phase) → IsSound basis phase → IsFor basis.form phase
sound_for basis (runs u) sound = sound.form
sound_for basis (stopped d) sound = tt

abbrev pub Goes : Form → Phase → Phase → Type 0
Goes form old new = LosesNothing form (disk_in old) (disk_in new) × IsFor form new

-- what leaves the store as it is
calm : (form : Form) (u m : RunningView) → u.archive.form ≡ form → m.archive ≡ u.archive → Goes form (runs u) (runs m)
calm form u m own same = (still form u.archive.disk m.archive.disk (ap (λ (a : ArchiveView). a.disk) same), ap (λ (a : ArchiveView). a.form) same ∙ own)

-- a call of the disk
called : (form : Form) (u m : RunningView) (a : ArchiveView) → u.archive.form ≡ form → m.archive ≡ a → Lasts u.archive a → a.form ≡ u.archive.form → Goes form (runs u) (runs m)
called form u m a own is lasts same =
    let there : LosesNothing form u.archive.disk a.disk = subst (λ (f : Form). LosesNothing f u.archive.disk a.disk) own lasts in (
      subst (λ (b : ArchiveView). LosesNothing form u.archive.disk b.disk) (sym is) there,
      ap (λ (b : ArchiveView). b.form) is ∙ same ∙ own,
    )

body_lasts : (fails : Bool) (t : FinishedTree) (a b : ArchiveView) → WritesSection fails t a b → Lasts a b
body_lasts true t a b (disk, failed, is, lasts) = lasts
body_lasts false t a b (size, disk, wrote, is, lasts, adds) = lasts

sync_lasts : (fails : Bool) (a b : ArchiveView) → SyncsSection fails a b → Lasts a b
sync_lasts true a b call = call.1
sync_lasts false a b call = call.1

gate_lasts : (fails : Bool) (a b : ArchiveView) → OpensGate fails a b → Lasts a b
gate_lasts true a b (disk, failed, is, lasts) = lasts
gate_lasts false a b call = call.1

receipt_lasts : (fails : Bool) (s : ℕ) (a b : ArchiveView) → SyncsGate fails s a b → Lasts a b × (b.form ≡ a.form)
receipt_lasts true s a b call = (call.1, ap (λ (x : ArchiveView). x.form) call.0)
receipt_lasts false s a b call = (call.1, ap (λ (x : ArchiveView). x.form) call.0)

running_goes : (basis : Basis) (event : Step) (u m : RunningView) (reply : Reply) → u.archive.form ≡ basis.form → Case basis event (runs u) reply (runs m) → Goes basis.form (runs u) (runs m)
running_goes basis (E.Claim seat) u m reply own c = calm basis.form u m own (ap (λ (x : RunningView). x.archive) c.5)
running_goes basis (E.HandIn seat t) u m reply own c = calm basis.form u m own (ap (λ (x : RunningView). x.archive) c.4)
running_goes basis (E.GiveBack seat s) u m reply own c = calm basis.form u m own (ap (λ (x : RunningView). x.archive) c.5)
running_goes basis E.Take u m reply own c = calm basis.form u m own (ap (λ (x : RunningView). x.archive) c.7)
running_goes basis (E.Ack s outcome) u m reply own c = calm basis.form u m own (ap (λ (x : RunningView). x.archive) c.7)
running_goes basis E.Stop u m reply own c = calm basis.form u m own (ap (λ (x : RunningView). x.archive) c.5)
running_goes basis (E.WriteBody fails) u m reply own c =
    called basis.form u m c.2 own (ap (λ (x : RunningView). x.archive) c.7) (body_lasts fails c.1 u.archive c.2 c.5) (section_begun fails c.1 u.archive c.2 c.5).0.form
running_goes basis (E.SyncBody fails) u m reply own c =
    called basis.form u m c.1 own (ap (λ (x : RunningView). x.archive) c.6) (sync_lasts fails u.archive c.1 c.4) (section_synced fails u.archive c.1 c.4).on.form
running_goes basis (E.OpenGate fails) u m reply own c =
    called basis.form u m c.1 own (ap (λ (x : RunningView). x.archive) c.6) (gate_lasts fails u.archive c.1 c.4) (gate_opened fails u.archive c.1 c.4).on.form
running_goes basis (E.SyncGate fails) u m reply own c =
    let both = receipt_lasts fails c.0.source u.archive c.1 c.4 in
    called basis.form u m c.1 own (ap (λ (x : RunningView). x.archive) c.6) both.0 both.1
running_goes basis E.Publish u m reply own c = calm basis.form u m own (ap (λ (x : RunningView). x.archive) c.8)
running_goes basis (E.Ask from to depart) u m reply own c = calm basis.form u m own (ap (λ (x : RunningView). x.archive) c.3)
running_goes basis (E.Crash len fill) u m reply own c = absurd c
running_goes basis E.Restart u m reply own c = absurd c

-- a crash leaves an outcome
crash_goes : MakesOutcomes → (form : Form) (len : ℕ) (fill : List ℕ) (u : RunningView) (reply : Reply) (d : StoppedView) → Crashes len fill u reply d
    → LosesNothing form u.archive.disk d.disk
crash_goes law form len fill u reply d c =
    let disk = u.archive.disk in
    let bytes = filled_bytes disk.now 0 len fill in
    let outcome : IsOutcome disk.now bytes = law disk.now len fill c.can in
    let keeps : Keeps form disk.now (settled_image bytes) = record {
      sources = λ source each other left. subst (HasSource form source) (sym (only_settled bytes other left)) (each bytes outcome);
      trees = λ tree later each other left. subst (BeginsWith form (tree ∷ later)) (sym (only_settled bytes other left)) (each bytes outcome);
    } in
    one_more form disk d.disk bytes (settled_image bytes) (ap (λ (x : StoppedView). x.disk) c.left) keeps

case_goes : MakesOutcomes → (basis : Basis) (event : Step) (old new : Phase) (reply : Reply) → IsFor basis.form old → Case basis event old reply new → Goes basis.form old new
case_goes law basis event (runs u) (runs m) reply own c = running_goes basis event u m reply own c
case_goes law basis (E.Crash len fill) (runs u) (stopped d) reply own c = (crash_goes law basis.form len fill.items u reply d c, tt)
case_goes law basis (E.Claim seat) (runs u) (stopped d) reply own c = absurd c
case_goes law basis (E.HandIn seat t) (runs u) (stopped d) reply own c = absurd c
case_goes law basis (E.GiveBack seat s) (runs u) (stopped d) reply own c = absurd c
case_goes law basis E.Take (runs u) (stopped d) reply own c = absurd c
case_goes law basis (E.Ack s outcome) (runs u) (stopped d) reply own c = absurd c
case_goes law basis E.Stop (runs u) (stopped d) reply own c = absurd c
case_goes law basis (E.WriteBody fails) (runs u) (stopped d) reply own c = absurd c
case_goes law basis (E.SyncBody fails) (runs u) (stopped d) reply own c = absurd c
case_goes law basis (E.OpenGate fails) (runs u) (stopped d) reply own c = absurd c
case_goes law basis (E.SyncGate fails) (runs u) (stopped d) reply own c = absurd c
case_goes law basis E.Publish (runs u) (stopped d) reply own c = absurd c
case_goes law basis (E.Ask from to depart) (runs u) (stopped d) reply own c = absurd c
case_goes law basis E.Restart (runs u) (stopped d) reply own c = absurd c
case_goes law basis E.Restart (stopped d) (runs m) reply own c = (c.lasts, c.begins.form)
case_goes law basis event (stopped d) new reply own c = absurd c

pub step_lasts : MakesOutcomes → (basis : Basis) (event : Step) (old new : Phase) (reply : Reply) → IsFor basis.form old → StepsTo basis event old reply new → Goes basis.form old new
step_lasts law basis event old new reply own (inl c) = case_goes law basis event old new reply own c
step_lasts law basis event old new reply own (inr idle) =
    subst (λ (p : Phase). Goes basis.form old p) (sym idle.1) (still basis.form (disk_in old) (disk_in old) refl, own)

-- so a whole run loses nothing
pub run_lasts : MakesOutcomes → (basis : Basis) (old new : Phase) (events : List Step) (replies : List Reply) → IsFor basis.form old → Run basis old events replies new
    → LosesNothing basis.form (disk_in old) (disk_in new)
run_lasts law basis old new [] [] own r = still basis.form (disk_in old) (disk_in new) (ap disk_in r)
run_lasts law basis old new [] (reply ∷ replies) own r = absurd r
run_lasts law basis old new (event ∷ events) [] own r = absurd r
run_lasts law basis old new (event ∷ events) (reply ∷ replies) own r =
    let one = step_lasts law basis event old r.0 reply own r.1 in
    in_turn basis.form (disk_in old) (disk_in r.0) (disk_in new) one.0 (run_lasts law basis r.0 new events replies one.1 r.4)

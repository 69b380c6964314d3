use Rattle.std.proofs.Common.{◌≡◌, ◌∙◌, sym, ap, not, true, false, [], ◌∷◌}
use Rattle.std.specs.Prelude.{is_some, ◌||◌}
use Rattle.gtfs_rows.specs.declared.fault.FeedFault.{FeedFault}
use Rattle.gtfs_tables.proofs.FeedFacts.{same_presence}
use Rattle.feed_faults.proofs.FileFacts.{all-is, or-false, or-left, or-right, services-missing, services-there, sure, then-all}
use Rattle.file_faults.proofs.ListFacts.{adds-is, on-ok-then}
use Rattle.feed_faults.proofs.feed.list_services.Goals as goal
use Rattle.feed_faults.proofs.feed.list_services.Goals.{else-is_none-via-then-is_none+else-is_none-2, else-is_none-via-else-is_none}

pub returns-then-is_none-2 : goal.returns-then-is_none-2
returns-then-is_none-2 g c = λ bytes dates first second.
    let a : is_some bytes ≡ false = sym (same_presence g.R.Read.remaining c.args.calendar bytes first) ∙ c.is_none.ensures ∙ ap not c.if-is_none.true in
    let b : is_some dates ≡ false = sym (same_presence g.R.Read.remaining c.args.calendar_dates dates second) ∙ c.is_none-then-is_none.ensures ∙ ap not c.if-is_none-2.true in
    on-ok-then c.add_found.result c.add_found.ensures
    (λ added. sure (adds-is (ap (λ (f : FeedFault). f ∷ []) c.new.ensures ∙ services-missing bytes dates (or-false (is_some bytes) (is_some dates) a b)) added))

pub returns : goal.returns
returns g c = λ bytes dates first second.
    let there : (is_some bytes || is_some dates) ≡ true =
    elim c.else-is_none.branch [
      | else-is_none-via-then-is_none+else-is_none-2 w ↦
          or-right (is_some bytes) (is_some dates) (sym (same_presence g.R.Read.remaining c.args.calendar_dates dates second) ∙ w.is_none-then-is_none.ensures ∙ ap not w.if-is_none-2.false)
      | else-is_none-via-else-is_none w ↦
          or-left (is_some bytes) (is_some dates) (sym (same_presence g.R.Read.remaining c.args.calendar bytes first) ∙ c.is_none.ensures ∙ ap not w.if-is_none.false)
    ] in
    on-ok-then c.list_dates_file.result (c.list_dates_file.ensures dates second)
    (λ added. all-is (services-there bytes dates there) (then-all {b = c.list_calendar_file.new.list} (c.in_ok-list_calendar_file.ensures bytes first) added))

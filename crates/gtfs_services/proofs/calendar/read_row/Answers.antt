use Rattle.std.proofs.Common.{◌≡◌, ◌∙◌, sym, ap, ℕ, List, Option, Some, map, false, true}
use Rattle.gtfs_text.specs.Values.{date_of}
use Rattle.gtfs_rows.specs.Rows.{text_under, is_empty, has_new_key}
use Rattle.gtfs_services.specs.Calendar.{service_id, weekdays_in, weekday_texts}
use Rattle.gtfs_services.proofs.CalendarFacts.{row_passes}
use Rattle.gtfs_services.proofs.calendar.read_row.Goals as goal

pub returns : goal.returns
returns c =
    let table = c.args.sheet.now in
    let row = c.args.row in
    let at = λ (column : Option ℕ). text_under table column row in
    let service : c.text_under-service.result.now ≡ service_id table row = c.text_under-service.ensures ∙ ap at c.requires.columns.service in
    let there : is_empty (service_id table row) ≡ false = ap is_empty (sym service) ∙ sym c.is_empty.ensures ∙ c.if-is_empty.false in
    let new : has_new_key table (service_id table) row ≡ true = sym c.requires.is_new ∙ c.if-not-is_new.false in
    let days : Some c.in-Some.weekdays ≡ weekdays_in (weekday_texts table row) = c.in-Some.ensures ∙ ap (λ (columns : List (Option ℕ)). weekdays_in (map at columns)) c.requires.columns.weekdays in
    let start = c.in-Some-date.ensures ∙ ap date_of (c.text_under.ensures ∙ ap at c.requires.columns.start) in
    let end = c.in-Some-date-2.ensures ∙ ap date_of (c.text_under-2.ensures ∙ ap at c.requires.columns.end) in
    row_passes table row c.in_ok-new.field-0 c.in-Some.weekdays c.in-Some-date.start c.in-Some-date-2.end there new (c.in_ok-new.ensures ∙ service) days start end

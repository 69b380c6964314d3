use Rattle.std.proofs.Common.{◌≡◌, ◌∙◌, sym, ap, ℕ, Option, false}
use Rattle.gtfs_text.specs.Values.{date_of}
use Rattle.gtfs_rows.specs.Rows.{text_under, is_empty}
use Rattle.gtfs_services.specs.CalendarDates.{service_id, change_of}
use Rattle.gtfs_services.proofs.CalendarDateFacts.{fields_pass}
use Rattle.gtfs_services.proofs.calendar_dates.read_row.Goals as goal

pub returns : goal.returns
returns c =
    let table = c.args.sheet.now in
    let row = c.args.row in
    let at = λ (column : Option ℕ). text_under table column row in
    let service : c.text_under-service.result.now ≡ service_id table row = c.text_under-service.ensures ∙ ap at c.requires.columns.service in
    let there : is_empty (service_id table row) ≡ false = ap is_empty (sym service) ∙ sym c.is_empty.ensures ∙ c.if-is_empty.false in
    let day = c.in-Some.ensures ∙ ap date_of (c.text_under.ensures ∙ ap at c.requires.columns.date) in
    let change = c.in-Some-change_of.ensures ∙ ap change_of (c.text_under-2.ensures ∙ ap at c.requires.columns.exception_type) in
    fields_pass table row c.in_ok-new.field-0 c.in-Some.date c.in-Some-change_of.change there (c.in_ok-new.ensures ∙ service) day change

use Rattle.std.proofs.Common.{◌≡◌, ◌∙◌, sym, ap, ℕ, ◌-◌, true, false, [], ◌∷◌, Option}
use Rattle.gtfs_rows.specs.declared.fault.FaultKind.TheVariants as kinds
use Rattle.gtfs_rows.specs.declared.fault.FeedFile.TheVariants as files
use Rattle.gtfs_rows.specs.Faults.{first_fault, test}
use Rattle.gtfs_rows.specs.Rows.{rows_to, text_under}
use Rattle.gtfs_rows.proofs.RowFacts.{sooner}
use Rattle.gtfs_services.specs.CalendarDates.{field_tests}
use Rattle.gtfs_services.proofs.CalendarDateFacts.{Parts, row_parts, key_is}
use Rattle.file_faults.specs.Tables.{is_first_date}
use Rattle.file_faults.proofs.KeyFacts.{date-joins, date-new, date-stays}
use Rattle.file_faults.proofs.ListFacts.{on-ok-then}
use Rattle.file_faults.proofs.TableFacts.{last-fails, last-holds}
use Rattle.file_faults.proofs.calendars.date_fault.Goals as goal

pub returns-in-Err-clause-found : goal.returns-in-Err-clause-found
returns-in-Err-clause-found c =
    let table = c.args.sheet.now in
    let row = c.args.row in
    c.found.ensures.found _ (sooner c.in-Err.fault.kind (field_tests table row) (test kinds.DuplicateKey files.CalendarDates row (is_first_date table row) ∷ []) c.in-Err.fault c.in-Err.ensures)

pub returns-in-Err-clause-dates : goal.returns-in-Err-clause-dates
returns-in-Err-clause-dates c =
    let table = c.args.sheet.now in
    let row = c.args.row in
    on-ok-then c.found.result (c.found.ensures.fails (first_fault (field_tests table row)) c.in-Err.ensures)
    (λ fails. date-stays table (rows_to table (row - 1)) row c.args.dates.now.keys c.in-Err.fault c.requires.dates fails)

pub returns-then-is_new-clause-found : goal.returns-then-is_new-clause-found
returns-then-is_new-clause-found c =
    let table = c.args.sheet.now in
    let row = c.args.row in
    let service = c.text_under-service.ensures ∙ ap (λ (column : Option ℕ). text_under table column row) c.requires.columns.service in
    let d = c.service_date.result in
    let key : ◌≡◌ {A = Parts} (d.0.now, d.1, d.2, d.3) (row_parts table row) =
    key_is table row d.0.now d.1 d.2 d.3 c.text_under-service.result.now c.in-Ok.value
    c.service_date.ensures.service service c.service_date.ensures.year c.service_date.ensures.month c.service_date.ensures.day c.in-Ok.ensures.1 in
    let new : is_first_date table row ≡ true = sym (c.in_ok-is_new.ensures.added ∙ date-new table row c.args.dates.now.keys d c.requires.dates key) ∙ c.if-is_new.true in
    sym (last-holds (field_tests table row) (test kinds.DuplicateKey files.CalendarDates row (is_first_date table row)) c.in-Ok.ensures.0 new)

pub returns-then-is_new-clause-dates : goal.returns-then-is_new-clause-dates
returns-then-is_new-clause-dates c =
    let table = c.args.sheet.now in
    let row = c.args.row in
    let service = c.text_under-service.ensures ∙ ap (λ (column : Option ℕ). text_under table column row) c.requires.columns.service in
    let d = c.service_date.result in
    let key : ◌≡◌ {A = Parts} (d.0.now, d.1, d.2, d.3) (row_parts table row) =
    key_is table row d.0.now d.1 d.2 d.3 c.text_under-service.result.now c.in-Ok.value
    c.service_date.ensures.service service c.service_date.ensures.year c.service_date.ensures.month c.service_date.ensures.day c.in-Ok.ensures.1 in
    rw c.in_ok-is_new.ensures.keys (date-joins table (rows_to table (row - 1)) row c.args.dates.now.keys d c.requires.dates key c.in-Ok.ensures.0)

pub returns-else-is_new-clause-found : goal.returns-else-is_new-clause-found
returns-else-is_new-clause-found c =
    let table = c.args.sheet.now in
    let row = c.args.row in
    let service = c.text_under-service.ensures ∙ ap (λ (column : Option ℕ). text_under table column row) c.requires.columns.service in
    let d = c.service_date.result in
    let key : ◌≡◌ {A = Parts} (d.0.now, d.1, d.2, d.3) (row_parts table row) =
    key_is table row d.0.now d.1 d.2 d.3 c.text_under-service.result.now c.in-Ok.value
    c.service_date.ensures.service service c.service_date.ensures.year c.service_date.ensures.month c.service_date.ensures.day c.in-Ok.ensures.1 in
    let old : is_first_date table row ≡ false = sym (c.in_ok-is_new.ensures.added ∙ date-new table row c.args.dates.now.keys d c.requires.dates key) ∙ c.if-is_new.false in
    rw c.new.ensures (sym (last-fails (field_tests table row) (test kinds.DuplicateKey files.CalendarDates row (is_first_date table row)) c.in-Ok.ensures.0 old))

pub returns-else-is_new-clause-dates : goal.returns-else-is_new-clause-dates
returns-else-is_new-clause-dates c =
    let table = c.args.sheet.now in
    let row = c.args.row in
    let service = c.text_under-service.ensures ∙ ap (λ (column : Option ℕ). text_under table column row) c.requires.columns.service in
    let d = c.service_date.result in
    let key : ◌≡◌ {A = Parts} (d.0.now, d.1, d.2, d.3) (row_parts table row) =
    key_is table row d.0.now d.1 d.2 d.3 c.text_under-service.result.now c.in-Ok.value
    c.service_date.ensures.service service c.service_date.ensures.year c.service_date.ensures.month c.service_date.ensures.day c.in-Ok.ensures.1 in
    rw c.in_ok-is_new.ensures.keys (date-joins table (rows_to table (row - 1)) row c.args.dates.now.keys d c.requires.dates key c.in-Ok.ensures.0)

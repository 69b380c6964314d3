use Rattle.std.proofs.Common.{◌≡◌, ◌∙◌, sym, ap, refl, ℕ, ◌-◌, true, false, [], ◌∷◌, ◌++◌, Option}
use Rattle.gtfs_rows.specs.declared.fault.FaultKind.TheVariants as kinds
use Rattle.gtfs_rows.specs.declared.fault.FeedFile.TheVariants as files
use Rattle.gtfs_rows.specs.Faults.{first_fault, test}
use Rattle.gtfs_rows.specs.Rows.{is_empty, rows_to, text_under, texts_in}
use Rattle.gtfs_rows.proofs.RowFacts.{first_more, later, sooner}
use Rattle.gtfs_calls.specs.StopTimes.{is_skipped, key_tests, stay_tests}
use Rattle.file_faults.specs.Tables.{is_first_call}
use Rattle.file_faults.proofs.KeyFacts.{call-joins, call-new, call-skipped, call-stays}
use Rattle.file_faults.proofs.ListFacts.{on-ok, on-ok-then}
use Rattle.file_faults.proofs.TableFacts.{last-holds}
use Rattle.file_faults.proofs.calls.call_fault.Goals as goal

-- a row without a stop_id is skipped

pub returns-then-is_empty-clause-found : goal.returns-then-is_empty-clause-found
returns-then-is_empty-clause-found c =
    let table = c.args.sheet.now in
    let row = c.args.row in
    let stop = c.text_under.ensures ∙ ap (λ (column : Option ℕ). text_under table column row) c.requires.columns.stop in
    let skipped : is_skipped table row ≡ true = ap is_empty (sym stop) ∙ sym c.is_empty.ensures ∙ c.if-is_empty.true in
    rw skipped refl

pub returns-then-is_empty-clause-seen : goal.returns-then-is_empty-clause-seen
returns-then-is_empty-clause-seen c =
    let table = c.args.sheet.now in
    let row = c.args.row in
    let stop = c.text_under.ensures ∙ ap (λ (column : Option ℕ). text_under table column row) c.requires.columns.stop in
    let skipped : is_skipped table row ≡ true = ap is_empty (sym stop) ∙ sym c.is_empty.ensures ∙ c.if-is_empty.true in
    c.requires.seen ∙ call-skipped (texts_in c.args.stops.now.keys) (texts_in c.args.trips.now.keys) table (rows_to table (row - 1)) row skipped

-- the others by their keys, and then by the rest of their tests

pub returns-in-Err-clause-found : goal.returns-in-Err-clause-found
returns-in-Err-clause-found c =
    let stops = texts_in c.args.stops.now.keys in
    let trips = texts_in c.args.trips.now.keys in
    let table = c.args.sheet.now in
    let row = c.args.row in
    let stop = c.text_under.ensures ∙ ap (λ (column : Option ℕ). text_under table column row) c.requires.columns.stop in
    let kept : is_skipped table row ≡ false = ap is_empty (sym stop) ∙ sym c.is_empty.ensures ∙ c.if-is_empty.false in
    rw kept (c.found.ensures.found _ (sooner c.in-Err.fault.kind (key_tests stops trips table row)
    (test kinds.DuplicateKey files.StopTimes row (is_first_call stops trips table row) ∷ stay_tests table row) c.in-Err.fault c.in-Err.ensures))

pub returns-in-Err-clause-seen : goal.returns-in-Err-clause-seen
returns-in-Err-clause-seen c =
    let stops = texts_in c.args.stops.now.keys in
    let trips = texts_in c.args.trips.now.keys in
    let table = c.args.sheet.now in
    let row = c.args.row in
    on-ok-then c.found.result (c.found.ensures.fails (first_fault (key_tests stops trips table row)) c.in-Err.ensures)
    (λ fails. c.requires.seen ∙ call-stays stops trips table (rows_to table (row - 1)) row c.in-Err.fault fails)

pub returns-then-not-is_new-clause-found : goal.returns-then-not-is_new-clause-found
returns-then-not-is_new-clause-found c =
    let stops = texts_in c.args.stops.now.keys in
    let trips = texts_in c.args.trips.now.keys in
    let table = c.args.sheet.now in
    let row = c.args.row in
    let stop = c.text_under.ensures ∙ ap (λ (column : Option ℕ). text_under table column row) c.requires.columns.stop in
    let kept : is_skipped table row ≡ false = ap is_empty (sym stop) ∙ sym c.is_empty.ensures ∙ c.if-is_empty.false in
    let old : is_first_call stops trips table row ≡ false = sym (c.in_ok-is_new.ensures.added ∙ call-new stops trips table row c.args.seen.now.keys c.in-Ok.key c.requires.seen c.in-Ok.ensures.1) ∙ c.if-not-is_new.true in
    rw (kept, c.new.ensures)
    (sym (first_more (key_tests stops trips table row) (test kinds.DuplicateKey files.StopTimes row (is_first_call stops trips table row) ∷ stay_tests table row) c.in-Ok.ensures.0 ∙ rw old refl))

pub returns-then-not-is_new-clause-seen : goal.returns-then-not-is_new-clause-seen
returns-then-not-is_new-clause-seen c =
    let stops = texts_in c.args.stops.now.keys in
    let trips = texts_in c.args.trips.now.keys in
    let table = c.args.sheet.now in
    let row = c.args.row in
    let stop = c.text_under.ensures ∙ ap (λ (column : Option ℕ). text_under table column row) c.requires.columns.stop in
    let kept : is_skipped table row ≡ false = ap is_empty (sym stop) ∙ sym c.is_empty.ensures ∙ c.if-is_empty.false in
    c.in_ok-is_new.ensures.keys ∙ call-joins stops trips table (rows_to table (row - 1)) row c.args.seen.now.keys c.in-Ok.key c.requires.seen c.in-Ok.ensures.1 c.in-Ok.ensures.0 kept

pub returns-in-Ok-test_stay-clause-found : goal.returns-in-Ok-test_stay-clause-found
returns-in-Ok-test_stay-clause-found c =
    let stops = texts_in c.args.stops.now.keys in
    let trips = texts_in c.args.trips.now.keys in
    let table = c.args.sheet.now in
    let row = c.args.row in
    let stop = c.text_under.ensures ∙ ap (λ (column : Option ℕ). text_under table column row) c.requires.columns.stop in
    let kept : is_skipped table row ≡ false = ap is_empty (sym stop) ∙ sym c.is_empty.ensures ∙ c.if-is_empty.false in
    let new : is_first_call stops trips table row ≡ true = sym (c.in_ok-is_new.ensures.added ∙ call-new stops trips table row c.args.seen.now.keys c.in-Ok.key c.requires.seen c.in-Ok.ensures.1) ∙ c.if-not-is_new.false in
    let dup = test kinds.DuplicateKey files.StopTimes row (is_first_call stops trips table row) in
    rw kept (sym (first_more (key_tests stops trips table row ++ dup ∷ []) (stay_tests table row) (last-holds (key_tests stops trips table row) dup c.in-Ok.ensures.0 new) ∙ c.in-Ok-test_stay.ensures))

pub returns-in-Ok-test_stay-clause-seen : goal.returns-in-Ok-test_stay-clause-seen
returns-in-Ok-test_stay-clause-seen c =
    let stops = texts_in c.args.stops.now.keys in
    let trips = texts_in c.args.trips.now.keys in
    let table = c.args.sheet.now in
    let row = c.args.row in
    let stop = c.text_under.ensures ∙ ap (λ (column : Option ℕ). text_under table column row) c.requires.columns.stop in
    let kept : is_skipped table row ≡ false = ap is_empty (sym stop) ∙ sym c.is_empty.ensures ∙ c.if-is_empty.false in
    c.in_ok-is_new.ensures.keys ∙ call-joins stops trips table (rows_to table (row - 1)) row c.args.seen.now.keys c.in-Ok.key c.requires.seen c.in-Ok.ensures.1 c.in-Ok.ensures.0 kept

pub returns-in-Err-test_stay-clause-found : goal.returns-in-Err-test_stay-clause-found
returns-in-Err-test_stay-clause-found c =
    let stops = texts_in c.args.stops.now.keys in
    let trips = texts_in c.args.trips.now.keys in
    let table = c.args.sheet.now in
    let row = c.args.row in
    let stop = c.text_under.ensures ∙ ap (λ (column : Option ℕ). text_under table column row) c.requires.columns.stop in
    let kept : is_skipped table row ≡ false = ap is_empty (sym stop) ∙ sym c.is_empty.ensures ∙ c.if-is_empty.false in
    let new : is_first_call stops trips table row ≡ true = sym (c.in_ok-is_new.ensures.added ∙ call-new stops trips table row c.args.seen.now.keys c.in-Ok.key c.requires.seen c.in-Ok.ensures.1) ∙ c.if-not-is_new.false in
    let dup = test kinds.DuplicateKey files.StopTimes row (is_first_call stops trips table row) in
    rw kept (c.found-in-Err-test_stay.ensures.found _ (later c.in-Err-test_stay.fault.kind (key_tests stops trips table row ++ dup ∷ []) (stay_tests table row) c.in-Err-test_stay.fault
    (last-holds (key_tests stops trips table row) dup c.in-Ok.ensures.0 new) c.in-Err-test_stay.ensures))

pub returns-in-Err-test_stay-clause-seen : goal.returns-in-Err-test_stay-clause-seen
returns-in-Err-test_stay-clause-seen c =
    let stops = texts_in c.args.stops.now.keys in
    let trips = texts_in c.args.trips.now.keys in
    let table = c.args.sheet.now in
    let row = c.args.row in
    let stop = c.text_under.ensures ∙ ap (λ (column : Option ℕ). text_under table column row) c.requires.columns.stop in
    let kept : is_skipped table row ≡ false = ap is_empty (sym stop) ∙ sym c.is_empty.ensures ∙ c.if-is_empty.false in
    on-ok c.found-in-Err-test_stay.result
    (c.in_ok-is_new.ensures.keys ∙ call-joins stops trips table (rows_to table (row - 1)) row c.args.seen.now.keys c.in-Ok.key c.requires.seen c.in-Ok.ensures.1 c.in-Ok.ensures.0 kept)

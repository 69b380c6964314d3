use Rattle.std.proofs.Common.{◌≡◌, ◌∙◌, sym, ◌-◌, true, false, [], ◌∷◌}
use Rattle.gtfs_rows.specs.declared.fault.FaultKind.TheVariants as kinds
use Rattle.gtfs_rows.specs.declared.fault.FeedFile.TheVariants as files
use Rattle.gtfs_rows.specs.Faults.{first_fault, test}
use Rattle.gtfs_rows.specs.Rows.{rows_to, texts_in}
use Rattle.gtfs_rows.proofs.RowFacts.{sooner}
use Rattle.gtfs_frequencies.specs.Frequencies.{field_tests}
use Rattle.gtfs_frequencies.proofs.FrequencyFacts.{key_is}
use Rattle.file_faults.specs.Tables.{is_first_start}
use Rattle.file_faults.proofs.KeyFacts.{start-joins, start-new, start-stays}
use Rattle.file_faults.proofs.ListFacts.{on-ok-then}
use Rattle.file_faults.proofs.TableFacts.{last-fails, last-holds}
use Rattle.file_faults.proofs.links.start_fault.Goals as goal

pub returns-in-Err-clause-found : goal.returns-in-Err-clause-found
returns-in-Err-clause-found c =
    let trips = texts_in c.args.trips.now.keys in
    let table = c.args.sheet.now in
    let row = c.args.row in
    c.found.ensures.found _ (sooner c.in-Err.fault.kind (field_tests trips table row) (test kinds.DuplicateKey files.Frequencies row (is_first_start trips table row) ∷ []) c.in-Err.fault c.in-Err.ensures.value)

pub returns-in-Err-clause-seen : goal.returns-in-Err-clause-seen
returns-in-Err-clause-seen c =
    let trips = texts_in c.args.trips.now.keys in
    let table = c.args.sheet.now in
    let row = c.args.row in
    on-ok-then c.found.result (c.found.ensures.fails (first_fault (field_tests trips table row)) c.in-Err.ensures.value)
    (λ fails. c.requires.seen ∙ start-stays trips table (rows_to table (row - 1)) row c.in-Err.fault fails)

pub returns-then-is_new-clause-found : goal.returns-then-is_new-clause-found
returns-then-is_new-clause-found c =
    let trips = texts_in c.args.trips.now.keys in
    let table = c.args.sheet.now in
    let row = c.args.row in
    let key = key_is trips table row c.in-Ok.value c.in-Ok.ensures.value.1 in
    let new : is_first_start trips table row ≡ true = sym (c.in_ok-is_new.ensures.added ∙ start-new trips table row c.args.seen.now.keys (c.in-Ok.value.trip, c.in-Ok.value.start) c.requires.seen key) ∙ c.if-is_new.true in
    sym (last-holds (field_tests trips table row) (test kinds.DuplicateKey files.Frequencies row (is_first_start trips table row)) c.in-Ok.ensures.value.0 new)

pub returns-then-is_new-clause-seen : goal.returns-then-is_new-clause-seen
returns-then-is_new-clause-seen c =
    let trips = texts_in c.args.trips.now.keys in
    let table = c.args.sheet.now in
    let row = c.args.row in
    let key = key_is trips table row c.in-Ok.value c.in-Ok.ensures.value.1 in
    c.in_ok-is_new.ensures.keys ∙ start-joins trips table (rows_to table (row - 1)) row c.args.seen.now.keys (c.in-Ok.value.trip, c.in-Ok.value.start) c.requires.seen key c.in-Ok.ensures.value.0

pub returns-else-is_new-clause-found : goal.returns-else-is_new-clause-found
returns-else-is_new-clause-found c =
    let trips = texts_in c.args.trips.now.keys in
    let table = c.args.sheet.now in
    let row = c.args.row in
    let key = key_is trips table row c.in-Ok.value c.in-Ok.ensures.value.1 in
    let old : is_first_start trips table row ≡ false = sym (c.in_ok-is_new.ensures.added ∙ start-new trips table row c.args.seen.now.keys (c.in-Ok.value.trip, c.in-Ok.value.start) c.requires.seen key) ∙ c.if-is_new.false in
    rw c.new.ensures (sym (last-fails (field_tests trips table row) (test kinds.DuplicateKey files.Frequencies row (is_first_start trips table row)) c.in-Ok.ensures.value.0 old))

pub returns-else-is_new-clause-seen : goal.returns-else-is_new-clause-seen
returns-else-is_new-clause-seen c =
    let trips = texts_in c.args.trips.now.keys in
    let table = c.args.sheet.now in
    let row = c.args.row in
    let key = key_is trips table row c.in-Ok.value c.in-Ok.ensures.value.1 in
    c.in_ok-is_new.ensures.keys ∙ start-joins trips table (rows_to table (row - 1)) row c.args.seen.now.keys (c.in-Ok.value.trip, c.in-Ok.value.start) c.requires.seen key c.in-Ok.ensures.value.0

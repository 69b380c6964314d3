use Rattle.std.proofs.Common.{◌≡◌, ◌∙◌, ◌++◌, ◌+◌, ◌-◌, true, sym, ap, subst, arith, ℕ, length, map}
use Rattle.std.specs.Prelude.{option_map}
use Rattle.std.specs.List.{list_all}
use Rattle.std.proofs.lemmas.List.{length-map, map-append}
use Rattle.std.proofs.lemmas.List.Folds.{list_all-append}
use Rattle.std.proofs.lemmas.Result.{err_from_is_err_and}
use Rattle.csv.specs.Reading.{default_config, records}
use Rattle.gtfs_text.specs.Lines.{between_commas, line_at, rows_at}
use Rattle.gtfs_text.specs.Packed.{unpacked}
use Rattle.gtfs_text.specs.Reading.{ExplainsAfter}
use Rattle.gtfs_text.specs.Sheets.{bad_record, is_text, records_of, table_of, without_spaces}
use Rattle.gtfs_text.specs.declared.lines.Place.{Place}
use Rattle.gtfs_text.proofs.LinePlaces.{same_rows}
use Rattle.gtfs_text.proofs.MarkFacts.{ends_after_marks, strip_after}
use Rattle.gtfs_text.proofs.RecordFacts.{bad_after, explained_after}
use Rattle.gtfs_text.proofs.TrimFacts.{trimmed_table}
use Rattle.gtfs_text.proofs.records.kept_records.Goals as goal

-- the lines are those of the text after its marks
pub add_plain_lines-requires-clause-no_mark : goal.add_plain_lines-requires-clause-no_mark
add_plain_lines-requires-clause-no_mark c = rw c.after_marks.ensures (strip_after c.args.file.now)

pub add_plain_lines-requires-clause-end : goal.add_plain_lines-requires-clause-end
add_plain_lines-requires-clause-end c = rw c.after_marks.ensures (ends_after_marks c.args.file.now)

-- and they stand before the rest
pub returns-clause-records : goal.returns-clause-records
returns-clause-records c =
    let lines = c.in_ok-rest.ensures in
    let places = c.add_plain_lines.new.lines.items in
    let rows = rows_at c.args.file.now places in
    let more = records default_config c.in_ok-rest.rest.now in
    let whole : records_of c.args.file.now ≡ rows ++ more = ap (records default_config) (sym c.after_marks.ensures) ∙ lines.whole in
    rw (same_rows (length c.args.file.now - length c.in_ok-rest.rest.now) c.args.file.now places lines.before, c.in_ok-packed.ensures.records, whole) (sym (map-append (map without_spaces) rows more))

pub returns-clause-table_text : goal.returns-clause-table_text
returns-clause-table_text c =
    let places = c.add_plain_lines.new.lines.items in
    let rows = rows_at c.args.file.now places in
    let lines : list_all is_text (table_of rows) ≡ true = trimmed_table rows c.in_ok-rest.ensures.utf8 in
    let packed = map unpacked c.in_ok-packed.packed in
    rw (same_rows (length c.args.file.now - length c.in_ok-rest.rest.now) c.args.file.now places c.in_ok-rest.ensures.before)
    (rw (list_all-append is_text (table_of rows) packed, lines) c.in_ok-packed.ensures.packed_text)

-- the reader has the rest to read
pub returns-clause-text : goal.returns-clause-text
returns-clause-text c =
    let lines = c.in_ok-rest.ensures in
    let rows = rows_at c.args.file.now c.add_plain_lines.new.lines.items in
    let more = records default_config c.in_ok-rest.rest.now in
    let whole : records_of c.args.file.now ≡ rows ++ more = ap (records default_config) (sym c.after_marks.ensures) ∙ lines.whole in
    ap bad_record whole ∙ bad_after rows more lines.utf8 ∙ ap (option_map (λ (at : ℕ). length rows + at)) c.in_ok-packed.ensures.text

pub returns-in_err-packed-clause-fault : goal.returns-in_err-packed-clause-fault
returns-in_err-packed-clause-fault c =
    let lines = c.in_ok-rest.ensures in
    let places = c.add_plain_lines.new.lines.items in
    let rows = rows_at c.args.file.now places in
    let more = records default_config c.in_ok-rest.rest.now in
    let fault = c.in_err-packed.field-0.0 in
    let whole : records_of c.args.file.now ≡ rows ++ more = ap (records default_config) (sym c.after_marks.ensures) ∙ lines.whole in
    let same = length-map places (λ (place : Place). between_commas (line_at c.args.file.now place)) in
    let held = c.add_plain_lines.new.lines.ok.0 in
    let count : c.len.result ≡ length rows = omega (arith, c.len.ensures, held, same) in
    let why = subst (λ (n : ℕ). ExplainsAfter n more fault) count c.in_err-packed.ensures.fault in
    let p = err_from_is_err_and c.from_residual-in_err-packed.result c.from_residual-in_err-packed.ensures.1 in
    rw (p.1, p.2, whole) (explained_after rows more fault lines.utf8 why)

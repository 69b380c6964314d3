use Rattle.std.proofs.Common.{◌≡◌, ◌∙◌, [], ℕ, ap, take, get_or}
use Rattle.gtfs_text.specs.Commas.{fields_from}
use Rattle.gtfs_text.specs.Rows.{kept_table}
use Rattle.gtfs_text.specs.Sheets.{is_text}
use Rattle.gtfs_text.proofs.DigitFacts.{take_some}
use Rattle.gtfs_text.proofs.RowFacts.{line_row}
use Rattle.gtfs_text.proofs.row.put_fields.Goals as goal

pub add_line-requires-clause-text : goal.add_line-requires-clause-text
add_line-requires-clause-text c =
    let text = c.text_from-text.result.now in
    let same = ap (λ (n : ℕ). take n text) c.min-size.ensures ∙ take_some _ text ∙ ap (take _) c.text_from-text.ensures in
    let row : fields_from (take c.min-size.result text) 0 ≡ get_or (kept_table c.args.file.now c.args.lines.now c.args.packed.now) c.args.number [] =
    line_row c.args.file.now c.args.lines.now c.args.packed.now c.args.number _ (take c.min-size.result text) c.if-number-lines.true same in
    ap is_text row ∙ c.requires

pub returns-then-number-lines : goal.returns-then-number-lines
returns-then-number-lines c =
    let text = c.text_from-text.result.now in
    let same = ap (λ (n : ℕ). take n text) c.min-size.ensures ∙ take_some _ text ∙ ap (take _) c.text_from-text.ensures in
    let row : fields_from (take c.min-size.result text) 0 ≡ get_or (kept_table c.args.file.now c.args.lines.now c.args.packed.now) c.args.number [] =
    line_row c.args.file.now c.args.lines.now c.args.packed.now c.args.number _ (take c.min-size.result text) c.if-number-lines.true same in
    rw row at (rw c.clear.ensures.items at c.add_line.ensures)

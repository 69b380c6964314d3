use Rattle.std.proofs.Common.{◌∙◌}
use Rattle.gtfs_text.proofs.CellFacts.{row_is}
use Rattle.gtfs_text.proofs.RowFacts.{line_row, packed_row}
use Rattle.gtfs_text.proofs.row.row_at.Goals as goal

pub returns-then-number-lines : goal.returns-then-number-lines
returns-then-number-lines c =
    line_row c.args.file.now c.args.lines.now c.args.packed.now c.args.number _ c.text_at.result.now c.if-number-lines.true c.text_at.ensures

pub returns : goal.returns
returns c =
    row_is c.args.packed.now _ c.get.result.now c.get.ensures
    ∙ packed_row c.args.file.now c.args.lines.now c.args.packed.now c.args.number c.if-number-lines.false

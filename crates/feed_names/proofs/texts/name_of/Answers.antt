use Rattle.std.proofs.Common.{◌∙◌, sym}
use Rattle.gtfs_text.specs.Sheets.{column_of}
use Rattle.feed_names.proofs.RowFacts.{is_row}
use Rattle.feed_names.proofs.texts.name_of.Goals as goal

pub of_row-requires : goal.of_row-requires
of_row-requires g c =
    is_row c.args.sheet.now (column_of c.args.sheet.now g.T.NamedRow.key) c.args.id.now c.in-Some.row.now (sym c.requires ∙ sym c.in-Some.ensures.value)

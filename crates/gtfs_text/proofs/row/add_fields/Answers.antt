use Rattle.std.proofs.Common.{◌∙◌, sym, ap}
use Rattle.std.specs.Str.{is_utf8}
use Rattle.std.proofs.lemmas.Str.{IsUtf8-from_is_utf8}
use Rattle.gtfs_text.specs.Rows.{fields_in}
use Rattle.gtfs_text.specs.Sheets.{is_text}
use Rattle.gtfs_text.proofs.TestFacts.{both}
use Rattle.gtfs_text.proofs.row.add_fields.Goals as goal

pub from_utf8_unchecked-requires : goal.from_utf8_unchecked-requires
from_utf8_unchecked-requires c =
    let field = c.in-Some.field.now in
    let after = fields_in c.in-Some.after in
    IsUtf8-from_is_utf8 field (both (is_utf8 field) (is_text after) (ap is_text (sym c.in-Some.ensures) ∙ c.fields.invariant.text)).0

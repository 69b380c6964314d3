use Rattle.std.proofs.Common.{[], get_or}
use Rattle.std.proofs.lemmas.Str.{IsUtf8-from_is_utf8}
use Rattle.gtfs_text.specs.Rows.{fields_in}
use Rattle.gtfs_text.proofs.CellFacts.{utf8_in}
use Rattle.gtfs_text.proofs.sheet.Sheet.field.Goals as goal

pub from_utf8_unchecked-requires : goal.from_utf8_unchecked-requires
from_utf8_unchecked-requires c = rw c.field_at.ensures (IsUtf8-from_is_utf8 (get_or (fields_in c.row.result) c.args.column []) (utf8_in (fields_in c.row.result) c.args.column c.row.ensures.text))

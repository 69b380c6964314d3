use Rattle.std.proofs.Common.{◌≡◌, [], length, get_or}
use Rattle.gtfs_text.specs.Rows.{fields_in}
use Rattle.gtfs_text.proofs.row.field_at.Given as goal

abbrev pub invariant-fields : goal.invariant-fields
invariant-fields l = get_or (fields_in l.rest) l.before [] ≡ get_or (fields_in l.row) l.column []

abbrev pub decreases-fields : goal.decreases-fields
decreases-fields l = length (fields_in l.rest)

use Rattle.std.proofs.Common.{◌≡◌, true, ◌++◌, length, map}
use Rattle.gtfs_text.specs.Rows.{fields_in}
use Rattle.gtfs_text.specs.Sheets.{is_text}
use Rattle.gtfs_text.proofs.row.add_fields.Given as goal

abbrev pub invariant-fields : goal.invariant-fields
invariant-fields l = record {
  whole : map (λ field. field.now) l.fields.items ++ fields_in l.rest ≡ map (λ field. field.now) l.fn.fields.items ++ fields_in l.row;
  text : is_text (fields_in l.rest) ≡ true;
}

abbrev pub decreases-fields : goal.decreases-fields
decreases-fields l = length (fields_in l.rest)

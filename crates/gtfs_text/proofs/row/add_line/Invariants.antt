use Rattle.std.proofs.Common.{◌≡◌, ◌≤◌, ◌++◌, ◌-◌, true, map}
use Rattle.gtfs_text.specs.Commas.{HasNoComma, fields_from}
use Rattle.gtfs_text.specs.Sheets.{is_text}
use Rattle.gtfs_text.proofs.row.add_line.Given as goal

abbrev pub invariant-chunks : goal.invariant-chunks
invariant-chunks l = record {
  low : l.next ≤ l.at;
  within : l.next ≤ l.size;
  none : HasNoComma l.line l.next l.at;
  text : is_text (fields_from l.line l.next) ≡ true;
  whole : map (λ field. field.now) l.fields.items ++ fields_from l.line l.next ≡ map (λ field. field.now) l.fn.fields.items ++ fields_from l.line 0;
}

abbrev pub decreases-chunks : goal.decreases-chunks
decreases-chunks l = l.size - l.at

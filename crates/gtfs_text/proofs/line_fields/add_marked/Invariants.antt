use Rattle.std.proofs.Common.{◌≡◌, ◌+◌, ◌≤◌, ◌++◌, true, length, map}
use Rattle.gtfs_text.specs.Commas.{HasNoComma, MarksCommas, fields_from}
use Rattle.gtfs_text.specs.Sheets.{is_text}
use Rattle.gtfs_text.proofs.line_fields.add_marked.Given as goal

abbrev pub invariant-commas : goal.invariant-commas
invariant-commas l = record {
  low : l.next ≤ l.at + 64;
  within : l.next ≤ length l.line;
  none : HasNoComma l.line l.next l.at;
  marks : MarksCommas l.line l.at l.next l.left;
  text : is_text (fields_from l.line l.next) ≡ true;
  whole : map (λ field. field.now) l.fields.items ++ fields_from l.line l.next ≡ map (λ field. field.now) l.fn.fields.items ++ fields_from l.line l.start;
}

abbrev pub decreases-commas : goal.decreases-commas
decreases-commas l = l.left

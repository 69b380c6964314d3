use Rattle.std.proofs.Common.{◌≡◌, true, map, take}
use Rattle.std.specs.List.{list_all}
use Rattle.csv.specs.Records.{fields_of}
use Rattle.gtfs_text.specs.Sheets.{is_text, without_spaces}
use Rattle.gtfs_text.proofs.PackedFacts.{fits, packed_fields}
use Rattle.gtfs_text.proofs.packed.pack.Given as goal

abbrev pub invariant-loop-column : goal.invariant-loop-column
invariant-loop-column l = record {
  packed : l.packed.items ≡ packed_fields (map without_spaces (take l.column (fields_of l.row)));
  text : is_text (map without_spaces (take l.column (fields_of l.row))) ≡ true;
  small : list_all fits (map without_spaces (take l.column (fields_of l.row))) ≡ true;
}

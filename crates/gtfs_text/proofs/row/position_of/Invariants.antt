use Rattle.std.proofs.Common.{◌≡◌, length, ◌+◌}
use Rattle.std.specs.List.{position_from}
use Rattle.std.specs.Str.{bytes_eq}
use Rattle.gtfs_text.specs.Rows.{fields_in}
use Rattle.gtfs_text.proofs.row.position_of.Given as goal

abbrev pub invariant-loop-column : goal.invariant-loop-column
invariant-loop-column l = record {
  count : l.column + length (fields_in l.rest) ≡ length (fields_in l.row);
  same : position_from (λ field. bytes_eq field l.text) l.column (fields_in l.rest) ≡ position_from (λ field. bytes_eq field l.text) 0 (fields_in l.row);
}

use Rattle.std.proofs.Common.{◌≡◌, ◌==◌, length, take, ◌-◌}
use Rattle.std.specs.List.{list_all}
use Rattle.gtfs_text.specs.Rows.{fields_in}
use Rattle.gtfs_text.proofs.row.is_empty_in.Given as goal

abbrev pub invariant-columns : goal.invariant-columns
invariant-columns l = list_all (λ field. length field == 0) (take (l.columns - l.counter) (fields_in l.rest)) ≡ list_all (λ field. length field == 0) (take l.columns (fields_in l.row))

use Rattle.std.proofs.Common.{◌≡◌, ℕ, List, true, ◌+◌, ◌≤◌}
use Rattle.feed_names.specs.Rows.{is_among, row_of}
use Rattle.feed_names.proofs.RowFacts.{row_from}
use Rattle.gtfs_text.specs.Sheets.{row_count}
use Rattle.feed_names.proofs.rows.rows_by.Given as goal

abbrev pub invariant-rows : goal.invariant-rows
invariant-rows l = record {
  within : l.row ≤ row_count l.sheet;
  first : (id : List ℕ) → is_among l.ids id ≡ true → row_of l.rows id ≡ row_from l.sheet l.column (l.row + 1) id;
}

abbrev pub decreases-rows : goal.decreases-rows
decreases-rows l = l.row

-- Which station a stop's number names, in plain words.
-- GTFS Schedule, stops.txt.
use Rattle.std.specs.Prelude.{◌≡◌, ℕ, true, false, None, Some, IsSomeAnd, slice_get}
use Rattle.std.specs.List.{All}
use Rattle.gtfs_text.specs.Sheets.{Table}
use Rattle.gtfs_rows.specs.Faults.{first_fault}
use Rattle.gtfs_rows.specs.Rows.{is_empty}
use Rattle.gtfs_stops.specs.declared.stops.RowKind.TheVariants as row_kinds
use Rattle.gtfs_stops.specs.Stops.{ids_of_kind, parent_station, rows_of_kind, stop_among, stops_tests}

-- a row's stop has no station if the row names no parent_station, else the number of the station that it names
pub record HasItsStation (table : Table) (row : ℕ) : Type 0 where
  pub alone : is_empty (parent_station table row) ≡ true → (stop_among (ids_of_kind row_kinds.Station table) table row).station ≡ None
  pub named : is_empty (parent_station table row) ≡ false → IsSomeAnd (stop_among (ids_of_kind row_kinds.Station table) table row).station
      (λ number. slice_get (ids_of_kind row_kinds.Station table) number ≡ Some (parent_station table row))

-- so has each stop of a file whose tests hold
abbrev pub StopsHaveTheirStations : Type 0
StopsHaveTheirStations = (table : Table) → first_fault (stops_tests table) ≡ None → All (HasItsStation table) (rows_of_kind row_kinds.Stop table)

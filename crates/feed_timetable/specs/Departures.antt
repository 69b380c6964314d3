-- When trips depart that frequencies.txt repeats. GTFS Schedule, frequencies.txt.
use Rattle.std.specs.Prelude.{◌≡◌, ℕ, ◌+◌, ◌*◌, ◌==◌, List, [], ◌∷◌, map, nat_lt, if◌then◌else◌}
use Rattle.std.specs.List.{filter, flat_map, fold, range_with_len}
use Rattle.gtfs_rows.specs.declared.values.Frequency.{Frequency}
use Rattle.gtfs_tables.specs.Tables.{TableValues}
use Rattle.feed_ids.specs.Groups.{group}

-- the rows that repeat the trip, in file order
abbrev pub rows_of : TableValues → ℕ → List Frequency
rows_of t trip = filter (λ row. trip == row.trip) t.frequencies

-- the rows that repeat each trip, by its number
abbrev pub AreRepeats : TableValues → List (List Frequency) → Type 0
AreRepeats t repeats = (trip : ℕ) → group repeats trip ≡ rows_of t trip

-- when a row has its trip depart: at start_time, and again each headway_secs as long as it is before end_time
unfoldable pub departures : Frequency → List ℕ
departures row = filter (λ time. nat_lt time row.end) (map (λ x. row.start + x * row.headway) (range_with_len 0 row.end))

-- a time put among others, after those that are no later
abbrev pub placed : List ℕ → ℕ → List ℕ
placed [] time = time ∷ []
placed (first ∷ rest) time = if nat_lt time first then time ∷ first ∷ rest else first ∷ placed rest time

-- times from the earliest on
unfoldable pub by_time : List ℕ → List ℕ
by_time times = fold placed [] times

-- when rows have their trip depart: each departure of each row, by time and then by row
abbrev pub departures_by : List Frequency → List ℕ
departures_by rows = by_time (flat_map departures rows)

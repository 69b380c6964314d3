-- On which covered days services run, as they are kept while instances are listed. Only private clauses cite these words.
use Rattle.std.specs.Prelude.{ℕ, zero, suc, ◌+◌, map, ◌&&◌, ◌==◌, nat_le, Bool, false, List, [], ◌++◌, length, slice_get}
use Rattle.std.specs.Prelude.{slice_index_or, if◌then◌else◌}
use Rattle.std.specs.Option.{option_map, unwrap_or}
use Rattle.std.specs.List.{filter_map, flat_map}
use Rattle.gtfs_rows.specs.declared.values.Frequency.{Frequency}
use Rattle.gtfs_tables.specs.Tables.{TableValues, calls_of}
use Rattle.service_days.specs.Cover.{CoverDays}
pub use Rattle.service_days.specs.Running.{AreRunning}
use Rattle.timetable.specs.Table.{Run}
use Rattle.feed_timetable.specs.Departures.{departures}
use Rattle.feed_timetable.specs.Instances.{calls_from, first_departure, instances_before, instances_on, calls_left, run_before}

-- the number of a trip's service
abbrev pub service_of : TableValues → ℕ → ℕ
service_of t trip = unwrap_or (option_map (λ row. row.service) (slice_get t.trips trip)) 0

-- how many instances a trip has on a day that these rows repeat, if any do
abbrev pub times_by : List Frequency → ℕ
times_by rows = if length rows == 0 then 1 else length (flat_map departures rows)

-- a trip's instances on a day that starts at this moment, one for each of these departures
abbrev pub repeated_from : TableValues → ℕ → ℕ → ℕ → List ℕ → List Run
repeated_from t start day trip times =
    map (λ calls. record { trip = trip; day = day; calls = calls })
    (map (λ time. calls_from (start + time) (first_departure (calls_of t trip)) (calls_of t trip)) times)

-- its instances on the day before the first covered day, which starts so long before it, for these departures
abbrev pub repeated_before : TableValues → ℕ → ℕ → List ℕ → List Run
repeated_before t before trip times =
    filter_map (λ calls. run_before trip (calls_left before calls))
    (map (λ time. calls_from time (first_departure (calls_of t trip)) (calls_of t trip)) times)

-- whether the trip runs on the day of this number in the answers: 0 is the day before the first covered day, 1 the first
abbrev pub is_due : TableValues → List (List Bool) → ℕ → ℕ → Bool
is_due t running day trip =
    slice_index_or (slice_index_or running (service_of t trip) []) day false && nat_le 2 (length (calls_of t trip))

-- the instances on the day before the first covered day of the trips before this one
abbrev pub listed_first : TableValues → CoverDays → List (List Bool) → ℕ → List Run
listed_first t c running zero = []
listed_first t c running (suc trip) =
    if is_due t running 0 trip then listed_first t c running trip ++ instances_before t c trip else listed_first t c running trip

-- `before`, and the instances on a covered day of the trips before this one
abbrev pub listed_on : TableValues → CoverDays → List (List Bool) → List Run → ℕ → ℕ → List Run
listed_on t c running before day zero = before
listed_on t c running before day (suc trip) =
    if is_due t running (day + 1) trip then listed_on t c running before day trip ++ instances_on t c day trip
    else listed_on t c running before day trip

-- the instances on the days before this one, and on the day before the first
abbrev pub listed_before : TableValues → CoverDays → List (List Bool) → ℕ → List Run
listed_before t c running zero = listed_first t c running (length t.trips)
listed_before t c running (suc day) = listed_on t c running (listed_before t c running day) day (length t.trips)

-- those, and the instances on the day of the trips before this one
abbrev pub listed : TableValues → CoverDays → List (List Bool) → ℕ → ℕ → List Run
listed t c running day trip = listed_on t c running (listed_before t c running day) day trip

-- all of them
abbrev pub listed_all : TableValues → CoverDays → List (List Bool) → List Run
listed_all t c running = listed_before t c running (length c.starts)

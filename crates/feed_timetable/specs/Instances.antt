-- The instances of a feed's trips on the covered days.
use Rattle.std.specs.Prelude.{◌≡◌, ℕ, ◌+◌, ◌-◌, ◌==◌, ◌&&◌, nat_le, Option, Some, None, List, [], ◌∷◌, ◌++◌, length, map, filter}
use Rattle.std.specs.Prelude.{get_or, slice_get, slice_index, if◌then◌else◌}
use Rattle.std.specs.Option.{option_and_then, unwrap_or}
use Rattle.std.specs.List.{filter_map, flat_map, range_with_len, zip}
use Rattle.jiff_core.specs.declared.civil.date.Date.{Date}
use Rattle.gtfs_tables.specs.Tables.{TableValues, calls_of}
use Rattle.gtfs_calls.specs.Times.{at, filled}
use Rattle.gtfs_rows.specs.declared.values.Frequency.{Frequency}
use Rattle.gtfs_rows.specs.declared.values.StopTime.{StopTime}
use Rattle.gtfs_calls.specs.declared.times.CallTimes.{CallTimes}
use Rattle.service_days.specs.Cover.{CoverDays, IsCovered}
use Rattle.service_days.specs.Noon.{IsDaysAfter}
use Rattle.service_days.specs.Runs.{runs}
use Rattle.timetable.specs.declared.parts.Call.{Call}
use Rattle.timetable.specs.Table.{Run}
use Rattle.feed_timetable.specs.Departures.{rows_of, departures_by}

-- the id of a trip's service
abbrev pub service_id : TableValues → ℕ → List ℕ
service_id t trip = unwrap_or (option_and_then (λ row. slice_get t.services row.service) (slice_get t.trips trip)) []

-- a call of a trip that at this moment is so far in its own times; times before are then
abbrev pub call_from : ℕ → ℕ → StopTime → CallTimes → Call
call_from moment from call times = record {
  arrival = moment + (times.arrival - from);
  departure = moment + (times.departure - from);
  stop = call.stop;
  board = call.board;
  alight = call.alight;
}

-- the calls of a trip that at this moment is so far in its own times, which are filled in
abbrev pub calls_from : ℕ → ℕ → List StopTime → List Call
calls_from moment from calls = map (λ c. call_from moment from c.0 c.1) (zip calls (filled calls))

-- when a trip departs first, by its own times
abbrev pub first_departure : List StopTime → ℕ
first_departure calls = (get_or (filled calls) 0 (at 0 0)).departure

-- A trip's calls on a service day that starts at this moment: once by its own times, or, if rows repeat it, once for each of their
-- departures. The first call arrives and departs then, and the others keep their distance from it.
abbrev pub calls_by : List Frequency → ℕ → List StopTime → List (List Call)
calls_by rows start calls =
    if length rows == 0 then calls_from start 0 calls ∷ []
    else map (λ time. calls_from (start + time) (first_departure calls) calls) (departures_by rows)

-- the instances of a trip on a day of this number, which starts at this moment
abbrev pub instances_from : TableValues → ℕ → ℕ → ℕ → List Run
instances_from t start day trip =
    map (λ calls. record { trip = trip; day = day; calls = calls }) (calls_by (rows_of t trip) start (calls_of t trip))

-- those on a covered day
abbrev pub instances_on : TableValues → CoverDays → ℕ → ℕ → List Run
instances_on t c day trip = instances_from t (slice_index c.starts day) day trip

-- of calls those that don't depart earlier than `before` seconds after the start of their day, counted from then; an arrival before is then
abbrev pub calls_left : ℕ → List Call → List Call
calls_left before calls =
    map (λ call. record {
      arrival = call.arrival - before;
      departure = call.departure - before;
      stop = call.stop;
      board = call.board;
      alight = call.alight;
    }) (filter (λ call. nat_le before call.departure) calls)

-- a trip on the day before the first covered day with these calls, if they are two or more
abbrev pub run_before : ℕ → List Call → Option Run
run_before trip calls = if nat_le 2 (length calls) then Some (record { trip = trip; day = 255; calls = calls }) else None

-- the instances of a trip on that day: without the calls that depart before moment 0, those with two calls left
abbrev pub instances_before : TableValues → CoverDays → ℕ → List Run
instances_before t c trip =
    filter_map (λ calls. run_before trip (calls_left c.before calls)) (calls_by (rows_of t trip) 0 (calls_of t trip))

-- the trips of two calls or more whose service runs on the date, by their rows
abbrev pub trips_on : TableValues → Date → List ℕ
trips_on t date =
    filter (λ trip. runs t (service_id t trip) date && nat_le 2 (length (calls_of t trip))) (range_with_len 0 (length t.trips))

-- the instances of the day before the first covered day, and of each covered day, one after the other; on each day those of its trips
pub record AreInstances (t : TableValues) (c : CoverDays) (instances : List Run) : Type 0 where
  pub before : List ℕ
  pub running_before : (date : Date) → IsDaysAfter 1 date c.first → before ≡ trips_on t date
  pub trips : ℕ → List ℕ
  pub running : (day : ℕ) (date : Date) → IsCovered c day date → trips day ≡ trips_on t date
  pub instances_are : instances ≡ flat_map (instances_before t c) before
      ++ flat_map (λ day. flat_map (instances_on t c day) (trips day)) (range_with_len 0 (length c.starts))

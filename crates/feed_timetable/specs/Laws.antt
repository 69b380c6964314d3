-- What holds of the departures of every row of frequencies.txt, and of every list of instances.
use Rattle.std.specs.Prelude.{◌≡◌, ℕ, ◌+◌, ◌*◌, ◌<◌, ◌≤◌, List, length, get_or, IsPermutation}
use Rattle.std.specs.List.{All}
use Rattle.std.specs.List.Sorted.{IsNonDecreasing}
use Rattle.jiff_core.specs.declared.civil.date.Date.{Date}
use Rattle.timetable.specs.Table.{Run}
use Rattle.gtfs_rows.specs.declared.values.Frequency.{Frequency}
use Rattle.gtfs_tables.specs.Tables.{TableValues}
use Rattle.service_days.specs.Cover.{CoverDays, IsCovered}
use Rattle.service_days.specs.Noon.{IsDaysAfter}
use Rattle.feed_timetable.specs.Departures.{departures, by_time}
use Rattle.feed_timetable.specs.Instances.{AreInstances}

-- departure x of a row is at start_time + x * headway_secs, and there is one exactly if that is before end_time
abbrev pub DepartsByRow : Type 0
DepartsByRow =
    (row : Frequency) (x : ℕ) → 1 ≤ row.headway
    → (x < length (departures row) → row.start + x * row.headway < row.end)
    × (row.start + x * row.headway < row.end
    → (x < length (departures row)) × (get_or (departures row) x 0 ≡ row.start + x * row.headway))

-- times by time are the one list of the same times that never falls
abbrev pub HasOneOrder : Type 0
HasOneOrder = (times sorted : List ℕ) → IsPermutation times sorted → IsNonDecreasing sorted → sorted ≡ by_time times

-- tables and covered days have one list of instances, if each of the days and the day before them is a date
abbrev pub HasOneList : Type 0
HasOneList =
    (t : TableValues) (c : CoverDays) (a b : List Run)
    → ((before : Date) × IsDaysAfter 1 before c.first) → ((day : ℕ) → day < length c.starts → (date : Date) × IsCovered c day date)
    → AreInstances t c a → AreInstances t c b → a ≡ b

-- each instance is of a trip of the tables, if each of the days and the day before them is a date
abbrev pub HasKnownTrips : Type 0
HasKnownTrips =
    (t : TableValues) (c : CoverDays) (instances : List Run)
    → ((before : Date) × IsDaysAfter 1 before c.first) → ((day : ℕ) → day < length c.starts → (date : Date) × IsCovered c day date)
    → AreInstances t c instances → All (λ run. run.trip < length t.trips) instances

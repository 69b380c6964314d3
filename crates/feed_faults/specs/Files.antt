-- The faults of a feed: of each file in its order those of each of its rows.
-- GTFS Schedule reference, "Dataset files".
use Rattle.std.specs.Prelude.{ℕ, List, [], ◌∷◌, ◌++◌, Option, None, Some, is_some, is_none, if◌then◌else◌, ◌||◌}
use Rattle.gtfs_text.specs.Sheets.{Table}
use Rattle.gtfs_rows.specs.declared.fault.FaultKind.TheVariants as kinds
use Rattle.gtfs_rows.specs.declared.fault.FeedFault.{FeedFault}
use Rattle.gtfs_rows.specs.declared.fault.FeedFile.{FeedFile}
use Rattle.gtfs_rows.specs.declared.fault.FeedFile.TheVariants as files
use Rattle.gtfs_rows.specs.Faults.{test, first_fault}
use Rattle.gtfs_rows.specs.Rows.{opening_tests, table_in}
use Rattle.gtfs_tables.specs.Feed.{Feed}
use Rattle.file_faults.specs.Tables.{calendar_dates_faults, calendar_faults, frequencies_faults, ids_known, or_else, stop_times_faults, stops_faults, transfers_faults, trips_faults, trips_known}

-- the faults of a file: if it isn't there, or a record isn't UTF-8, that one; else those of its table
abbrev pub file_faults : FeedFile → (Table → List FeedFault) → Option (List ℕ) → List FeedFault
file_faults file faults bytes = or_else (first_fault (opening_tests file bytes)) (faults (table_in bytes))

-- those of a file that may be missing
abbrev pub optional_faults : FeedFile → (Table → List FeedFault) → Option (List ℕ) → List FeedFault
optional_faults file faults None = []
optional_faults file faults (Some bytes) = file_faults file faults (Some bytes)

-- what is known of a file whose records can be read
abbrev pub known_in : {X : Type 0} → FeedFile → (Table → Option X) → Option (List ℕ) → Option X
known_in file known bytes = if is_none (first_fault (opening_tests file bytes)) then known (table_in bytes) else None

-- one of the two files of services is there at least, and else each has its faults
abbrev pub services_faults : Option (List ℕ) → Option (List ℕ) → List FeedFault
services_faults calendar dates =
    or_else (first_fault (test kinds.MissingFile files.Calendar 0 (is_some calendar || is_some dates) ∷ []))
    (optional_faults files.Calendar calendar_faults calendar ++ optional_faults files.CalendarDates calendar_dates_faults dates)

-- the faults of a feed
unfoldable pub faults_of : Feed → List FeedFault
faults_of feed =
    file_faults files.Stops stops_faults feed.stops
    ++ (file_faults files.Trips trips_faults feed.trips
    ++ (services_faults feed.calendar feed.calendar_dates
    ++ (file_faults files.StopTimes
    (stop_times_faults (known_in files.Stops ids_known feed.stops) (known_in files.Trips trips_known feed.trips)) feed.stop_times
    ++ (optional_faults files.Transfers (transfers_faults (known_in files.Stops ids_known feed.stops)) feed.transfers
    ++ optional_faults files.Frequencies (frequencies_faults (known_in files.Trips trips_known feed.trips)) feed.frequencies))))

-- What comes of opening a file, and the faults of several files together. Only private clauses cite these words.
use Rattle.std.specs.Prelude.{◌≡◌, ◌⊎◌, ℕ, true, List, [], ◌∷◌, ◌++◌, Option, None, Some}
use Rattle.gtfs_text.specs.Sheets.{Table}
use Rattle.gtfs_rows.specs.declared.fault.FeedFault.{FeedFault}
use Rattle.gtfs_rows.specs.declared.fault.FeedFile.{FeedFile}
use Rattle.gtfs_rows.specs.declared.fault.FeedFile.TheVariants as files
use Rattle.gtfs_rows.specs.Faults.{first_fault}
use Rattle.gtfs_rows.specs.Rows.{opening_tests, table_in}
use Rattle.gtfs_stops.specs.Stops.{IdLists}
use Rattle.gtfs_tables.specs.Feed.{Feed}
use Rattle.feed_faults.specs.Files.{file_faults, known_in, optional_faults, services_faults}
use Rattle.file_faults.specs.Lists.{Adds}
use Rattle.file_faults.specs.Tables.{frequencies_faults, stop_times_faults, transfers_faults, trips_faults, trips_known}
use Rattle.file_faults.specs.declared.list.FaultList.{FaultList}

-- these faults were added to a list; or a reader failed
pub record AddsOrUnread (old new : FaultList) (added : List FeedFault) : Type 0 where
  pub how : (new.unread ≡ true) ⊎ Adds old new added

-- the file is a table; or a reader failed; or the file's fault was added
abbrev pub IsOpened : FeedFile → Option (List ℕ) → FaultList → FaultList → Option Table → Type 0
IsOpened file bytes old new (Some table) =
    Adds old new [] × (first_fault (opening_tests file bytes) ≡ None) × (table ≡ table_in bytes)
IsOpened file bytes old new None =
    (new.unread ≡ true) ⊎ ((fault : FeedFault) × (first_fault (opening_tests file bytes) ≡ Some fault) × Adds old new (fault ∷ []))

-- the same of a file that may be missing
abbrev pub IsOpenedIfThere : FeedFile → Option (List ℕ) → FaultList → FaultList → Option Table → Type 0
IsOpenedIfThere file None old new opened = Adds old new [] × (opened ≡ None)
IsOpenedIfThere file (Some bytes) old new opened = IsOpened file (Some bytes) old new opened

-- the faults of a table, if there is one
abbrev pub sheet_faults : (Table → List FeedFault) → Option Table → List FeedFault
sheet_faults faults None = []
sheet_faults faults (Some table) = faults table

-- the faults of the files whose rows name rows of others, by the ids that are known
abbrev pub linked_faults : Option IdLists → Option (List (List ℕ)) → Feed → List FeedFault
linked_faults ids trips feed =
    file_faults files.StopTimes (stop_times_faults ids trips) feed.stop_times
    ++ (optional_faults files.Transfers (transfers_faults ids) feed.transfers
    ++ optional_faults files.Frequencies (frequencies_faults trips) feed.frequencies)

-- those of the files of services too
abbrev pub rest_faults : Option IdLists → Option (List (List ℕ)) → Feed → List FeedFault
rest_faults ids trips feed = services_faults feed.calendar feed.calendar_dates ++ linked_faults ids trips feed

-- those of all files but stops.txt
abbrev pub others_faults : Option IdLists → Feed → List FeedFault
others_faults ids feed =
    file_faults files.Trips trips_faults feed.trips ++ rest_faults ids (known_in files.Trips trips_known feed.trips) feed

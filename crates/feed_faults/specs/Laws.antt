-- The first fault of a feed's list is the one that its reader reports.
use Rattle.std.specs.Prelude.{◌≡◌, List, [], ◌∷◌, Option, None, Some}
use Rattle.gtfs_rows.specs.declared.fault.FeedFault.{FeedFault}
use Rattle.gtfs_rows.specs.Faults.{first_fault}
use Rattle.gtfs_tables.specs.Feed.{Feed, feed_tests}
use Rattle.feed_faults.specs.Files.{faults_of}

abbrev pub first_of : List FeedFault → Option FeedFault
first_of [] = None
first_of (fault ∷ faults) = Some fault

-- so the list is empty exactly if every test of the feed holds
abbrev pub FirstIsReported : Type 0
FirstIsReported = (feed : Feed) → first_of (faults_of feed) ≡ first_fault (feed_tests feed)

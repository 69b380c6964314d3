-- What a check prints, and which stops are listed.
use Rattle.std.specs.Prelude.{◌≡◌, ◌⊎◌, ◌<◌, ℕ, Bool, true, false, List, None, Result, Ok, Err, MatchResult, String, string_bytes, vec_len}
use Rattle.std.specs.Global.{Global}
use Rattle.command_line.specs.declared.feed_check.FeedCheck.{FeedCheck}
use Rattle.option_words.specs.declared.format.Style.{Style}
use Rattle.option_words.specs.declared.format.Style.TheVariants as styles
use Rattle.option_words.specs.declared.stop_search.StopSearch.{StopSearch}
use Rattle.faults.specs.declared.fault.Fault.{Fault}
use Rattle.faults.specs.declared.fault.Fault.TheVariants as faults
use Rattle.printing.specs.Listed.{IsReportOf}
use Rattle.printing.specs.declared.report.FaultReport.{FaultReport}
use Rattle.feed_faults.specs.Files.{faults_of}
use Rattle.feed_faults.specs.Lists.{Lists}
use Rattle.file_faults.specs.declared.list.FaultList.{FaultList}
use Rattle.feed_report.specs.Counts.{AreCounts, IsCheckFault}
use Rattle.feed_report.specs.Reports.{Names}
use Rattle.feed_report.specs.declared.report.FeedReport.{FeedReport}
use Rattle.gtfs_rows.specs.Faults.{Explains}
use Rattle.gtfs_tables.specs.Feed.{Feed}
use Rattle.printing.specs.declared.told.Told.{Told}
use Rattle.printing.specs.declared.told.Told.TheVariants as tolds
use Rattle.command_line.specs.Given.{folder_given}
use Rattle.printing.specs.Tellings.{IsStopsFault, Telling}
use Rattle.program_system.specs.World.{World}
use denote.Ref.{Bor}

-- what a feed has, in a style: as lines, or as a text in a format; or memory ran out as that was made
abbrev pub IsFeedTold : Telling → Style → FeedReport → Result Told Fault → Type 0
IsFeedTold t styles.Lines report told = told ≡ Ok (tolds.Feed report)
IsFeedTold t (styles.Told format) report told =
    ((text : String Global) × (told ≡ Ok (tolds.Text text 0)) × t.feeds format report (string_bytes text))
    ⊎ (told ≡ Err faults.Memory)

-- it is right: what the feed has, with the trips around the date that is asked for, and what else is among the names in its folder
pub record IsRightReport (lists : Names → Type 0) (keyed : Bool) (feed : Feed) (check : FeedCheck) (report : FeedReport) : Type 0 where
  pub counts : AreCounts feed check.date report.counts
  pub keyed_is : keyed ≡ true
  pub names : lists report.names

-- all faults of a feed, in a style: as lines, perhaps with those that the teller adds to them, or as a text in a format, with the status of
-- a fault of the feed; or memory ran out as that was made
abbrev pub IsListTold : Telling → Style → Bor (List ℕ) → FaultList → Result Told Fault → Type 0
IsListTold t styles.Lines folder list told =
    ((report : FaultReport) × (told ≡ Ok (tolds.FeedFaults report)) × IsReportOf t (folder_given folder) list report)
    ⊎ (told ≡ Err faults.Memory)
IsListTold t (styles.Told format) folder list told =
    ((text : String Global) × (told ≡ Ok (tolds.Text text 1)) × t.lists format list (string_bytes text))
    ⊎ (told ≡ Err faults.Memory)

-- the list has the feed's faults, and if each file could be read, it has one at least
pub record IsFaultList (keyed : Bool) (feed : Feed) (list : FaultList) : Type 0 where
  pub keyed_is : keyed ≡ true
  pub lists : Lists list (faults_of feed)
  pub some : list.unread ≡ false → 0 < vec_len list.faults

-- a fault that isn't that of a test of the feed: a file that couldn't be read, no memory, or one of the system
abbrev pub IsUnlisted : Fault → Type 0
IsUnlisted (faults.Feed f) = Explains None f.kind f
IsUnlisted other = Unit {0}

-- the fault of a feed; or all its faults if they are asked for, unless it is one that isn't listed
abbrev pub IsRefusedFeed : Telling → Bool → Feed → FeedCheck → Result Told Fault → Type 0
IsRefusedFeed t keyed feed check told =
    ((fault : Fault) × (told ≡ Err fault) × IsCheckFault keyed feed fault × (check.all ≡ true → IsUnlisted fault))
    ⊎ ((check.all ≡ true) × (list : FaultList) × IsFaultList keyed feed list × IsListTold t check.style check.feed list told)

-- what a feed has, or its faults
abbrev pub IsChecked : Telling → (Names → Type 0) → Bool → Feed → FeedCheck → Result Told Fault → Type 0
IsChecked t lists keyed feed check told =
    ((report : FeedReport) × IsRightReport lists keyed feed check report × IsFeedTold t check.style report told)
    ⊎ IsRefusedFeed t keyed feed check told

-- whatever feed its folder holds; memory may run out as the files are opened
abbrev pub IsFolderChecked : World → Telling → FeedCheck → Result Told Fault → Type 0
IsFolderChecked world t check told =
    (told ≡ Err faults.Memory)
    ⊎ ((feed : Feed) → world.holds check.feed.now feed → IsChecked t (world.lists check.feed.now) world.keyed feed check told)

-- the text of the stops that are searched for, or why there is none
abbrev pub AreStops : Telling → StopSearch → Result Told Fault → Type 0
AreStops t search told =
    MatchResult told (λ told. (text : String Global) × (told ≡ tolds.Text text 0) × t.finds search (string_bytes text)) IsStopsFault

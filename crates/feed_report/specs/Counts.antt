-- How many of each a feed has, from the bytes of its files on; or why that isn't reported.
-- GTFS Schedule reference, "Dataset files": calendar.txt, calendar_dates.txt, transfers.txt and frequencies.txt may be left out.
use Rattle.std.specs.Prelude.{◌≡◌, ◌↔◌, Bool, true, false, IsTrue, Option, None, length, sum_by}
use Rattle.jiff_core.specs.declared.civil.date.Date.{Date}
use Rattle.gtfs_rows.specs.Faults.{first_fault, Explains}
use Rattle.gtfs_tables.specs.Feed.{Feed, feed_tests, values_of}
use Rattle.gtfs_tables.specs.Tables.{TableValues}
use Rattle.gtfs_tables.specs.declared.reading.Files.{Files}
use Rattle.faults.specs.declared.fault.Fault.{Fault}
use Rattle.faults.specs.declared.fault.Fault.TheVariants as faults
use Rattle.feed_report.specs.declared.counts.Counts.{Counts}
use Rattle.feed_report.specs.declared.service.Service.{Service}
use Rattle.feed_report.specs.ServiceDays.{AreServiceDays}
use Rattle.feed_report.specs.declared.counts.Missing.{Missing}

-- these are the optional files that aren't there
pub record IsMissing {R : Type 0} (files : Files R) (missing : Missing) : Type 0 where
  pub calendar : IsTrue missing.calendar ↔ (files.calendar ≡ None)
  pub calendar_dates : IsTrue missing.calendar_dates ↔ (files.calendar_dates ≡ None)
  pub transfers : IsTrue missing.transfers ↔ (files.transfers ≡ None)
  pub frequencies : IsTrue missing.frequencies ↔ (files.frequencies ≡ None)

-- how many of each the tables have, with their days of service
abbrev pub counts_in : TableValues → Option Service → Missing → Counts
counts_in tables service missing = record {
  stops = length tables.stops;
  stations = length tables.stations;
  services = length tables.services;
  trips = length tables.trips;
  calls = sum_by (λ calls. length calls) tables.calls;
  transfers = length tables.transfers;
  frequencies = length tables.frequencies;
  service = service;
  skipped = tables.skipped;
  missing = missing;
}

-- every test of the feed holds, its rows' values are counted, its days of service are given with those around the date, and these are the
-- optional files without bytes
pub record AreCounts (feed : Feed) (date : Option Date) (counts : Counts) : Type 0 where
  pub faultless : first_fault (feed_tests feed) ≡ None
  pub counted : counts ≡ counts_in (values_of feed) counts.service counts.missing
  pub service : AreServiceDays (values_of feed) date counts.service
  pub calendar : IsTrue counts.missing.calendar ↔ (feed.calendar ≡ None)
  pub calendar_dates : IsTrue counts.missing.calendar_dates ↔ (feed.calendar_dates ≡ None)
  pub transfers : IsTrue counts.missing.transfers ↔ (feed.transfers ≡ None)
  pub frequencies : IsTrue counts.missing.frequencies ↔ (feed.frequencies ≡ None)

-- with hash keys to look ids up with, the fault of the feed's first test that doesn't hold; memory may run out at any time
abbrev pub IsReadingFault : Feed → Fault → Type 0
IsReadingFault feed (faults.Feed f) = Explains (first_fault (feed_tests feed)) f.kind f
IsReadingFault feed faults.Memory = Unit {0}
IsReadingFault feed faults.NoRandomness = ⊥
IsReadingFault feed (faults.Days f) = ⊥
IsReadingFault feed faults.BadDate = ⊥
IsReadingFault feed faults.BadTime = ⊥
IsReadingFault feed (faults.Question refusal) = ⊥
IsReadingFault feed faults.TooLarge = ⊥
IsReadingFault feed (faults.Store f) = ⊥
IsReadingFault feed faults.GateDamaged = ⊥
IsReadingFault feed faults.StoreInUse = ⊥
IsReadingFault feed faults.PutFailed = ⊥
IsReadingFault feed (faults.Migration side f) = ⊥
IsReadingFault feed faults.OtherList = ⊥
IsReadingFault feed faults.FileTooLarge = ⊥
IsReadingFault feed (faults.Part path f) = ⊥
IsReadingFault feed (faults.OtherTree stop part before) = ⊥

-- if the system gave no randomness for hash keys, that is the fault, whatever the feed is
abbrev pub IsCheckFault : Bool → Feed → Fault → Type 0
IsCheckFault false feed fault = fault ≡ faults.NoRandomness
IsCheckFault true feed fault = IsReadingFault feed fault

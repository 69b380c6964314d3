-- What questions are asked of, from the bytes of a feed's files on.
use Rattle.std.specs.Prelude.{◌≡◌, ℕ, ◌+◌, ◌<◌, ◌≤◌, ◌^◌, List, length, Option, None, Some}
use Rattle.std.specs.List.{All}
use Rattle.jiff.specs.Types.{Date, TimeZone}
use Rattle.jiff.specs.Placed.{IsPosixZone}
use Rattle.gtfs_rows.specs.Faults.{first_fault}
use Rattle.gtfs_rows.specs.declared.values.Frequency.{Frequency}
use Rattle.gtfs_tables.specs.Feed.{Feed, feed_tests, values_of}
use Rattle.gtfs_tables.specs.Tables.{TableValues}
use Rattle.service_days.specs.Answers.{IsCoverOf, IsMoment}
use Rattle.service_days.specs.Cover.{CoverDays}
use Rattle.service_span.specs.Idle.{IsIdle}
use Rattle.service_span.specs.declared.idle.Idle.{Idle}
use Rattle.feed_timetable.specs.Departures.{AreRepeats}
use Rattle.feed_timetable.specs.Answers.{IsTimetable}
use Rattle.feed_timetable.specs.Names.{AreNamesOf}
use Rattle.feed_ids.specs.NameLists.{NameLists}
use Rattle.feed_ids.specs.Names.{KnowsStops}
use Rattle.timetable.specs.Table.{Table, IsTable, stops_of}
use Rattle.options.specs.declared.settings.Settings.{Settings}

-- a timetable on the covered days, the ids of its stops, stations and trips, the rows that repeat each trip, the days, and whether no trip
-- runs on them
pub record BasisData : Type 0 where
  pub timetable : Table
  pub names : NameLists
  pub repeats : List (List Frequency)
  pub cover : CoverDays
  pub idle : Option Idle

-- every test of the feed holds, and the tables are its values
abbrev pub AreTablesOf : Feed → TableValues → Type 0
AreTablesOf feed tables = (first_fault (feed_tests feed) ≡ None) × (tables ≡ values_of feed)

-- every test of the feed holds, the zone's rule is one, and these days from the first on are covered
pub record AreDays (feed : Feed) (settings : Settings) (first : Date) (cover : CoverDays) : Type 0 where
  pub zone : TimeZone
  pub faultless : first_fault (feed_tests feed) ≡ None
  pub rule : IsPosixZone settings.zone.now zone
  pub covered : IsCoverOf first settings.days zone cover

-- the timetable of the feed's rows on the days from the first on, the ids of its stops and trips, the rows that repeat each trip, and
-- whether no trip runs on these days
pub record IsBasis (feed : Feed) (settings : Settings) (first : Date) (basis : BasisData) : Type 0 where
  pub days : AreDays feed settings first basis.cover
  pub timetable : IsTimetable (values_of feed) basis.cover settings.default_walk basis.timetable
  pub named : AreNamesOf (values_of feed) basis.names
  pub repeated : AreRepeats (values_of feed) basis.repeats
  pub idle : IsIdle (values_of feed) basis.cover basis.idle

-- a timetable, and names that know its stops and trips
pub record IsSound (basis : BasisData) : Type 0 where
  pub valid : IsTable basis.timetable
  pub names : KnowsStops basis.names
  pub stops : length basis.names.stops ≡ stops_of basis.timetable
  pub trips : All (λ run. run.trip < length basis.names.trips) basis.timetable.instances

-- The moment of a reported time: the start of its service day and the seconds, added. None is for a day that isn't covered, or for a moment
-- that takes more than four bytes. Unlike a time of a feed, a reported time may be past 167:59:59.
abbrev pub IsTold : CoverDays → Date → ℕ → Option ℕ → Type 0
IsTold c date seconds (Some moment) = (start : ℕ) × IsMoment c date 0 (Some start) × (moment ≡ start + seconds)
IsTold c date seconds None = (start : ℕ) → IsMoment c date 0 (Some start) → 2 ^ 32 ≤ start + seconds

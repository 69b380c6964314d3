-- How long one is on the way, as it is reported.
use Rattle.std.specs.Prelude.{Option, None, Some, ◌≡◌, ◌⊎◌, ◌*◌, ◌≤◌, ℕ, Bool, true, List, [], ◌∷◌, filter, nat_le}
use Rattle.std.specs.List.{AllZip}
use Rattle.answer_lines.specs.Moments.{TellsMoment}
use Rattle.answer_lines.specs.declared.report.Report.{Report}
use Rattle.answer_lines.specs.declared.report.Report.TheVariants as reports
use Rattle.answer_lines.specs.declared.timed.TimedStop.{TimedStop}
use Rattle.answer_lines.specs.declared.timed.TimedStops.{TimedStops}
use Rattle.faults.specs.declared.fault.Fault.{Fault}
use Rattle.feed_basis.specs.Basis.{BasisData}
use Rattle.feed_basis.specs.Ids.{stop_alone}
use Rattle.reaching.specs.TravelTimes.{AreTravelTimes}
use Rattle.reaching.specs.declared.travel_time.TravelTimes.{TravelTimes}
use Rattle.feed_basis.specs.Stages.{stop_id}
use Rattle.told_reach.specs.Reaches.{IsUnreached}

-- a stop is reported by its id, with the least, the median and the greatest number of seconds
pub record TellsTimes (basis : BasisData) (t : TravelTimes) (shown : TimedStop) : Type 0 where
  pub stop : shown.stop.now ≡ stop_id basis.names t.stop
  pub least : shown.least ≡ t.least
  pub median : shown.median ≡ t.median
  pub greatest : shown.greatest ≡ t.greatest

-- if minutes are given, one is there within these at some second
abbrev pub is_within : Option ℕ → TravelTimes → Bool
is_within None t = true
is_within (Some minutes) t = nat_le t.least (minutes * 60)

-- The travel times are reported of one who leaves the stop of the id from the moment to the last one, both covered, with at most k rides.
-- They are those of the stops where one is within the minutes, if any are given.
pub record AreTimes (basis : BasisData) (k : ℕ) (from : List ℕ) (moment until minutes : Option ℕ) (times : TimedStops) : Type 0 where
  pub s : ℕ
  pub first : ℕ
  pub last : ℕ
  pub list : List TravelTimes
  pub leaves : stop_alone basis.names from ≡ Some (s ∷ [])
  pub leaves_at : moment ≡ Some first
  pub until_is : until ≡ Some last
  pub covered : first ≤ basis.timetable.horizon
  pub last_covered : last ≤ basis.timetable.horizon
  pub timed : AreTravelTimes basis.timetable k s first last list
  pub told : AllZip (TellsTimes basis) (filter (is_within minutes) list) times.stops.items
  pub from_is : times.from.now ≡ from
  pub begins : TellsMoment basis.cover first times.first
  pub ends : TellsMoment basis.cover last times.last

-- the report has such times
abbrev pub ReportsTimes : (TimedStops → Type 0) → Report → Type 0
ReportsTimes Right report = (times : TimedStops) × (report ≡ reports.Timed times) × Right times

-- the question is refused at its moment, or else at its last one; or memory ran out
abbrev pub IsUntimed : BasisData → List ℕ → Option ℕ → Option ℕ → Fault → Type 0
IsUntimed basis from moment until fault = IsUnreached basis from moment fault ⊎ IsUnreached basis from until fault

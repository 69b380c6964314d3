-- Where one can be, as it is reported.
use Rattle.std.specs.Prelude.{Option, None, Some, ◌≡◌, ◌⊎◌, ℕ, ◌+◌, ◌*◌, ◌-◌, ◌≤◌, List, [], ◌∷◌}
use Rattle.std.specs.List.{AllZip}
use Rattle.std.specs.Option.{option_map}
use Rattle.answer_lines.specs.Moments.{TellsMoment}
use Rattle.answer_lines.specs.declared.reach.Reach.{Reach}
use Rattle.answer_lines.specs.declared.reach.ReachedStop.{ReachedStop}
use Rattle.answer_lines.specs.declared.report.Report.{Report}
use Rattle.answer_lines.specs.declared.report.Report.TheVariants as reports
use Rattle.answering.specs.Refusals.{IsCovered}
use Rattle.faults.specs.declared.fault.Fault.{Fault}
use Rattle.faults.specs.declared.fault.Fault.TheVariants as faults
use Rattle.feed_basis.specs.Basis.{BasisData}
use Rattle.feed_basis.specs.Ids.{IsKnown, stop_alone}
use Rattle.pattern_query.specs.declared.refusal.Refusal.{Refusal}
use Rattle.pattern_query.specs.declared.refusal.Refusal.TheVariants as refusals
use Rattle.reaching.specs.Reached.{AreReached}
use Rattle.reaching.specs.declared.reached.Reached.{Reached}
use Rattle.feed_basis.specs.Stages.{stop_id}

-- the last moment within m minutes of d, if any are given
abbrev pub last_of : ℕ → Option ℕ → Option ℕ
last_of d minutes = option_map (λ m. d + m * 60) minutes

-- a stop is reported by its id, when one is there, with how many rides, and how many seconds after d
pub record TellsStop (basis : BasisData) (d : ℕ) (r : Reached) (shown : ReachedStop) : Type 0 where
  pub stop : shown.stop.now ≡ stop_id basis.names r.stop
  pub at : TellsMoment basis.cover r.arrival shown.arrives
  pub rides : shown.rides ≡ r.rides
  pub seconds : shown.seconds ≡ r.arrival - d

-- The stops at which one can be within the minutes, if any are given, are reported. One leaves the stop of the id at the moment, which is
-- covered, with at most k rides.
pub record IsReach (basis : BasisData) (k : ℕ) (from : List ℕ) (moment minutes : Option ℕ) (reach : Reach) : Type 0 where
  pub s : ℕ
  pub d : ℕ
  pub list : List Reached
  pub leaves : stop_alone basis.names from ≡ Some (s ∷ [])
  pub leaves_at : moment ≡ Some d
  pub covered : d ≤ basis.timetable.horizon
  pub reached : AreReached basis.timetable k s d (last_of d minutes) list
  pub told : AllZip (TellsStop basis d) list reach.stops.items
  pub from_is : reach.from.now ≡ from
  pub departs : TellsMoment basis.cover d reach.departs

-- the report has such stops
abbrev pub ReportsReach : (Reach → Type 0) → Report → Type 0
ReportsReach Right report = (reach : Reach) × (report ≡ reports.Reached reach) × Right reach

-- the id is that of no stop; or else the moment isn't covered
abbrev pub IsReachRefused : BasisData → List ℕ → Option ℕ → Refusal → Type 0
IsReachRefused basis from moment (refusals.UnknownStop id) = (id.now ≡ from) × (stop_alone basis.names from ≡ None)
IsReachRefused basis from moment refusals.NotCovered = IsKnown (stop_alone basis.names) from × ¬ IsCovered basis.timetable moment
IsReachRefused basis from moment (refusals.NotStored id) = ⊥

-- the question is refused, or memory ran out
abbrev pub IsUnreached : BasisData → List ℕ → Option ℕ → Fault → Type 0
IsUnreached basis from moment fault =
    ((refusal : Refusal) × (fault ≡ faults.Question refusal) × IsReachRefused basis from moment refusal) ⊎ (fault ≡ faults.Memory)

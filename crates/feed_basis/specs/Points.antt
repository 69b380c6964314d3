-- A journey as it is reported.
use Rattle.std.specs.Prelude.{◌≡◌, ℕ, ◌<◌, Bool, true, false, [], length}
use Rattle.std.specs.List.{All, AllZip}
use Rattle.timetable.specs.declared.parts.Numbers.{Numbers}
use Rattle.timetable.specs.Journeys.{from, to}
use Rattle.pattern_query.specs.Answer.{PointData}
use Rattle.answer_lines.specs.Moments.{TellsMoment}
use Rattle.answer_lines.specs.declared.answer.Point.{Point}
use Rattle.feed_basis.specs.Basis.{BasisData}
use Rattle.feed_basis.specs.declared.numbered.NumberedStage.{NumberedStage}
use Rattle.feed_basis.specs.declared.numbered.NumberedStage.TheVariants as numbered
use Rattle.feed_basis.specs.Stages.{TellsStage, stages_of, trip_of}

-- the timetable has the instance, and the names have the trip and the stops
abbrev pub IsKnownStage : BasisData → NumberedStage → Type 0
IsKnownStage basis (numbered.Ride leg) =
    (leg.instance < length basis.timetable.instances) × (trip_of basis.timetable leg.instance < length basis.names.trips)
    × (from basis.timetable leg < length basis.names.stops) × (to basis.timetable leg < length basis.names.stops)
IsKnownStage basis (numbered.Walk p q a z) = (p < length basis.names.stops) × (q < length basis.names.stops)

-- the rides and walks of a journey that begins at d are known
abbrev pub IsKnownJourney : BasisData → ℕ → PointData → Type 0
IsKnownJourney basis d p = All (IsKnownStage basis) (stages_of basis.timetable p.from d p.legs p.to)

-- a point reports this journey, which begins at d
pub record Tells (basis : BasisData) (d : ℕ) (wanted : Bool) (p : PointData) (point : Point) : Type 0 where
  pub rides : point.rides ≡ p.rides
  pub at : TellsMoment basis.cover p.arrival point.at
  pub told : wanted ≡ true → AllZip (TellsStage basis) (stages_of basis.timetable p.from d p.legs p.to) point.stages.items
  pub untold : wanted ≡ false → point.stages.items ≡ []

-- so it does by one who leaves at the journey's departure
abbrev pub TellsLeaving : BasisData → Bool → PointData → Point → Type 0
TellsLeaving basis wanted p point = Tells basis p.departure wanted p point

-- a point has these numbers, and nothing else is reported of it
pub record TellsNumbers (basis : BasisData) (n : Numbers) (point : Point) : Type 0 where
  pub rides : point.rides ≡ n.rides
  pub at : TellsMoment basis.cover n.arrival point.at
  pub untold : point.stages.items ≡ []

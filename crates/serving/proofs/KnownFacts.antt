-- The basis knows the rides and walks of journeys that answer a question over it.
use Rattle.std.proofs.Common.{ℕ, ◌<◌, ◌≤◌, List, length, Contains, All, arith, le_trans, subst, subst₂, sym}
use Rattle.std.proofs.lemmas.List.Elements.{All-weaker, at_from_Contains}
use Rattle.timetable.specs.declared.parts.TheConstants.{LATEST_MOMENT}
use Rattle.timetable.specs.Journeys.{Journey}
use Rattle.feed_ids.specs.NameLists.{NameLists}
use Rattle.timetable.specs.Table.{Table}
use Rattle.pattern_query.specs.Answer.{PointData}
use Rattle.pattern_query.specs.Questions.{Held, IsAnswer, IsAskedPoint}
use Rattle.feed_basis.specs.Basis.{BasisData, IsSound}
use Rattle.feed_basis.specs.Points.{IsKnownJourney}
use Rattle.feed_basis.proofs.StageFacts.{journey_known, leaves_early}
use Rattle.planner.specs.PlannerView.{PlannerView}
use Rattle.serving.specs.Answers.{IsOver}

-- what holds of all holds of one that is among them
one_of_all : {X : Type 0} (P : X → Type 0) (xs : List X) (x : X) → All P xs → Contains xs x → P x
one_of_all P xs x all c = let i = at_from_Contains xs x c in subst P (i.2 x) (all i.0 x i.1)

module _ (basis : BasisData) (p : PlannerView) (held : Held) (from to : List ℕ) (d : ℕ) (points : List PointData)
    (sound : IsSound basis) (over : IsOver basis p) (answer : IsAnswer p.form.table p.names held from to d points) where
  over_basis : IsAnswer basis.timetable basis.names held from to d points
  over_basis = subst₂ (λ (table : Table) (names : NameLists). IsAnswer table names held from to d points) over.table over.names answer

  pub known : All (λ (point : PointData). IsKnownJourney basis point.departure point) points
  known =
      let is = over_basis in
      let Known = λ (s : ℕ). s < length basis.names.stops in
      let froms_known = sound.names from is.froms is.leaves in
      let tos_known = sound.names to is.tos is.arrives in
      All-weaker (IsAskedPoint basis.timetable held is.froms is.tos d) (λ (point : PointData). IsKnownJourney basis point.departure point)
      (λ point h.
      journey_known basis sound.valid sound point.from point.departure point.legs point.to point.arrival
      (subst Known (sym h.2.is.starts) (one_of_all Known is.froms h.0.source froms_known h.1.0))
      (one_of_all Known is.tos point.to tos_known h.1.2)
      (subst (λ s. Journey basis.timetable s point.departure point.legs point.to point.arrival) (sym h.2.is.starts) h.2.is.in_time))
      points is.points_are

  -- the journeys leave early enough to be reported
  pub early : All (λ (point : PointData). point.departure ≤ LATEST_MOMENT) points
  early =
      let is = over_basis in
      let by : d ≤ LATEST_MOMENT = le_trans is.covered (le_trans sound.valid.horizon (omega arith)) in
      All-weaker (IsAskedPoint basis.timetable held is.froms is.tos d) (λ (point : PointData). point.departure ≤ LATEST_MOMENT)
      (λ point h.
      leaves_early basis.timetable h.0.source point.to d point.departure point.arrival point.legs sound.valid by h.2.is.journey h.2.is.in_time)
      points is.points_are

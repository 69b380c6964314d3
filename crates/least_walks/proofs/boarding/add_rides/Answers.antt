use Rattle.std.proofs.Common.{◌≡◌, ℕ, ◌∷◌, ◌≤◌, ◌∙◌, ap, subst, arith, le_trans, le_of_eq}
use Rattle.timetable.specs.declared.parts.Leg.{Leg}
use Rattle.timetable.specs.Journeys.{departs}
use Rattle.direct_connections.specs.Latest.{ServesBy}
use Rattle.least_walks.specs.Ways.{WayData}
use Rattle.least_walks.proofs.RideFacts.{rides_offer, rides_pass, rides_all}
use Rattle.least_walks.proofs.boarding.add_rides.Goals as goal
use Rattle.least_walks.proofs.boarding.add_rides.Goals.{in-Some+in_ok-offer, in_default}

pub loop-way-preserved : goal.loop-way-preserved
loop-way-preserved c =
    let T = c.args.network.now in
    let b = c.args.board in
    let e = c.args.alight in
    let row = c.args.row.now in
    let i = c.loop-way.way-index in
    let y : WayData = c.way-item.result in
    let by = c.moment.result in
    let at : by ≡ y.moment = c.moment.ensures in
    elim c.match-latest_ride.branch [
      | in-Some+in_ok-offer w ↦
          let ride = w.in-Some.ride in
          let leg = ride.leg in
          let departure : ride.departure ≡ departs T leg = w.in-Some.ensures.departure in
          let serves = subst (λ (m : ℕ). ServesBy T b e m leg) at w.in-Some.ensures.ride in
          let most = subst (λ (m : ℕ). (other : Leg) → ServesBy T b e m other → departs T other ≤ departs T leg) at
          (λ other s. le_trans (w.in-Some.ensures.most other s) (le_of_eq departure)) in
          let way : WayData = w.after_ride.result in
          let shape : way ≡ record { moment = departs T leg; walked = y.walked; path = (b, e) ∷ y.path } =
          w.after_ride.ensures ∙ ap (λ (m : ℕ). record { moment = m; walked = y.walked; path = (b, e) ∷ y.path }) departure in
          rw w.ways-is (rides_offer T b e c.args.bound row c.args.ways.now i y y (omega arith) c.way-item.is c.loop-way.ways w.offer.new.self leg way serves most shape
          w.in_ok-offer.ensures c.loop-way.invariant)
      | in_default w ↦
          rw w.ways-is (rides_pass T b e c.args.bound row c.args.ways.now i y y (omega arith) c.way-item.is c.loop-way.ways
          (subst (λ (m : ℕ). (leg : Leg) → ¬ ServesBy T b e m leg) at w.in_default.ensures.none) c.loop-way.invariant)
    ]

pub returns : goal.returns
returns c = rides_all c.args.network.now c.args.board c.args.alight c.args.bound c.args.row.now c.args.ways.now c.loop-way.ways c.loop-way.way-index (omega arith) c.loop-way.invariant

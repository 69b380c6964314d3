-- The path that a search finds, and the journey along it.
use Rattle.std.proofs.Common.{◌≡◌, ℕ, ◌+◌, ◌<◌, ◌≤◌, ◌↔◌, false, List, [], length, map, All, arith, sym, ◌∙◌, ap, subst, inl, inr, le_refl, le_trans}
use Rattle.std.specs.List.{Contains}
use Rattle.std.proofs.lemmas.Bool.{cases_lt}
use Rattle.std.proofs.lemmas.List.{length-map}
use Rattle.std.proofs.lemmas.List.Elements.{Contains-get_or}
use Rattle.timetable.specs.declared.parts.Leg.{Leg}
use Rattle.timetable.specs.declared.parts.Numbers.{Numbers}
use Rattle.timetable.specs.Table.{Table, IsTable}
use Rattle.timetable.specs.Front.{AreBest}
use Rattle.timetable.specs.Journeys.{Journey, Reaches, Unbeaten, pattern, from as boards_at, to as alights_at}
use Rattle.timetable.proofs.Taken.{journey_earlier}
use Rattle.pattern_tree.specs.Forest.{Step, Pair}
use Rattle.pattern_tree.specs.Content.{Content}
use Rattle.pattern_query.specs.Answer.{PointData, numbers, IsPoint, TreeReaches}
use Rattle.pattern_query.specs.Leaving.{walked, on_foot}
use Rattle.pattern_query.proofs.Best.{contains_point}
use Rattle.least_walks.specs.Ways.{WayData, Gathers, HopsAmong, Anywhere, ways_at}
use Rattle.least_walks.specs.Layers.{IsWay, AreWays, AreBoards}
use Rattle.least_walks.specs.Least.{IsPathLike, WalksAtLeast}
use Rattle.least_walks.proofs.LayerFacts.{found_way, least_of}

-- ---- the search

-- the ways of n rides have paths of n steps
pub path_short : (table : Table) (s d t by bound i n : ℕ) (rows : List (List WayData)) → n < 8 → AreWays table s d t by bound i n rows
    → (p : ℕ) → All (λ (w : WayData). length w.path < 8) (ways_at rows p)
path_short table s d t by bound i n rows few are p k w lt =
    let way = are.each p _ (Contains-get_or (ways_at rows p) k w lt) in
    let long = ap (length {A = Step}) way.path in
    let count = way.counted in
    omega (arith, long, count, few, length-map {B = Step} way.legs (λ (leg : Leg). (boards_at table leg, alights_at table leg)))

module _ (table : Table) (valid : IsTable table) (p : PointData) (bound n : ℕ) (count : n + 1 ≡ p.rides) (rows boards : List (List WayData)) (found : List WayData)
    (are : AreWays table p.from p.departure p.to p.arrival bound 1 n rows) (board : AreBoards table bound rows boards)
    (gathers : Gathers (HopsAmong table false p.from Anywhere boards) p.departure bound [] found) where
  way_of : (w : WayData) → Contains found w → IsWay table false p.to p.arrival (n + 1) p.from w × (p.departure ≤ w.moment) × (w.walked < bound)
  way_of = found_way table valid p.from p.departure p.to p.arrival bound n rows boards are board found gathers

  pub path_like : (w : WayData) → Contains found w → IsPathLike table p w.path
  path_like w h =
      let f = way_of w h in
      let way = f.0 in
      let long = way.counted in
      record {
        legs = way.legs;
        arrival = way.arrival;
        journey = journey_earlier table p.from p.departure w.moment way.legs p.to way.arrival f.1 (let z : 1 ≤ length way.legs = omega (arith, long) in z) way.goes;
        counted = long ∙ count;
        in_time = way.in_time;
        along = sym way.path;
      }

  at_least : (feet : ℕ) → feet ≤ bound → ((w : WayData) → Contains found w → feet ≤ w.walked) → WalksAtLeast table p feet
  at_least feet below each = λ legs z journey long in_time.
      least_of table valid p.from p.departure p.to p.arrival bound n rows boards are board found gathers legs z journey (long ∙ sym count) in_time feet below each

  pub least_path : (w : WayData) → Contains found w → All (λ (o : WayData). w.walked ≤ o.walked) found → WalksAtLeast table p (walked table p.from w.path p.to)
  least_path w h all =
      let f = way_of w h in
      let way = f.0 in
      let same : w.walked ≡ walked table p.from w.path p.to = way.feet ∙ ap (λ (path : List Step). walked table p.from path p.to) (sym way.path) in
      subst (WalksAtLeast table p) same (at_least w.walked (let lt = f.2 in let z : w.walked ≤ bound = omega (arith, lt) in z)
      (λ o in'. subst (λ (x : WayData). w.walked ≤ x.walked) in'.2 (all in'.0 o in'.1)))

  pub none_less : found ≡ [] → WalksAtLeast table p bound
  none_less empty = at_least bound (le_refl bound)
      (λ w h. absurd (let lt = h.1 in let long = ap (length {A = WayData}) empty in let z : ⊥ = omega (arith, lt, long) in z))

-- ---- the journey along a path

module _ (table : Table) (tree : Content) (p : PointData) (path : List Step) (source : tree.source ≡ p.from)
    (pairs : (x : Pair) → Contains tree.pairs x ↔ (x ≡ (path, p.to))) where
  -- a journey of the tree with a ride has as much on foot as the path
  pub along_feet : (q : PointData) → IsPoint table tree p.to p.departure q → 1 ≤ q.rides → on_foot table q ≡ walked table p.from path p.to
  along_feet q is some = elim is.has [
    | inl none ↦ absurd (let count = is.is.counted in let long = ap (length {A = Leg}) none in let z : ⊥ = omega (arith, count, long, some) in z)
    | inr has ↦
        let e = ap (λ (x : Pair). x.0) ((pairs (pattern table q.legs, p.to)).0 has) in
        ap (λ (s : ℕ). walked table s (pattern table q.legs) q.to) (is.is.starts ∙ source)
        ∙ (ap (λ (t : ℕ). walked table p.from (pattern table q.legs) t) is.is.ends ∙ ap (λ (path : List Step). walked table p.from path p.to) e)
  ]

  module _ (k : ℕ) (like : IsPathLike table p path) (best : Unbeaten (Reaches table 0 k p.from p.to p.departure) (numbers p)) where
    few : p.rides ≤ k
    few = best.0.4

    same_arrival : like.arrival ≡ p.arrival
    same_arrival = elim (cases_lt like.arrival p.arrival) [
      | inl sooner ↦
          let m : Numbers = record { arrival = like.arrival; rides = p.rides } in
          let of : Reaches table 0 k p.from p.to p.departure m = (like.legs, like.journey, like.counted, (let z : 0 ≤ p.rides = omega arith in z), few) in
          absurd (best.1 m of (let z : like.arrival ≤ p.arrival = omega (arith, sooner) in z, le_refl p.rides, inl sooner))
      | inr le ↦ (let early = like.in_time in let z : like.arrival ≡ p.arrival = omega (arith, le, early) in z)
    ]

    best_along : Unbeaten (TreeReaches table tree p.to p.departure) (numbers p)
    best_along = (
      (
        like.legs,
        (
          subst (λ (s : ℕ). Journey table s p.departure like.legs p.to p.arrival) (sym source) (subst (λ (z : ℕ). Journey table p.from p.departure like.legs p.to z) same_arrival like.journey),
          inr ((pairs (pattern table like.legs, p.to)).1 (ap (λ (path : List Step). (path, p.to)) like.along)),
        ),
        like.counted,
      ),
      λ m of beats. best.1 m
          (of.0, subst (λ (s : ℕ). Journey table s p.departure of.0 p.to m.arrival) source of.1.0, of.2, (let z : 0 ≤ m.rides = omega arith in z), le_trans beats.1 few) beats,
    )

    -- one of the points has the numbers
    pub along_there : (points : List PointData) → AreBest (TreeReaches table tree p.to p.departure) (map numbers points)
        → (q : PointData) × Contains points q × (numbers q ≡ numbers p)
    along_there points front =
        contains_point points (numbers p) (front.all (numbers p) best_along) (λ q. Contains points q) (λ i d lt. Contains-get_or points i d lt)

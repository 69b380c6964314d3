-- Searches, after points were put in place of others that leave earlier.
use Rattle.std.proofs.Common.{Option, ◌≡◌, ℕ, suc, ◌+◌, ◌<◌, ◌≤◌, List, [], ◌∷◌, length, map, get_or, None, IsSomeAnd, All, arith, refl, sym, ◌∙◌, subst, inl, inr, le_trans, le_refl, le_of_lt}
use Rattle.std.proofs.lemmas.Bool.{cases_lt}
use Rattle.std.proofs.lemmas.List.Elements.{Contains-get_or}
use Rattle.timetable.specs.Table.{Table}
use Rattle.pattern_tree.specs.Content.{Content}
use Rattle.timetable.specs.declared.parts.Leg.{Leg}
use Rattle.timetable.specs.declared.parts.Numbers.{Numbers}
use Rattle.timetable.specs.Journeys.{foot, Journey, Reaches, Beats, Unbeaten}
use Rattle.timetable.proofs.Taken.{the_some, journey_earlier}
use Rattle.pattern_tree.specs.Completeness.{IsWhole, Complete}
use Rattle.timetable.specs.Front.{AreBest}
use Rattle.pattern_query.specs.Answer.{PointData, numbers, IsPoint}
use Rattle.pattern_query.specs.BestSoFar.{at, AddsTree, AreChosen}
use Rattle.pattern_query.specs.Leaving.{IsLatest, IsPreferred, LeavesLast, LeaveLast}
use Rattle.pattern_query.specs.Way.{leaving}
use Rattle.pattern_query.proofs.SlotSteps.{none_some}
use Rattle.pattern_query.proofs.LeaveFacts.{leaving_after, leaving_in_time, leaving_just}
use Rattle.pattern_query.proofs.TreeSteps.{has_best}
use Rattle.pattern_query.proofs.Best.{numbers_in}
use Rattle.pattern_query.proofs.LeaveSteps.{there_still, twin, rides_is}

-- the points that are chosen leave last
pub chosen_last : (table : Table) (Of : PointData → Type 0) (old new : List (Option PointData)) (points : List PointData) → LeaveLast table Of old new → AreChosen new points
    → All (LeavesLast table Of) points
chosen_last table Of old new points leaves chosen k p in' = leaves.last (get_or points k p).rides (get_or points k p) (chosen.each k p in')

-- what was added is still there
pub tree_still : (table : Table) (tree : Content) (t d : ℕ) (start old new : List (Option PointData)) → ((r : ℕ) → at start r ≡ None) → AddsTree table tree t d start old
    → LeaveLast table (IsPoint table tree t d) old new → AddsTree table tree t d start new
tree_still table tree t d start old new none added leaves = record {
  attained = λ r p e.
      let q = twin (at new r) (at old r) p (sym (leaves.same r)) e in
      let rides : q.0.rides ≡ r = elim (added.attained r q.0 q.1) [ inl was ↦ absurd (none_some q.0 (sym (none r) ∙ was)) | inr is ↦ is.0 ] in
      elim (leaves.attained r p e) [
        | inl was ↦ added.attained r p was
        | inr of ↦ inr (sym (rides_is q.0 p q.2) ∙ rides, of)
      ];
  kept = λ n a h. there_still old new leaves.same n a (added.kept n a h);
  least = λ legs z j. there_still old new leaves.same (suc (length legs)) z (added.least legs z j);
}

-- ---- over all journeys of at most k rides

module _ (table : Table) (k s t d : ℕ) where
  -- one who leaves earlier is there as early with as many rides
  waits : (e : ℕ) (m : Numbers) → d ≤ e → Reaches table 0 k s t e m → (o : Numbers) × Reaches table 0 k s t d o × (o.arrival ≤ m.arrival) × (o.rides ≡ m.rides)
  waits e m le of = go of.0 of.1 of.2 where
    go : (legs : List Leg) → Journey table s e legs t m.arrival → length legs ≡ m.rides → (o : Numbers) × Reaches table 0 k s t d o × (o.arrival ≤ m.arrival) × (o.rides ≡ m.rides)
    go [] j count =
        let w = the_some (foot table s t) (λ w. m.arrival ≡ e + w) j in
        let is = w.2 in (
          record { arrival = d + w.0; rides = m.rides },
          ([], subst (λ o. IsSomeAnd o (λ v. d + w.0 ≡ d + v)) (sym w.1) refl, count, of.3, of.4),
          (let z : d + w.0 ≤ m.arrival = omega (arith, is, le) in z),
          refl,
        )
    go (x ∷ legs) j count = (m, (x ∷ legs, journey_earlier table s d e (x ∷ legs) t m.arrival le (omega arith) j, count, of.3, of.4), le_refl m.arrival, refl)

  beats_too : (o m n : Numbers) → o.arrival ≤ m.arrival → o.rides ≡ m.rides → Beats m n → Beats o n
  beats_too o m n le same beats = (
    le_trans le beats.0,
    (let b = beats.1 in let z : o.rides ≤ n.rides = omega (arith, same, b) in z),
    elim beats.2 [
      | inl lt ↦ inl (let z : o.arrival < n.arrival = omega (arith, le, lt) in z)
      | inr lt ↦ inr (let z : o.rides < n.rides = omega (arith, same, lt) in z)
    ],
  )

  module _ (e : ℕ) (n : Numbers) (after : d < e) (best : (m : Numbers) → Reaches table 0 k s t d m → ¬ Beats m n) (of : Reaches table 0 k s t e n) where
    -- the best numbers, if one can leave for them later, are best then
    pub best_later : Unbeaten (Reaches table 0 k s t e) n
    best_later = (
      of,
      λ m other beats.
          let o = waits e m (le_of_lt after) other in
          best o.0 o.1 (beats_too o.0 m n o.2 o.3 beats),
    )

    -- and they have a ride
    pub ridden_later : (legs : List Leg) → Journey table s e legs t n.arrival → length legs ≡ n.rides → 1 ≤ length legs
    ridden_later [] j count =
        let w = the_some (foot table s t) (λ w. n.arrival ≡ e + w) j in
        let is = w.2 in
        let few = of.4 in
        absurd (best (record { arrival = d + w.0; rides = n.rides })
        ([], subst (λ o. IsSomeAnd o (λ v. d + w.0 ≡ d + v)) (sym w.1) refl, count, (omega arith), few)
        ((let z : d + w.0 ≤ n.arrival = omega (arith, is, after) in z), le_refl n.rides, inl (let z : d + w.0 < n.arrival = omega (arith, is, after) in z)))
    ridden_later (x ∷ legs) j count = omega arith

-- the tree has a journey with the best numbers that leaves as late as any
module _ (table : Table) (tree : Content) (t d k : ℕ) (complete : Complete table k tree.source tree.pairs) (e : ℕ) (n : Numbers) (after : d < e)
    (best : (m : Numbers) → Reaches table 0 k tree.source t d m → ¬ Beats m n) (of : Reaches table 0 k tree.source t e n) (few : n.rides ≤ 8) where
  point_of : (legs : List Leg) → PointData
  point_of legs = record { from = tree.source; to = t; departure = leaving table tree.source e legs; arrival = n.arrival; rides = n.rides; legs = legs }

  pub later_point : (q : PointData) × IsPoint table tree t d q × (numbers q ≡ n) × (e ≤ q.departure)
  unfolding point_of
  later_point =
      let has = has_best table tree t e k complete n (best_later table k tree.source t d e n after best of) in
      let legs = has.0 in
      let j = has.1.0 in
      let some = ridden_later table k tree.source t d e n after best of legs j has.2 in
      let late = leaving_after table tree.source e legs t n.arrival j in (
        point_of legs,
        record {
          is = record {
            starts = refl;
            ends = refl;
            counted = has.2;
            journey = journey_earlier table tree.source d e legs t n.arrival (le_of_lt after) some j;
            after = le_trans (le_of_lt after) late;
            in_time = leaving_in_time table tree.source e legs t n.arrival j;
            just = leaving_just table tree.source e legs t n.arrival j;
          };
          few = few;
          has = has.1.1;
        },
        refl,
        late,
      )

-- a preferred journey leaves no earlier
pub leaves_no_earlier : (table : Table) (p q : PointData) → IsPreferred table p q → q.departure ≤ p.departure
leaves_no_earlier table p q (inl lt) = le_of_lt lt
leaves_no_earlier table p q (inr same) = let e = same.0 in omega (arith, e)

-- the answer from a whole tree
pub latest_of_tree : (table : Table) (tree : Content) (t d k : ℕ) → IsWhole table k tree → (points : List PointData) → All (IsPoint table tree t d) points
    → AreBest (Reaches table 0 k tree.source t d) (map numbers points) → All (LeavesLast table (IsPoint table tree t d)) points
    → All (IsLatest (Reaches table 0 k tree.source t)) points
latest_of_tree table tree t d k whole points are best last i x in' e of =
    let p = get_or points i x in
    let is = are i x in' in
    let un = best.each (numbers p) (numbers_in points p (Contains-get_or points i x in')) in
    elim (cases_lt p.departure e) [
      | inl lt ↦
          let after : d < e = (let a = is.is.after in omega (arith, a, lt)) in
          let q = later_point table tree t d k whole.complete e (numbers p) after un.1 of is.few in
          le_trans q.3 (leaves_no_earlier table p q.0 (last i x in' q.0 q.1 q.2))
      | inr le ↦ le
    ]

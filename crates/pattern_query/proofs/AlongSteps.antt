-- The journey along a path, put in place of the point with its numbers; path after path, and for the paths of a tree.
use Rattle.std.proofs.Common.{Option, ◌≡◌, ◌↔◌, ℕ, suc, ◌+◌, ◌<◌, ◌≤◌, List, [], ◌∷◌, length, take, get_or, Some, Contains, arith, sym, ◌∙◌, ap, subst, inl, inr, le_of_eq, slice_set, unwrap_or}
use Rattle.std.proofs.lemmas.Bool.{cases_lt}
use Rattle.std.proofs.lemmas.Option.{same_Some}
use Rattle.timetable.specs.declared.parts.Leg.{Leg}
use Rattle.timetable.specs.Table.{Table}
use Rattle.timetable.specs.Journeys.{Journey, foot, pattern}
use Rattle.timetable.proofs.Taken.{the_some}
use Rattle.pattern_tree.specs.Forest.{Step}
use Rattle.pattern_tree.specs.Content.{Content}
use Rattle.pattern_query.specs.Answer.{PointData, numbers, IsJourney, IsPoint}
use Rattle.pattern_query.specs.BestSoFar.{at, AreSlots, IsKept, IsAlong, AreThere, IsSearched}
use Rattle.pattern_query.specs.Way.{Exactly, EmptyOrIn}
use Rattle.pattern_query.specs.Leaving.{walked, on_foot, IsPreferred, LeaveLast, IsBetterAlong, AreJourneys}
use Rattle.pattern_query.proofs.SlotSteps.{the_point, by_of, at_within}
use Rattle.pattern_query.proofs.WaySteps.{pattern_length}
use Rattle.pattern_query.proofs.FollowSteps.{more_cases, more_old, more_new}
use Rattle.pattern_query.proofs.TreeSteps.{stored, stored_path}
use Rattle.pattern_query.proofs.LeaveSteps.{arrival_is, rides_is, numbers_are, there_still, leave_none, leave_both, leave_set}

module _ (table : Table) (s t d : ℕ) where
  pub along_rides : (path : List Step) (o : PointData) → IsAlong table s t d (Exactly path) o → o.rides ≡ length path
  along_rides path o is = sym is.is.counted ∙ sym (pattern_length table o.legs) ∙ ap (λ (l : List Step). length l) is.path

  module _ (path : List Step) (points : List (Option PointData)) (slots : AreSlots points) where
    -- it arrives as early, since none arrives earlier with as few rides
    as_early : AreThere table s t d (Exactly path) points → (p q : PointData) → IsKept points (length path) p → IsAlong table s t d (Exactly path) q → q.arrival ≤ p.arrival → p.arrival ≤ q.arrival
    as_early least p q kept is sooner =
        let there = least q.legs q.arrival is.path is.is.journey in
        let x = the_point (at points there.0) q.arrival there.2 in
        let few = there.1 in
        let count = is.is.counted in
        let many = along_rides path q is in
        elim (cases_lt there.0 (length path)) [
          | inl lt ↦ absurd (kept.1 (there.0, lt, by_of (at points there.0) x.0 p.arrival x.1 (let le = x.2 in let z : x.0.arrival ≤ p.arrival = omega (arith, le, sooner) in z)))
          | inr ge ↦
              let slot : there.0 ≡ length path = omega (arith, few, count, many, ge) in
              let same : x.0 ≡ p = same_Some x.0 p (sym x.1 ∙ ap (at points) slot ∙ kept.0) in
              subst (λ (x : PointData). x.arrival ≤ q.arrival) same x.2
        ]

    pub put_along : AreThere table s t d (Exactly path) points → (q : PointData) → (p : PointData) × IsKept points (length path) p × IsBetterAlong table s t d path p q
        → LeaveLast table (IsAlong table s t d (Exactly path)) points (slice_set points (length path) (Some q))
    put_along least q h =
        let p = h.0 in
        let kept = h.1 in
        let is = h.2 in
        let sooner = is.sooner in
        let early = as_early least p q kept is.along sooner in
        let alike : numbers q ≡ numbers p =
        numbers_are q p (omega (arith, early, sooner)) (along_rides path q is.along ∙ sym (slots.counted (length path) p kept.0)) in
        leave_set table (IsAlong table s t d (Exactly path)) points (length path) p q slots kept.0 alike is.along is.preferred
        (λ o other same. is.last o other (let e = arrival_is o q same in let z : o.arrival ≤ p.arrival = omega (arith, e, sooner) in z))
        (along_rides path)

    pub stay_along : ((p o : PointData) → IsKept points (length path) p → IsAlong table s t d (Exactly path) o → o.arrival ≡ p.arrival → IsPreferred table p o)
        → LeaveLast table (IsAlong table s t d (Exactly path)) points points
    stay_along none =
        leave_none table (IsAlong table s t d (Exactly path)) points
        (λ r p kept o is same.
        let slot : r ≡ length path = sym (slots.counted r p kept.0) ∙ sym (rides_is o p same) ∙ along_rides path o is in
        none p o (subst (λ r. IsKept points r p) slot kept) is (arrival_is o p same))

  -- a way on foot
  walk_only : (e : ℕ) (legs : List Leg) (z : ℕ) → length legs ≡ 0 → Journey table s d legs t z → Journey table s e legs t z → (e ≡ d) × (z ≡ d + walked table s (pattern table legs) t)
  walk_only e [] z none j k =
      let w = the_some (foot table s t) (λ w. z ≡ d + w) j in
      let v = the_some (foot table s t) (λ w. z ≡ e + w) k in
      let same = same_Some w.0 v.0 (sym w.1 ∙ v.1) in
      let one = w.2 in
      let other = v.2 in
      let walk : unwrap_or (foot table s t) 0 ≡ w.0 = ap (λ o. unwrap_or o 0) w.1 in
      (omega (arith, same, one, other), omega (arith, one, walk))
  walk_only e (x ∷ legs) z none j k = absurd (omega (arith, none))

  pub on_foot_only : (p : PointData) → IsJourney table s t d p → p.rides ≡ 0 → (p.departure ≡ d) × (p.arrival ≡ d + on_foot table p)
  on_foot_only p is none =
      let w = walk_only p.departure p.legs p.arrival (is.counted ∙ none) is.journey is.in_time in
      (w.0, w.1 ∙ ap (λ (x : ℕ). d + walked table x (pattern table p.legs) t) (sym is.starts) ∙ ap (λ (x : ℕ). d + walked table p.from (pattern table p.legs) x) (sym is.ends))

-- of those on foot that arrive as early, each leaves at once and walks as long
pub feet_alike : (table : Table) (s t s' t' d : ℕ) (p o : PointData) → IsJourney table s t d p → IsJourney table s' t' d o → o.rides ≡ 0 → numbers o ≡ numbers p → IsPreferred table p o
feet_alike table s t s' t' d p o is other none same =
    let x = on_foot_only table s t d p is (sym (rides_is o p same) ∙ none) in
    let y = on_foot_only table s' t' d o other none in
    let one = x.1 in
    let two = y.1 in
    let e = arrival_is o p same in
    inr (y.0 ∙ sym x.0, le_of_eq (let z : on_foot table p ≡ on_foot table o = omega (arith, one, two, e) in z))

module _ (table : Table) (s t d : ℕ) where
  -- before any path
  pub leave_start : (points : List (Option PointData)) → AreJourneys table d points → LeaveLast table (IsAlong table s t d (EmptyOrIn [])) points points
  leave_start points each =
      leave_none table (IsAlong table s t d (EmptyOrIn [])) points
      (λ r p kept o is same.
      let k = each r p kept.0 in
      let none : pattern table o.legs ≡ [] = elim is.path [ inl e ↦ e | inr c ↦ absurd (let lt = c.1 in omega (arith, lt)) ] in
      let few = ap (λ (l : List Step). length l) none in
      let count = is.is.counted in
      feet_alike table k.0 k.1 s t d p o k.2 is.is (omega (arith, few, count, pattern_length table o.legs)) same)

  -- one path more
  pub leave_more : (paths : List (List Step)) (i : ℕ) (path : List Step) → i < length paths → get_or paths i path ≡ path → (start old new : List (Option PointData))
      → LeaveLast table (IsAlong table s t d (EmptyOrIn (take i paths))) start old → LeaveLast table (IsAlong table s t d (Exactly path)) old new
      → LeaveLast table (IsAlong table s t d (EmptyOrIn (take (i + 1) paths))) start new
  leave_more paths i path in' is start old new first second =
      leave_both table (IsAlong table s t d (EmptyOrIn (take (i + 1) paths))) (IsAlong table s t d (EmptyOrIn (take i paths))) (IsAlong table s t d (Exactly path)) start old new first second
      (λ p along. elim (more_cases paths i path in' is (pattern table p.legs) along.path) [
        | inl was ↦ inl (record { is = along.is; path = was })
        | inr here ↦ inr (record { is = along.is; path = here })
      ])
      (λ p along. record { is = along.is; path = more_old paths i path in' is (pattern table p.legs) along.path })
      (λ p along. record { is = along.is; path = more_new paths i path in' is (pattern table p.legs) along.path })

  -- the journeys along a path are among those along the paths
  pub there_along : (paths : List (List Step)) (i : ℕ) (path : List Step) → i < length paths → get_or paths i path ≡ path → (old new : List (Option PointData)) (Of : PointData → Type 0)
      → LeaveLast table Of old new → AreThere table s t d (EmptyOrIn paths) old → AreThere table s t d (Exactly path) new
  there_along paths i path in' is old new Of leaves there = λ legs z along j.
      there_still old new leaves.same (suc (length legs)) z
      (there legs z (inr (subst (λ q. Contains paths q) (sym along) (i, in', is))) j)

-- the paths of a tree
module _ (table : Table) (tree : Content) (t d : ℕ) (paths : List (List Step)) (are : (path : List Step) → Contains paths path ↔ Contains tree.pairs (path, t)) where
  pub tree_there : (slots : List (Option PointData)) → IsSearched table tree t d slots → AreThere table tree.source t d (EmptyOrIn paths) slots
  tree_there slots searched = λ legs z path j. searched legs z (j, stored table tree t d paths are legs path)

  pub tree_leaves : (old new : List (Option PointData)) → AreSlots new → LeaveLast table (IsAlong table tree.source t d (EmptyOrIn paths)) old new
      → LeaveLast table (IsPoint table tree t d) old new
  tree_leaves old new slots leaves = record {
    same = leaves.same;
    attained = λ r p e. elim (leaves.attained r p e) [
      | inl was ↦ inl was
      | inr along ↦ inr (record {
        is = along.is;
        few = (let lt = at_within new r p e in let n = slots.nine in let k = slots.counted r p e in omega (arith, lt, n, k));
        has = stored table tree t d paths are p.legs along.path;
      })
    ];
    later = leaves.later;
    last = λ r p kept o is same. leaves.last r p kept o (record { is = is.is; path = stored_path table tree t d paths are o.legs is.has }) same;
  }

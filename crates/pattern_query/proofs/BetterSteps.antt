-- The journey along a path that leaves last, beside one with the same numbers.
use Rattle.std.proofs.Common.{Option, ◌≡◌, ℕ, ◌<◌, ◌≤◌, false, IfSome, IfNone, List, length, Some, None, arith, sym, ◌∙◌, ap, subst, inl, inr, le_trans, le_of_eq}
use Rattle.std.proofs.lemmas.Bool.{cases_lt}
use Rattle.std.proofs.lemmas.Option.{same_Some}
use Rattle.timetable.specs.Table.{Table}
use Rattle.timetable.proofs.Taken.{journey_earlier}
use Rattle.pattern_tree.specs.Forest.{Step}
use Rattle.pattern_query.specs.Answer.{PointData}
use Rattle.pattern_query.specs.BestSoFar.{at, IsAlong, Searched}
use Rattle.pattern_query.specs.Way.{Exactly}
use Rattle.pattern_query.specs.Leaving.{walked, on_foot, IsPreferred, CanTake, IsLastMoment, IsFound, IsBetterAlong}
use Rattle.pattern_query.proofs.SlotSteps.{none_some, the_point}
use Rattle.pattern_query.proofs.WaySteps.{pattern_length}

module _ (table : Table) (s t : ℕ) (path : List Step) where
  pub along_takes : (d : ℕ) (o : PointData) (by : ℕ) → IsAlong table s t d (Exactly path) o → o.arrival ≤ by → CanTake table false s path t by o.departure
  along_takes d o by is le = (o.legs, o.arrival, is.path, is.is.in_time, le)

  -- the walks of a journey along the path are those of the path
  pub walks_alike : (d : ℕ) (o : PointData) → IsAlong table s t d (Exactly path) o → on_foot table o ≡ walked table s path t
  walks_alike d o is =
      ap (λ (l : List Step). walked table o.from l o.to) is.path ∙ ap (λ (x : ℕ). walked table x path o.to) is.is.starts ∙ ap (λ (x : ℕ). walked table s path x) is.is.ends

  module _ (d : ℕ) (p : PointData) where
    -- none along the path leaves as late
    pub none_as_late : ((e : ℕ) → CanTake table false s path t p.arrival e → e < p.departure)
        → (o : PointData) → IsAlong table s t d (Exactly path) o → o.arrival ≤ p.arrival → IsPreferred table p o
    none_as_late none o is le = inl (none o.departure (along_takes d o p.arrival is le))

    module _ (e : ℕ) (last : IsLastMoment (CanTake table false s path t p.arrival) e) where
      by_the_last : (o : PointData) → IsAlong table s t d (Exactly path) o → o.arrival ≤ p.arrival → o.departure ≤ e
      by_the_last o is le = last.1 o.departure (along_takes d o p.arrival is le)

      -- none leaves later, nor as late and walks less
      pub none_walks_less : e ≡ p.departure → on_foot table p ≤ walked table s path t
          → (o : PointData) → IsAlong table s t d (Exactly path) o → o.arrival ≤ p.arrival → IsPreferred table p o
      none_walks_less same walk o is le =
          let late = by_the_last o is le in
          elim (cases_lt o.departure p.departure) [
            | inl lt ↦ inl lt
            | inr ge ↦ inr ((let z : o.departure ≡ p.departure = omega (arith, late, same, ge) in z), le_trans walk (le_of_eq (sym (walks_alike d o is))))
          ]

      module _ (start found : List (Option PointData)) (none : (r : ℕ) → at start r ≡ None) (searched : Searched table s t e (Exactly path) start found) where
        is_along : (r : ℕ) (q : PointData) → at found r ≡ Some q → (q.rides ≡ r) × IsAlong table s t e (Exactly path) q
        is_along r q h = elim (searched.attained r q h) [ inl was ↦ absurd (none_some q (sym (none r) ∙ was)) | inr is ↦ is ]

        rides_are : (q : PointData) → IsAlong table s t e (Exactly path) q → q.rides ≡ length path
        rides_are q is = sym is.is.counted ∙ sym (pattern_length table q.legs) ∙ ap (λ (l : List Step). length l) is.path

        -- it was found
        pub found_there : (q : PointData) × (at found (length path) ≡ Some q) × (q.arrival ≤ p.arrival)
        found_there =
            let take = last.0 in
            let there = searched.least take.0 take.1 take.2 take.3 in
            let x = the_point (at found there.0) take.1 there.2 in
            let is = is_along there.0 x.0 x.1 in
            let slot : there.0 ≡ length path = sym is.0 ∙ rides_are x.0 is.1 in
            (x.0, subst (λ (r : ℕ). at found r ≡ Some x.0) slot x.1, le_trans x.2 take.4)

        pub found_better : 0 < length path → d ≤ p.departure → p.departure ≤ e → (e ≡ p.departure → walked table s path t ≤ on_foot table p)
            → (q : PointData) → at found (length path) ≡ Some q → IsBetterAlong table s t d path p q
        found_better some after since walk q here =
            let there = found_there in
            let same : there.0 ≡ q = same_Some there.0 q (sym there.1 ∙ here) in
            let sooner : q.arrival ≤ p.arrival = subst (λ (q : PointData). q.arrival ≤ p.arrival) same there.2 in
            let is = (is_along (length path) q here).1 in
            let along = earlier some after since q is in
            let late : e ≤ q.departure = is.is.after in
            let not_later = by_the_last q along sooner in
            let departure : q.departure ≡ e = omega (arith, late, not_later) in
            record {
              along = along;
              sooner = sooner;
              preferred = elim (cases_lt p.departure e) [
                | inl lt ↦ inl (let z : p.departure < q.departure = omega (arith, lt, departure) in z)
                | inr ge ↦
                    let equal : e ≡ p.departure = omega (arith, ge, since) in
                    inr ((let z : p.departure ≡ q.departure = omega (arith, equal, departure) in z), le_trans (le_of_eq (walks_alike d q along)) (walk equal))
              ];
              last = λ o other le.
                  let before = by_the_last o other le in
                  elim (cases_lt o.departure e) [
                    | inl lt ↦ inl (let z : o.departure < q.departure = omega (arith, lt, departure) in z)
                    | inr ge ↦
                        inr (
                          (let z : o.departure ≡ q.departure = omega (arith, ge, before, departure) in z),
                          le_of_eq (walks_alike d q along ∙ sym (walks_alike d o other)),
                        )
                  ];
            } where
              earlier : 0 < length path → d ≤ p.departure → p.departure ≤ e → (q : PointData) → IsAlong table s t e (Exactly path) q → IsAlong table s t d (Exactly path) q
              earlier some after since q is =
                  let many : 1 ≤ length q.legs = (let l = ap (λ (l : List Step). length l) is.path in let k = pattern_length table q.legs in omega (arith, l, k, some)) in
                  let le : d ≤ e = le_trans after since in
                  record {
                    is = record {
                      starts = is.is.starts;
                      ends = is.is.ends;
                      counted = is.is.counted;
                      journey = journey_earlier table s d e q.legs t q.arrival le many is.is.journey;
                      after = le_trans le is.is.after;
                      in_time = is.is.in_time;
                      just = is.is.just;
                    };
                    path = is.path;
                  }

-- what a search of only the path finds at the last moment is better than the point
pub alone_better : (table : Table) (s t : ℕ) (path : List Step) (d : ℕ) (p : PointData) (e : ℕ) → IsLastMoment (CanTake table false s path t p.arrival) e
    → 0 < length path → d ≤ p.departure → p.departure ≤ e → (e ≡ p.departure → walked table s path t ≤ on_foot table p)
    → (found : Option PointData) → IsFound table s t e path found → IfSome found (IsBetterAlong table s t d path p)
alone_better table s t path d p e last some after since walk None is = tt
alone_better table s t path d p e last some after since walk (Some q) is =
    found_better table s t path d p e last is.empty is.slots is.none is.searched some after since walk q is.here

-- and it finds something
pub alone_there : (table : Table) (s t : ℕ) (path : List Step) (d : ℕ) (p : PointData) (e : ℕ) → IsLastMoment (CanTake table false s path t p.arrival) e
    → (P : Type 0) (found : Option PointData) → IsFound table s t e path found → IfNone found P
alone_there table s t path d p e last P None is =
    let there = found_there table s t path d p e last is.empty is.slots is.none is.searched in
    absurd (none_some there.0 (sym is.here ∙ there.1))
alone_there table s t path d p e last P (Some q) is = tt

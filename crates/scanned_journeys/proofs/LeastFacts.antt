-- Of the journeys that leave last one that walks least.
use Rattle.std.proofs.Common.{◌≡◌, ℕ, ◌+◌, ◌≤◌, List, [], ◌∷◌, length, arith, refl, sym, ◌∙◌, ap, subst, inl, inr, le_refl, le_trans, le_of_eq, eq-or-lt_of_le}
use Rattle.timetable.specs.declared.parts.Leg.{Leg}
use Rattle.timetable.specs.declared.parts.Numbers.{Numbers}
use Rattle.timetable.specs.declared.parts.TheConstants.{LATEST_MOMENT}
use Rattle.timetable.specs.Table.{Table, IsTable}
use Rattle.timetable.specs.Journeys.{from, departs, foot, Journey, Reaches, Unbeaten}
use Rattle.timetable.proofs.Taken.{the_some, journey_earlier}
use Rattle.direct_connections.proofs.LatestFacts.{departs_early}
use Rattle.pattern_query.specs.Answer.{PointData, numbers, IsJourney}
use Rattle.pattern_query.specs.Leaving.{LeavesLast}
use Rattle.pattern_query.proofs.LastSteps.{best_later, ridden_later}
use Rattle.least_walks.specs.Least.{IsLeastLike}
use Rattle.scanned_journeys.specs.Latest.{IsLastLike}

-- a journey is one at its own departure
own_journey : (table : Table) (s t d : ℕ) (p : PointData) → IsJourney table s t d p → IsJourney table p.from p.to p.departure p
own_journey table s t d p is = record {
  starts = refl;
  ends = refl;
  counted = is.counted;
  journey = subst (λ (s : ℕ). Journey table s p.departure p.legs p.to p.arrival) (sym is.starts) (subst (λ (t : ℕ). Journey table s p.departure p.legs t p.arrival) (sym is.ends) is.in_time);
  after = le_refl p.departure;
  in_time = subst (λ (s : ℕ). Journey table s p.departure p.legs p.to p.arrival) (sym is.starts) (subst (λ (t : ℕ). Journey table s p.departure p.legs t p.arrival) (sym is.ends) is.in_time);
  just = λ e j. is.just e (subst (λ (s : ℕ). Journey table s e p.legs t p.arrival) is.starts (subst (λ (t : ℕ). Journey table p.from e p.legs t p.arrival) is.ends j));
}

-- a ride departs early enough for a run
early_ride : (table : Table) (s d : ℕ) (legs : List Leg) (t z : ℕ) → IsTable table → 1 ≤ length legs → Journey table s d legs t z → d ≤ LATEST_MOMENT
early_ride table s d [] t z valid some j = absurd (omega (arith, some))
early_ride table s d (leg ∷ legs) t z valid some j =
    let w = the_some (foot table s (from table leg)) (λ w. d + w ≤ departs table leg) j.1 in
    let le = w.2 in
    let early = departs_early table leg valid j.0 in
    omega (arith, le, early)

module _ (table : Table) (k s t d : ℕ) (p last : PointData) (best : Unbeaten (Reaches table 0 k s t d) (numbers p)) (like : IsLastLike table k s t d p last) where
  best_last : Unbeaten (Reaches table 0 k s t d) (numbers last)
  best_last = subst (λ (n : Numbers). Unbeaten (Reaches table 0 k s t d) n) (sym like.alike) best

  few : last.rides ≤ k
  few = best_last.0.4

  reaches : (o : PointData) → IsJourney table s t d o → numbers o ≡ numbers last → Reaches table 0 k s t o.departure (numbers last)
  reaches o is same = (
    o.legs,
    subst (λ (n : Numbers). Journey table s o.departure o.legs t n.arrival) same is.in_time,
    is.counted ∙ ap (λ (n : Numbers). n.rides) same,
    (let z : 0 ≤ last.rides = omega arith in z),
    few,
  )

  pub last_is : IsJourney table last.from last.to last.departure last
  last_is = own_journey table s t d last like.is

  -- its numbers are the best when it leaves
  best_there : Unbeaten (Reaches table 0 k s t last.departure) (numbers last)
  best_there = elim (eq-or-lt_of_le like.is.after) [
    | inl e ↦ subst (λ (d : ℕ). Unbeaten (Reaches table 0 k s t d) (numbers last)) e best_last
    | inr lt ↦ best_later table k s t d last.departure (numbers last) lt best_last.1 (reaches last like.is refl)
  ]

  pub last_best : Unbeaten (Reaches table 0 k last.from last.to last.departure) (numbers last)
  last_best = subst (λ (s : ℕ). Unbeaten (Reaches table 0 k s last.to last.departure) (numbers last)) (sym like.is.starts)
      (subst (λ (t : ℕ). Unbeaten (Reaches table 0 k s t last.departure) (numbers last)) (sym like.is.ends) best_there)

  pub last_early : IsTable table → d ≤ LATEST_MOMENT → last.departure ≤ LATEST_MOMENT
  last_early valid early = elim (eq-or-lt_of_le like.is.after) [
    | inl e ↦ le_trans (le_of_eq (sym e)) early
    | inr lt ↦
        let count = like.is.counted in
        let some = ridden_later table k s t d last.departure (numbers last) lt best_last.1 (reaches last like.is refl) last.legs like.is.in_time count in
        early_ride table s last.departure last.legs t last.arrival valid some like.is.in_time
  ]

  module _ (q : PointData) (least : IsLeastLike table last q) where
    in_time : Journey table s q.departure q.legs t q.arrival
    in_time = subst (λ (s : ℕ). Journey table s q.departure q.legs t q.arrival) like.is.starts (subst (λ (t : ℕ). Journey table last.from q.departure q.legs t q.arrival) like.is.ends least.is.in_time)

    journey_then : Journey table s last.departure q.legs t q.arrival
    journey_then = subst (λ (s : ℕ). Journey table s last.departure q.legs t q.arrival) like.is.starts
        (subst (λ (t : ℕ). Journey table last.from last.departure q.legs t q.arrival) like.is.ends least.is.journey)

    journey_now : Journey table s d q.legs t q.arrival
    journey_now = elim (eq-or-lt_of_le like.is.after) [
      | inl e ↦ subst (λ (d : ℕ). Journey table s d q.legs t q.arrival) (sym e) journey_then
      | inr lt ↦
          let count = least.is.counted in
          let same = ap (λ (n : Numbers). n.rides) least.alike in
          let other = like.is.counted in
          let some = ridden_later table k s t d last.departure (numbers last) lt best_last.1 (reaches last like.is refl) last.legs like.is.in_time other in
          journey_earlier table s d last.departure q.legs t q.arrival like.is.after (let z : 1 ≤ length q.legs = omega (arith, count, same, other, some) in z) journey_then
    ]

    pub least_is : IsJourney table s t d q
    least_is = record {
      starts = least.is.starts ∙ like.is.starts;
      ends = least.is.ends ∙ like.is.ends;
      counted = least.is.counted;
      journey = journey_now;
      after = le_trans like.is.after least.is.after;
      in_time = in_time;
      just = λ e j. least.is.just e (subst (λ (s : ℕ). Journey table s e q.legs last.to q.arrival) (sym like.is.starts) (subst (λ (t : ℕ). Journey table s e q.legs t q.arrival) (sym like.is.ends) j));
    }

    -- it leaves last, and then walks least
    pub least_like : IsLastLike table k s t d p q
    least_like = record {
      is = least_is;
      alike = least.alike ∙ like.alike;
      latest = λ e of. le_trans (like.latest e (subst (Reaches table 0 k s t e) least.alike of)) least.is.after;
    }

    pub least_leaves : LeavesLast table (IsJourney table s t d) q
    least_leaves = λ o is same.
        let alike : numbers o ≡ numbers last = same ∙ least.alike in
        let early = like.latest o.departure (reaches o is alike) in
        let after = least.is.after in
        elim (eq-or-lt_of_le (le_trans early after)) [
          | inl e ↦
              let then' : o.departure ≡ last.departure = omega (arith, e, early, after) in
              inr (
                e,
                least.least o (record {
                  starts = is.starts ∙ sym like.is.starts;
                  ends = is.ends ∙ sym like.is.ends;
                  counted = is.counted;
                  journey = subst (λ (d : ℕ). Journey table last.from d o.legs last.to o.arrival) then' (moved o is);
                  after = le_of_eq (sym then');
                  in_time = moved o is;
                  just = λ e j. is.just e (subst (λ (s : ℕ). Journey table s e o.legs t o.arrival) like.is.starts (subst (λ (t : ℕ). Journey table last.from e o.legs t o.arrival) like.is.ends j));
                }) alike,
              )
          | inr lt ↦ inl lt
        ] where
          moved : (o : PointData) → IsJourney table s t d o → Journey table last.from o.departure o.legs last.to o.arrival
          moved o is = subst (λ (s : ℕ). Journey table s o.departure o.legs last.to o.arrival) (sym like.is.starts) (subst (λ (t : ℕ). Journey table s o.departure o.legs t o.arrival) (sym like.is.ends) is.in_time)

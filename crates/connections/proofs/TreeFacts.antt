-- The connections of an event by the answers at it and at the next one.
use Rattle.std.proofs.Common.{Option, Some, None, ◌≡◌, ℕ, ◌+◌, ◌<◌, ◌≤◌, List, [], ◌∷◌, length, map, IsSomeAnd, arith, refl, sym, subst, inl, inr}
use Rattle.std.specs.List.{Contains}
use Rattle.std.proofs.lemmas.Bool.{cases_lt, cases_eq}
use Rattle.std.proofs.lemmas.List.Elements.{at_from_Contains}
use Rattle.timetable.specs.declared.parts.Leg.{Leg}
use Rattle.timetable.specs.declared.parts.Numbers.{Numbers}
use Rattle.timetable.specs.Table.{Table}
use Rattle.timetable.specs.Journeys.{Journey, Unbeaten, foot}
use Rattle.timetable.specs.Front.{AreBest}
use Rattle.timetable.proofs.Taken.{the_some, journey_earlier}
use Rattle.rounds.proofs.EventLaws.{own_event}
use Rattle.pattern_query.specs.Answer.{PointData, numbers}
use Rattle.pattern_query.specs.Questions.{Held}
use Rattle.pattern_query.proofs.Best.{no_worse}
use Rattle.connections.specs.Connections.{Connects}
use Rattle.connections.specs.Found.{AreAfter, IsEventOf, IsLastBefore, Scope}
use Rattle.connections.proofs.ConnectionFacts.{HasEvents}
use Rattle.connections.proofs.FoundFacts.{numbers_in, point_of}

-- one may wait before a journey with a ride, and on foot one is there sooner who begins sooner
pub record IsFlow (Is : ℕ → Type 0) (Of : ℕ → Numbers → Type 0) : Type 0 where
  pub events : HasEvents Is Of
  pub waits : (d e : ℕ) (n : Numbers) → d ≤ e → 1 ≤ n.rides → Of e n → Of d n
  pub walks : (d e : ℕ) (n : Numbers) → d < e → n.rides ≡ 0 → Of e n → (m : Numbers) × Of d m × (m.rides ≡ 0) × (m.arrival < n.arrival)

walks_sooner : (table : Table) (s t d e z : ℕ) (legs : List Leg) → length legs ≡ 0 → d < e → Journey table s e legs t z
    → (x : ℕ) × Journey table s d [] t x × (x < z)
walks_sooner table s t d e z [] none lt j =
    let w = the_some (foot table s t) (λ w. z ≡ e + w) j in
    let same = w.2 in
    (d + w.0, subst (λ o. IsSomeAnd o (λ v. d + w.0 ≡ d + v)) (sym w.1) refl, (let k : d + w.0 < z = omega (arith, same, lt) in k))
walks_sooner table s t d e z (leg ∷ legs) none lt j = absurd (let b : ⊥ = omega (arith, none) in b)

module _ (table : Table) (held : Held) (froms tos : List ℕ) where
  -- the journeys of trees, and those of a timetable
  pub is_flow : (scope : Option ℕ) → IsFlow (IsEventOf table froms) (Scope table held froms tos scope)
  is_flow None = record {
    events = record {
      own = λ d n some of.
          let tree = of.0 in
          let t = of.1 in
          let in' = of.3 in
          let a = in'.2 in
          let own = own_event table tree.source d in'.0 t n.arrival (omega (arith, a, some)) in'.1.0 in
          (own.0, (tree.source, of.2.0, own.1), own.2, (tree, t, of.2, (in'.0, (own.3, in'.1.1), in'.2)));
    };
    waits = λ d e n le some of.
        let tree = of.0 in
        let t = of.1 in
        let in' = of.3 in
        let a = in'.2 in
        (tree, t, of.2, (in'.0, (journey_earlier table tree.source d e in'.0 t n.arrival le (omega (arith, a, some)) in'.1.0, in'.1.1), in'.2));
    walks = λ d e n lt none of.
        let tree = of.0 in
        let t = of.1 in
        let in' = of.3 in
        let a = in'.2 in
        let w = walks_sooner table tree.source t d e n.arrival in'.0 (omega (arith, a, none)) lt in'.1.0 in
        (record { arrival = w.0; rides = 0 }, (tree, t, of.2, ([], (w.1, inl refl), refl)), refl, w.2);
  }
  is_flow (Some k) = record {
    events = record {
      own = λ d n some of.
          let s = of.0 in
          let t = of.1 in
          let in' = of.4 in
          let a = in'.2 in
          let own = own_event table s d in'.0 t n.arrival (omega (arith, a, some)) in'.1 in
          (own.0, (s, of.2, own.1), own.2, (s, t, of.2, of.3, (in'.0, own.3, in'.2, in'.3, in'.4)));
    };
    waits = λ d e n le some of.
        let s = of.0 in
        let t = of.1 in
        let in' = of.4 in
        let a = in'.2 in
        (s, t, of.2, of.3, (in'.0, journey_earlier table s d e in'.0 t n.arrival le (omega (arith, a, some)) in'.1, in'.2, in'.3, in'.4));
    walks = λ d e n lt none of.
        let s = of.0 in
        let t = of.1 in
        let in' = of.4 in
        let a = in'.2 in
        let w = walks_sooner table s t d e n.arrival in'.0 (omega (arith, a, none)) lt in'.1 in
        (record { arrival = w.0; rides = 0 }, (s, t, of.2, of.3, ([], w.1, refl, (omega arith), (omega arith))), refl, w.2);
  }

module _ (Is : ℕ → Type 0) (Of : ℕ → Numbers → Type 0) (flow : IsFlow Is Of) where
  -- the best at the next event stand for all that begin later
  pub after_next : (e next : ℕ) (points : List PointData) → e < next → ((x : ℕ) → e < x → x < next → ¬ Is x)
      → AreBest (Of next) (map numbers points) → AreAfter Of e points
  after_next e next points lt none best = record {
    each = λ q h some. (next, lt, (best.each (numbers q) (numbers_in points q h)).0);
    all = λ later m gt some of.
        let own = flow.events.own later m some of in
        let from = own.2 in
        elim (cases_lt own.0 next) [
          | inl before ↦ absurd (none own.0 (omega (arith, gt, from)) before own.1)
          | inr le ↦
              let k = no_worse (Of next) (Of next) (map numbers points) best (λ n h. h) (λ n h. h.0) m (flow.waits next own.0 m le some own.3) in
              let q = point_of points k.0 k.1 in
              (q.0, q.1, subst (λ (n : Numbers). n.arrival ≤ m.arrival) (sym q.2) k.2, subst (λ (n : Numbers). n.rides ≤ m.rides) (sym q.2) k.3)
        ];
    foot = λ q h zero'. flow.walks e next (numbers q) lt zero' (best.each (numbers q) (numbers_in points q h)).0;
  }

  -- with no event after it, nothing begins later
  pub after_last : (e : ℕ) → ((x : ℕ) → e < x → ¬ Is x) → AreAfter Of e []
  after_last e none = record {
    each = λ q h some. absurd (let k = at_from_Contains [] q h in let b : ⊥ = omega (arith, k.1) in b);
    all = λ later m gt some of. (let own = flow.events.own later m some of in let from = own.2 in absurd (none own.0 (omega (arith, gt, from)) own.1));
    foot = λ q h zero'. absurd (let k = at_from_Contains [] q h in let b : ⊥ = omega (arith, k.1) in b);
  }

module _ (Of : ℕ → Numbers → Type 0) (e : ℕ) (points next : List PointData) (best : AreBest (Of e) (map numbers points)) (after : AreAfter Of e next) where
  -- those that no later journey matches connect
  pub last_connects : (p : PointData) → Contains points p → IsLastBefore next p → Connects Of e (numbers p)
  last_connects p h leaves = record {
    ridden = leaves.0;
    best = is;
    last = λ later m lt some few le of.
        let q = after.all later m lt some of in
        let x = q.2 in
        let y = q.3 in
        elim (cases_eq q.0.rides 0) [
          | inl none ↦
              let w = after.foot q.0 q.1 none in
              let walk = w.2 in
              let sooner = w.3 in
              let ridden = leaves.0 in
              is.1 w.0 w.1 (
                (let z : w.0.arrival ≤ p.arrival = omega (arith, sooner, x, le) in z),
                (let z : w.0.rides ≤ p.rides = omega (arith, walk) in z),
                inr (let z : w.0.rides < p.rides = omega (arith, walk, ridden) in z),
              )
          | inr ridden ↦
              leaves.1 (
                q.0,
                q.1,
                (
                  (let z : 1 ≤ q.0.rides = omega (arith, ridden) in z),
                  (let z : q.0.rides ≤ p.rides = omega (arith, y, few) in z),
                  (let z : q.0.arrival ≤ p.arrival = omega (arith, x, le) in z),
                ),
              )
        ];
  } where
    is : Unbeaten (Of e) (numbers p)
    is = best.each (numbers p) (numbers_in points p h)

  pub connects_last : (p : PointData) → Contains points p → Connects Of e (numbers p) → IsLastBefore next p
  connects_last p h is = (
    is.ridden,
    λ there. (let l = after.each there.0 there.1 there.2.0 in is.last l.0 (numbers there.0) l.1 there.2.0 there.2.1 there.2.2 l.2),
  )

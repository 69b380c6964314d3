-- Between two events no journey of one ride or more is lost.
use Rattle.std.proofs.Common.{◌≡◌, ℕ, ◌+◌, ◌-◌, ◌<◌, ◌≤◌, List, [], ◌∷◌, length, IsSomeAnd, arith, sym, subst, inl, inr}
use Rattle.std.proofs.lemmas.Bool.{cases_lt}
use Rattle.timetable.specs.declared.parts.Leg.{Leg}
use Rattle.timetable.specs.Table.{Table}
use Rattle.timetable.specs.Journeys.{from, departs, foot, Journey}
use Rattle.stop_events.specs.Events.{IsEvent}
use Rattle.timetable.proofs.Taken.{the_some, journey_earlier}

-- a journey of one ride or more is one at some event
pub own_event : (table : Table) (s d : ℕ) (legs : List Leg) (t z : ℕ) → 1 ≤ length legs → Journey table s d legs t z
    → (e : ℕ) × IsEvent table s e × (d ≤ e) × Journey table s e legs t z
own_event table s d [] t z some j = absurd (let b : ⊥ = omega (arith, some) in b)
own_event table s d (leg ∷ legs) t z some j =
    let w = the_some (foot table s (from table leg)) (λ w. d + w ≤ departs table leg) j.1 in
    let le = w.2 in
    let e : ℕ = departs table leg - w.0 in
    let same : e + w.0 ≡ departs table leg = omega (arith, le) in
    let later : d ≤ e = omega (arith, le) in (
      e,
      (leg, j.0, subst (λ o. IsSomeAnd o (λ w. e + w ≡ departs table leg)) (sym w.1) same),
      later,
      (j.0, subst (λ o. IsSomeAnd o (λ w. e + w ≤ departs table leg)) (sym w.1) (let k : e + w.0 ≤ departs table leg = omega (arith, same) in k), j.2),
    )

-- with no event from d on up to e, a journey of one ride or more at d is one at e
pub next_event : (table : Table) (s d e : ℕ) (legs : List Leg) (t z : ℕ) → ((x : ℕ) → d ≤ x → x < e → ¬ IsEvent table s x)
    → 1 ≤ length legs → Journey table s d legs t z → Journey table s e legs t z
next_event table s d e legs t z none some j =
    let own = own_event table s d legs t z some j in
    elim (cases_lt own.0 e) [
      | inl before ↦ absurd (none own.0 own.2 before own.1)
      | inr after ↦ journey_earlier table s e own.0 legs t z after some own.3
    ]

-- with no event from d on there is none
pub no_event : (table : Table) (s d : ℕ) (legs : List Leg) (t z : ℕ) → ((x : ℕ) → d ≤ x → ¬ IsEvent table s x)
    → 1 ≤ length legs → ¬ Journey table s d legs t z
no_event table s d legs t z none some j = let own = own_event table s d legs t z some j in none own.0 own.2 own.1

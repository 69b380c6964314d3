-- The last of the best numbers is the soonest.
use Rattle.std.proofs.Common.{Option, ◌≡◌, ℕ, zero, suc, ◌+◌, ◌-◌, ◌<◌, ◌≤◌, ◌⊎◌, List, length, get_or, slice_get, Contains, arith, ap, sym, ◌∙◌, subst, inl, inr, MatchOption}
use Rattle.std.proofs.lemmas.Bool.{cases_lt}
use Rattle.std.proofs.lemmas.List.{get_or_default}
use Rattle.std.proofs.lemmas.Option.{slice_get_cases}
use Rattle.std.proofs.lemmas.List.Elements.{Contains-get_or, at_from_Contains}
use Rattle.timetable.specs.declared.parts.Numbers.{Numbers}
use Rattle.timetable.specs.Table.{Table}
use Rattle.timetable.specs.Journeys.{Beats, Reaches, Unbeaten}
use Rattle.timetable.specs.Front.{AreBest, AreFront}
use Rattle.reaching.specs.Reached.{IsSoonest}

-- what none of the best is, and what those are that beat one that is so, none is
module _ (Of : Numbers → Type 0) (points : List Numbers) (best : AreBest Of points) (Bad : Numbers → Type 0)
    (within : (m : Numbers) → Bad m → Of m) (none : (p : Numbers) → Contains points p → Bad p → ⊥)
    (down : (l m : Numbers) → Bad m → Of l → Beats l m → Bad l) where
  nowhere : (fuel : ℕ) (m : Numbers) → m.arrival + m.rides < fuel → Bad m → ⊥
  nowhere zero m lt bad = absurd (omega (arith, lt))
  nowhere (suc fuel) m lt bad = none m (best.all m (
    within m bad,
    λ l of b.
        let smaller : l.arrival + l.rides < fuel =
        (let a = b.0 in let r = b.1 in elim b.2 [ inl x ↦ omega (arith, a, r, x, lt) | inr x ↦ omega (arith, a, r, x, lt) ]) in
        nowhere fuel l smaller (down l m bad of b),
  )) bad

-- with no best numbers there are none
pub none_of : (Of : Numbers → Type 0) (points : List Numbers) → AreBest Of points → length points ≡ 0 → (m : Numbers) → ¬ Of m
none_of Of points best empty m of =
    nowhere Of points best Of (λ n h. h)
    (λ p h _. let at = at_from_Contains points p h in let lt = at.1 in absurd (omega (arith, empty, lt)))
    (λ l n _ is _. is) (suc (m.arrival + m.rides)) m (omega arith) of

-- numbers that are sooner than these
abbrev IsSooner : Numbers → Numbers → Type 0
IsSooner m n = (m.arrival < n.arrival) ⊎ ((m.arrival ≡ n.arrival) × (m.rides < n.rides))

still_sooner : (l m n : Numbers) → IsSooner m n → Beats l m → IsSooner l n
still_sooner l m n (inl lt) b = inl (let a = b.0 in let z : l.arrival < n.arrival = omega (arith, a, lt) in z)
still_sooner l m n (inr h) b =
    let a = b.0 in let r = b.1 in let e = h.0 in let lt = h.1 in
    elim (cases_lt l.arrival n.arrival) [
      | inl less ↦ inl less
      | inr le ↦ inr ((let z : l.arrival ≡ n.arrival = omega (arith, a, e, le) in z), (let z : l.rides < n.rides = omega (arith, r, lt) in z))
    ]

-- the best numbers of which none of the best has more rides are the soonest
pub soonest_is : (Of : Numbers → Type 0) (points : List Numbers) → AreBest Of points → (n : Numbers) → Contains points n
    → ((p : Numbers) → Contains points p → p.rides ≤ n.rides) → IsSoonest Of n
soonest_is Of points best n there most = (un.0, λ m of. later m of (cases_lt n.arrival m.arrival) (cases_lt m.arrival n.arrival) (cases_lt m.rides n.rides)) where
  un : Unbeaten Of n
  un = best.each n there

  none : (p : Numbers) → Contains points p → Of p × IsSooner p n → ⊥
  none p h bad = elim bad.1 [
    | inl lt ↦ un.1 p bad.0 ((let z : p.arrival ≤ n.arrival = omega (arith, lt) in z), most p h, inl lt)
    | inr e ↦ (let a = e.0 in un.1 p bad.0 ((let z : p.arrival ≤ n.arrival = omega (arith, a) in z), most p h, inr e.1))
  ]

  never : (m : Numbers) → Of m → IsSooner m n → ⊥
  never m of sooner =
      nowhere Of points best (λ m. Of m × IsSooner m n) (λ m h. h.0) none
      (λ l m bad of b. (of, still_sooner l m n bad.1 b)) (suc (m.arrival + m.rides)) m (omega arith) (of, sooner)

  later : (m : Numbers) → Of m → (n.arrival < m.arrival) ⊎ (m.arrival ≤ n.arrival) → (m.arrival < n.arrival) ⊎ (n.arrival ≤ m.arrival)
      → (m.rides < n.rides) ⊎ (n.rides ≤ m.rides) → (n.arrival < m.arrival) ⊎ ((n.arrival ≡ m.arrival) × (n.rides ≤ m.rides))
  later m of (inl lt) y z = inl lt
  later m of (inr le) (inl lt) z = absurd (never m of (inl lt))
  later m of (inr le) (inr ge) (inl lt) = absurd (never m of (inr ((let z : m.arrival ≡ n.arrival = omega (arith, le, ge) in z), lt)))
  later m of (inr le) (inr ge) (inr few) = inr ((let z : n.arrival ≡ m.arrival = omega (arith, le, ge) in z), few)

-- the last one has the most rides
pub last_most : (points : List Numbers) (k : ℕ) (n : Numbers) → ((i j : ℕ) (d : Numbers) → i < j → j < length points → (get_or points i d).rides < (get_or points j d).rides)
    → length points ≡ suc k → ((d : Numbers) → get_or points k d ≡ n) → (p : Numbers) → Contains points p → p.rides ≤ n.rides
last_most points k n rising count is p h =
    let at = at_from_Contains points p h in
    let lt = at.1 in
    elim (cases_lt at.0 k) [
      | inl less ↦
          let r : p.rides < n.rides = subst (λ (q : Numbers). q.rides < n.rides) (at.2 n)
          (subst (λ (q : Numbers). (get_or points at.0 n).rides < q.rides) (is n) (rising at.0 k n less (omega (arith, count)))) in
          omega (arith, r)
      | inr le ↦
          let same : at.0 ≡ k = omega (arith, le, lt, count) in
          let e : p ≡ n = sym (at.2 n) ∙ ap (λ i. get_or points i n) same ∙ is n in
          let r : p.rides ≡ n.rides = ap (λ (q : Numbers). q.rides) e in omega (arith, r)
    ]

-- it is the soonest; with no best numbers there are none at all
pub last_soonest : (table : Table) (k s t d : ℕ) (points : List Numbers) → AreFront table k s t d points → (o : Option Numbers)
    → o ≡ slice_get points (length points - 1) → MatchOption o ((m : Numbers) → ¬ Reaches table 0 k s t d m) (IsSoonest (Reaches table 0 k s t d))
last_soonest table k s t d points best o is = subst Right (sym is) (elim (slice_get_cases points (length points - 1)).1 [
  | inl h ↦
      let lt = h.1 in
      let at : (q : Numbers) → get_or points (length points - 1) q ≡ h.0 = λ q. get_or_default points (length points - 1) q h.0 lt ∙ h.3 in
      subst Right (sym h.2)
      (soonest_is Of points best h.0 (subst (λ (n : Numbers). Contains points n) h.3 (Contains-get_or points (length points - 1) h.0 lt))
      (last_most points (length points - 1) h.0 best.rising (omega (arith, lt)) at))
  | inr h ↦ (let past = h.0 in subst Right (sym h.1) (none_of Of points best (omega (arith, past))))
]) where
  Of : Numbers → Type 0
  Of = Reaches table 0 k s t d

  Right : Option Numbers → Type 0
  Right o = MatchOption o ((m : Numbers) → ¬ Of m) (IsSoonest Of)

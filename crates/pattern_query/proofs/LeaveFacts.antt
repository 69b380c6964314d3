-- When one leaves for legs at the latest.
use Rattle.std.proofs.Common.{◌≡◌, ℕ, ◌+◌, ◌-◌, ◌≤◌, List, [], ◌∷◌, Some, IsSomeAnd, arith, sym, ◌∙◌, ap, subst, unwrap_or}
use Rattle.std.proofs.lemmas.Option.{same_Some}
use Rattle.timetable.specs.declared.parts.Leg.{Leg}
use Rattle.timetable.specs.Table.{Table}
use Rattle.timetable.specs.Journeys.{from, departs, foot, Journey}
use Rattle.timetable.proofs.Taken.{the_some}
use Rattle.pattern_query.specs.Way.{leaving}

-- the walk to where the leg boards
walked_to : (table : Table) (s e : ℕ) (leg : Leg) → IsSomeAnd (foot table s (from table leg)) (λ w. e + w ≤ departs table leg)
    → (w : ℕ) × (foot table s (from table leg) ≡ Some w) × (e + w ≤ departs table leg) × (unwrap_or (foot table s (from table leg)) 0 ≡ w)
walked_to table s e leg h =
    let w = the_some (foot table s (from table leg)) (λ w. e + w ≤ departs table leg) h in
    (w.0, w.1, w.2, ap (λ o. unwrap_or o 0) w.1)

pub leaving_after : (table : Table) (s d : ℕ) (legs : List Leg) (t z : ℕ) → Journey table s d legs t z → d ≤ leaving table s d legs
leaving_after table s d [] t z j = omega arith
leaving_after table s d (leg ∷ legs) t z j =
    let w = walked_to table s d leg j.1 in let in_time = w.2 in let is = w.3 in omega (arith, in_time, is)

pub leaving_in_time : (table : Table) (s d : ℕ) (legs : List Leg) (t z : ℕ) → Journey table s d legs t z → Journey table s (leaving table s d legs) legs t z
leaving_in_time table s d [] t z j = j
leaving_in_time table s d (leg ∷ legs) t z j =
    let w = walked_to table s d leg j.1 in
    let in_time = w.2 in
    let is = w.3 in
    let just : (departs table leg - unwrap_or (foot table s (from table leg)) 0) + w.0 ≤ departs table leg = omega (arith, in_time, is) in
    (j.0, subst (λ o. IsSomeAnd o (λ v. (departs table leg - unwrap_or (foot table s (from table leg)) 0) + v ≤ departs table leg)) (sym w.1) just, j.2)

pub leaving_just : (table : Table) (s d : ℕ) (legs : List Leg) (t z : ℕ) → Journey table s d legs t z
    → (e : ℕ) → Journey table s e legs t z → e ≤ leaving table s d legs
leaving_just table s d [] t z j e k =
    let w = the_some (foot table s t) (λ w. z ≡ d + w) j in
    let v = the_some (foot table s t) (λ w. z ≡ e + w) k in
    let same = same_Some w.0 v.0 (sym w.1 ∙ v.1) in
    let one = w.2 in
    let other = v.2 in
    omega (arith, same, one, other)
leaving_just table s d (leg ∷ legs) t z j e k =
    let w = walked_to table s e leg k.1 in let in_time = w.2 in let is = w.3 in omega (arith, in_time, is)

-- The last moment at which one can take a path, from its end to its start.
use Rattle.std.proofs.Common.{Option, ◌≡◌, ℕ, ◌+◌, ◌<◌, ◌≤◌, Bool, true, false, List, [], ◌∷◌, length, Some, None, IsSomeAnd, IfSome, IfNone, arith, refl, sym, ◌∙◌, ap, subst}
use Rattle.std.proofs.lemmas.Option.{same_Some}
use Rattle.timetable.specs.declared.parts.Leg.{Leg}
use Rattle.timetable.specs.Table.{Table, IsTable}
use Rattle.timetable.specs.Journeys.{Ride, from, to, departs, arrives, foot, Onward, pattern}
use Rattle.timetable.proofs.Taken.{the_some}
use Rattle.timetable.proofs.Legs.{arrives_early}
use Rattle.pattern_tree.specs.Forest.{Step}
use Rattle.direct_connections.specs.Latest.{ServesBy}
use Rattle.pattern_query.specs.Way.{hop}
use Rattle.pattern_query.specs.Leaving.{GoesOn, CanTake, IsLastMoment, IsBack}
use Rattle.pattern_query.proofs.WaySteps.{ride_late}

-- what a ride along a step, and the rest of the path after it, are
pub record Takes (table : Table) (ridden : Bool) (p : ℕ) (step : Step) (rest : List Step) (t by a : ℕ) : Type 0 where
  pub leg : Leg
  pub wait : ℕ
  pub ride : Ride table leg
  pub starts : from table leg ≡ step.0
  pub ends : to table leg ≡ step.1
  pub hops : hop table ridden p step.0 ≡ Some wait
  pub in_time : a + wait ≤ departs table leg
  pub rest_is : CanTake table true step.1 rest t by (arrives table leg)

-- a walk, and no ride
walks : (table : Table) (ridden : Bool) (p a t z : ℕ) → GoesOn table ridden p a [] t z → IsSomeAnd (foot table p t) (λ w. z ≡ a + w)
walks table false p a t z h = h
walks table true p a t z h = h

walks_of : (table : Table) (ridden : Bool) (p a t z : ℕ) → IsSomeAnd (foot table p t) (λ w. z ≡ a + w) → GoesOn table ridden p a [] t z
walks_of table false p a t z h = h
walks_of table true p a t z h = h

rides : (table : Table) (ridden : Bool) (p a : ℕ) (leg : Leg) (legs : List Leg) (t z : ℕ) → GoesOn table ridden p a (leg ∷ legs) t z
    → Ride table leg × IsSomeAnd (hop table ridden p (from table leg)) (λ w. a + w ≤ departs table leg) × Onward table (to table leg) (arrives table leg) legs t z
rides table false p a leg legs t z h = h
rides table true p a leg legs t z h = h

rides_of : (table : Table) (ridden : Bool) (p a : ℕ) (leg : Leg) (legs : List Leg) (t z : ℕ)
    → Ride table leg → IsSomeAnd (hop table ridden p (from table leg)) (λ w. a + w ≤ departs table leg) → Onward table (to table leg) (arrives table leg) legs t z
    → GoesOn table ridden p a (leg ∷ legs) t z
rides_of table false p a leg legs t z r h o = (r, h, o)
rides_of table true p a leg legs t z r h o = (r, h, o)

abbrev first_or : List Step → Step → Step
first_or [] d = d
first_or (z ∷ zs) d = z

abbrev others_of : List Step → List Step
others_of [] = []
others_of (z ∷ zs) = zs

pub on_foot_parts : (table : Table) (ridden : Bool) (p t by a : ℕ) → CanTake table ridden p [] t by a → (w : ℕ) × (foot table p t ≡ Some w) × (a + w ≤ by)
on_foot_parts table ridden p t by a h = go h.0 h.1 h.2 h.3 h.4 where
  go : (legs : List Leg) (z : ℕ) → pattern table legs ≡ [] → GoesOn table ridden p a legs t z → z ≤ by → (w : ℕ) × (foot table p t ≡ Some w) × (a + w ≤ by)
  go [] z e g le =
      let w = the_some (foot table p t) (λ w. z ≡ a + w) (walks table ridden p a t z g) in
      (w.0, w.1, (let is = w.2 in let m : a + w.0 ≤ by = omega (arith, is, le) in m))
  go (x ∷ legs) z e g le = absurd (let l = ap (λ (l : List Step). length l) e in omega (arith, l))

pub on_foot_of : (table : Table) (ridden : Bool) (p t by a w : ℕ) → foot table p t ≡ Some w → a + w ≤ by → CanTake table ridden p [] t by a
on_foot_of table ridden p t by a w e le =
    ([], a + w, refl, walks_of table ridden p a t (a + w) (subst (λ o. IsSomeAnd o (λ v. a + w ≡ a + v)) (sym e) refl), le)

pub takes : (table : Table) (ridden : Bool) (p : ℕ) (step : Step) (rest : List Step) (t by a : ℕ) → CanTake table ridden p (step ∷ rest) t by a → Takes table ridden p step rest t by a
takes table ridden p step rest t by a h = go h.0 h.1 h.2 h.3 h.4 where
  go : (legs : List Leg) (z : ℕ) → pattern table legs ≡ step ∷ rest → GoesOn table ridden p a legs t z → z ≤ by → Takes table ridden p step rest t by a
  go [] z e g le = absurd (let l = ap (λ (l : List Step). length l) e in omega (arith, l))
  go (leg ∷ legs) z e g le =
      let first : ◌≡◌ {A = Step} (from table leg, to table leg) step = ap (λ l. first_or l step) e in
      let starts : from table leg ≡ step.0 = ap (λ (x : Step). x.0) first in
      let ends : to table leg ≡ step.1 = ap (λ (x : Step). x.1) first in
      let k = rides table ridden p a leg legs t z g in
      let w = the_some (hop table ridden p (from table leg)) (λ w. a + w ≤ departs table leg) k.1 in
      record {
        leg = leg;
        wait = w.0;
        ride = k.0;
        starts = starts;
        ends = ends;
        hops = subst (λ x. hop table ridden p x ≡ Some w.0) starts w.1;
        in_time = w.2;
        rest_is = (legs, z, ap others_of e, subst (λ x. Onward table x (arrives table leg) legs t z) ends k.2, le);
      }

pub takes_of : (table : Table) (ridden : Bool) (p : ℕ) (step : Step) (rest : List Step) (t by a w : ℕ) (leg : Leg) → Ride table leg → from table leg ≡ step.0 → to table leg ≡ step.1
    → hop table ridden p step.0 ≡ Some w → a + w ≤ departs table leg → CanTake table true step.1 rest t by (arrives table leg) → CanTake table ridden p (step ∷ rest) t by a
takes_of table ridden p step rest t by a w leg ride starts ends hops in_time goes = (
  leg ∷ goes.0,
  goes.1,
  ap (λ x. (x, to table leg) ∷ pattern table goes.0) starts ∙ ap (λ x. (step.0, x) ∷ pattern table goes.0) ends ∙ ap (λ (l : List Step). step ∷ l) goes.2,
  rides_of table ridden p a leg goes.0 t goes.1 ride
      (subst (λ x. IsSomeAnd (hop table ridden p x) (λ v. a + v ≤ departs table leg)) (sym starts) (subst (λ o. IsSomeAnd o (λ v. a + v ≤ departs table leg)) (sym hops) in_time))
      (subst (λ x. Onward table x (arrives table leg) goes.0 t goes.1) (sym ends) goes.3),
  goes.4,
)

-- one who is there earlier can wait
pub take_earlier : (table : Table) (ridden : Bool) (p : ℕ) (path : List Step) (t by a b : ℕ) → b ≤ a → CanTake table ridden p path t by a → CanTake table ridden p path t by b
take_earlier table ridden p [] t by a b le h =
    let k = on_foot_parts table ridden p t by a h in
    on_foot_of table ridden p t by b k.0 k.1 (let m = k.2 in omega (arith, m, le))
take_earlier table ridden p (step ∷ rest) t by a b le h =
    let k = takes table ridden p step rest t by a h in
    takes_of table ridden p step rest t by b k.wait k.leg k.ride k.starts k.ends k.hops (let m = k.in_time in omega (arith, m, le)) k.rest_is

module _ (table : Table) (ridden : Bool) (p t by : ℕ) where
  -- no ride is left
  pub last_foot : (e : ℕ) → IsBack (foot table p t) by e → IsLastMoment (CanTake table ridden p [] t by) e
  last_foot e back = (
    on_foot_of table ridden p t by e back.0 back.1 (let is = back.2 in omega (arith, is)),
    λ b h.
        let k = on_foot_parts table ridden p t by b h in
        let same = same_Some k.0 back.0 (sym k.1 ∙ back.1) in
        let le = k.2 in
        let is = back.2 in
        omega (arith, same, le, is),
  )

  pub none_foot : (since : ℕ) → ((e w : ℕ) → foot table p t ≡ Some w → e + w ≤ by → e < since) → (e : ℕ) → CanTake table ridden p [] t by e → e < since
  none_foot since none e h = let k = on_foot_parts table ridden p t by e h in none e k.0 k.1 k.2

  module _ (step : Step) (rest : List Step) (valid : IsTable table) where
    -- one can't go on in time after the step
    pub none_rest : (since : ℕ) → ((e : ℕ) → CanTake table true step.1 rest t by e → e < since) → (e : ℕ) → CanTake table ridden p (step ∷ rest) t by e → e < since
    none_rest since none e h =
        let k = takes table ridden p step rest t by e h in
        let less = none (arrives table k.leg) k.rest_is in
        let late = ride_late table k.leg valid k.ride in
        let in_time = k.in_time in
        omega (arith, less, late, in_time)

    module _ (alighted : ℕ) (last : IsLastMoment (CanTake table true step.1 rest t by) alighted) where
      serves : (e : ℕ) (k : Takes table ridden p step rest t by e) → ServesBy table step.0 step.1 alighted k.leg
      serves e k = record { ride = k.ride; starts = k.starts; ends = k.ends; in_time = last.1 (arrives table k.leg) k.rest_is }

      -- no ride along the step is there in time
      pub none_ride : (since : ℕ) → ((leg : Leg) → ¬ ServesBy table step.0 step.1 alighted leg) → (e : ℕ) → CanTake table ridden p (step ∷ rest) t by e → e < since
      none_ride since none e h = let k = takes table ridden p step rest t by e h in absurd (none k.leg (serves e k))

      module _ (leg : Leg) (is : ServesBy table step.0 step.1 alighted leg) (most : (other : Leg) → ServesBy table step.0 step.1 alighted other → departs table other ≤ departs table leg) where
        pub last_step : (e : ℕ) → IsBack (hop table ridden p step.0) (departs table leg) e → IsLastMoment (CanTake table ridden p (step ∷ rest) t by) e
        last_step e back = (
          takes_of table ridden p step rest t by e back.0 leg is.ride is.starts is.ends back.1 (let s = back.2 in omega (arith, s))
              (take_earlier table true step.1 rest t by alighted (arrives table leg) is.in_time last.0),
          λ b h.
              let k = takes table ridden p step rest t by b h in
              let same = same_Some k.wait back.0 (sym k.hops ∙ back.1) in
              let le = k.in_time in
              let s = back.2 in
              let m = most k.leg (serves b k) in
              omega (arith, same, le, s, m),
        )

        pub none_step : (since : ℕ) → ((e w : ℕ) → hop table ridden p step.0 ≡ Some w → e + w ≤ departs table leg → e < since) → (e : ℕ) → CanTake table ridden p (step ∷ rest) t by e → e < since
        none_step since none e h =
            let k = takes table ridden p step rest t by e h in
            let m = most k.leg (serves e k) in
            let le = k.in_time in
            none e k.wait k.hops (omega (arith, m, le))

-- one who has a ride to take leaves before the latest time
pub takes_early : (table : Table) (ridden : Bool) (p : ℕ) (path : List Step) (t by a : ℕ) → IsTable table → 0 < length path → CanTake table ridden p path t by a → a ≤ 3455998
takes_early table ridden p [] t by a valid some h = absurd (omega (arith, some))
takes_early table ridden p (step ∷ rest) t by a valid some h =
    let k = takes table ridden p step rest t by a h in
    let late = ride_late table k.leg valid k.ride in
    let early = arrives_early table k.leg valid k.ride in
    let in_time = k.in_time in
    omega (arith, late, early, in_time)

pub some_then : {P Q : ℕ → Type 0} (o : Option ℕ) → ((x : ℕ) → P x → Q x) → IfSome o P → IfSome o Q
some_then None f h = tt
some_then (Some x) f h = f x h

pub none_then : {P Q : Type 0} (o : Option ℕ) → (P → Q) → IfNone o P → IfNone o Q
none_then None f h = f h
none_then (Some x) f h = tt

pub no_steps : (path : List Step) → length path ≡ 0 → path ≡ []
no_steps [] e = refl
no_steps (x ∷ path) e = absurd (omega (arith, e))

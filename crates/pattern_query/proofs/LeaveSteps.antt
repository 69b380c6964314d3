-- How points are put in place of others with the same numbers that leave earlier.
use Rattle.std.proofs.Common.{Option, ◌≡◌, ◌≢◌, ℕ, ◌≤◌, ◌⊎◌, List, length, Some, None, arith, refl, sym, ◌∙◌, ap, subst, inl, inr, le_trans, le_refl, option_map, slice_set}
use Rattle.std.proofs.lemmas.List.{get_or-set_same, get_or-set_other}
use Rattle.std.proofs.lemmas.Option.{same_Some}
use Rattle.std.proofs.lemmas.Bool.{cases_eq}
use Rattle.timetable.specs.declared.parts.Numbers.{Numbers}
use Rattle.timetable.specs.Table.{Table}
use Rattle.pattern_query.specs.Answer.{PointData, numbers, IsJourney}
use Rattle.pattern_query.specs.BestSoFar.{at, ThereBy, AreSlots, IsKept}
use Rattle.pattern_query.specs.Leaving.{on_foot, IsPreferred, LeavesLast, LeaveLast, AreJourneys}
use Rattle.pattern_query.proofs.SlotSteps.{the_point, by_of, at_within}

pub preferred_refl : (table : Table) (p : PointData) → IsPreferred table p p
preferred_refl table p = inr (refl, le_refl (on_foot table p))

pub preferred_trans : (table : Table) (p q o : PointData) → IsPreferred table p q → IsPreferred table q o → IsPreferred table p o
preferred_trans table p q o (inl a) (inl b) = inl (omega (arith, a, b))
preferred_trans table p q o (inl a) (inr b) = let e = b.0 in inl (omega (arith, a, e))
preferred_trans table p q o (inr a) (inl b) = let e = a.0 in inl (omega (arith, e, b))
preferred_trans table p q o (inr a) (inr b) = inr (b.0 ∙ a.0, le_trans a.1 b.1)

-- two slots with the same numbers
same_none : (x : Numbers) → None ≡ Some x → ⊥
same_none x e = cc

pub twin : (old new : Option PointData) (p : PointData) → option_map numbers new ≡ option_map numbers old → old ≡ Some p → (q : PointData) × (new ≡ Some q) × (numbers q ≡ numbers p)
twin old None p e is = absurd (same_none (numbers p) (e ∙ ap (option_map numbers) is))
twin old (Some q) p e is = (q, refl, same_Some (numbers q) (numbers p) (e ∙ ap (option_map numbers) is))

pub arrival_is : (p q : PointData) → numbers p ≡ numbers q → p.arrival ≡ q.arrival
arrival_is p q e = ap (λ (n : Numbers). n.arrival) e

pub rides_is : (p q : PointData) → numbers p ≡ numbers q → p.rides ≡ q.rides
rides_is p q e = ap (λ (n : Numbers). n.rides) e

pub numbers_are : (p q : PointData) → p.arrival ≡ q.arrival → p.rides ≡ q.rides → numbers p ≡ numbers q
numbers_are p q a r = ap (λ (x : ℕ). record { arrival = x; rides = p.rides }) a ∙ ap (λ (x : ℕ). record { arrival = q.arrival; rides = x }) r

module _ (old new : List (Option PointData)) (same : (r : ℕ) → option_map numbers (at new r) ≡ option_map numbers (at old r)) where
  pub there_still : (n a : ℕ) → ThereBy old n a → ThereBy new n a
  there_still n a h =
      let p = the_point (at old h.0) a h.2 in
      let q = twin (at old h.0) (at new h.0) p.0 (same h.0) p.1 in
      (h.0, h.1, by_of (at new h.0) q.0 a q.1 (let e = arrival_is q.0 p.0 q.2 in let le = p.2 in let z : q.0.arrival ≤ a = omega (arith, e, le) in z))

  there_before : (n a : ℕ) → ThereBy new n a → ThereBy old n a
  there_before n a h =
      let p = the_point (at new h.0) a h.2 in
      let q = twin (at new h.0) (at old h.0) p.0 (sym (same h.0)) p.1 in
      (h.0, h.1, by_of (at old h.0) q.0 a q.1 (let e = arrival_is q.0 p.0 q.2 in let le = p.2 in let z : q.0.arrival ≤ a = omega (arith, e, le) in z))

  -- the point that was there before
  pub kept_before : (r : ℕ) (p : PointData) → IsKept new r p → (q : PointData) × IsKept old r q × (numbers q ≡ numbers p)
  kept_before r p kept =
      let q = twin (at new r) (at old r) p (sym (same r)) kept.0 in
      (q.0, (q.1, λ there. kept.1 (subst (λ a. ThereBy new r a) (arrival_is q.0 p q.2) (there_still r q.0.arrival there))), q.2)

  pub counted_same : AreSlots old → length new ≡ length old → AreSlots new
  counted_same slots long = record {
    nine = long ∙ slots.nine;
    counted = λ r p e.
        let q = twin (at new r) (at old r) p (sym (same r)) e in
        sym (rides_is q.0 p q.2) ∙ slots.counted r q.0 q.1;
  }

module _ (table : Table) (Of : PointData → Type 0) where
  -- no point is put in
  pub leave_none : (slots : List (Option PointData)) → ((r : ℕ) (p : PointData) → IsKept slots r p → LeavesLast table Of p) → LeaveLast table Of slots slots
  leave_none slots last = record {
    same = λ r. refl;
    attained = λ r p e. inl e;
    later = λ r p q e f. subst (λ (o : PointData). IsPreferred table p o) (same_Some p q (sym e ∙ f)) (preferred_refl table p);
    last = last;
  }

  -- one after the other
  pub leave_both : (P Q : PointData → Type 0) (old mid new : List (Option PointData)) → LeaveLast table P old mid → LeaveLast table Q mid new
      → ((p : PointData) → Of p → P p ⊎ Q p) → ((p : PointData) → P p → Of p) → ((p : PointData) → Q p → Of p) → LeaveLast table Of old new
  leave_both P Q old mid new first second split left right = record {
    same = λ r. second.same r ∙ first.same r;
    attained = λ r p e. elim (second.attained r p e) [
      | inl was ↦ elim (first.attained r p was) [ inl before ↦ inl before | inr is ↦ inr (left p is) ]
      | inr is ↦ inr (right p is)
    ];
    later = λ r p q e f.
        let m = twin (at new r) (at mid r) p (sym (second.same r)) e in
        preferred_trans table p m.0 q (second.later r p m.0 e m.1) (first.later r m.0 q m.1 f);
    last = λ r p kept o of alike. elim (split o of) [
      | inl is ↦
          let m = kept_before mid new second.same r p kept in
          preferred_trans table p m.0 o (second.later r p m.0 kept.0 m.1.0) (first.last r m.0 m.1 o is (alike ∙ sym m.2))
      | inr is ↦ second.last r p kept o is alike
    ];
  }

  -- the same set by another name
  pub leave_as : (P : PointData → Type 0) (old new : List (Option PointData)) → LeaveLast table P old new
      → ((p : PointData) → Of p → P p) → ((p : PointData) → P p → Of p) → LeaveLast table Of old new
  leave_as P old new is back forth = record {
    same = is.same;
    attained = λ r p e. elim (is.attained r p e) [ inl was ↦ inl was | inr of ↦ inr (forth p of) ];
    later = is.later;
    last = λ r p kept o of alike. is.last r p kept o (back o of) alike;
  }

  -- a point is put in place of another, for a set of journeys with as many rides
  pub leave_set : (old : List (Option PointData)) (n : ℕ) (p q : PointData) → AreSlots old → at old n ≡ Some p → numbers q ≡ numbers p → Of q → IsPreferred table q p
      → LeavesLast table Of q → ((o : PointData) → Of o → o.rides ≡ n) → LeaveLast table Of old (slice_set old n (Some q))
  leave_set old n p q slots here alike of better last rides = record {
    same = λ r. elim (where_is r) [
      | inl e ↦ ap (option_map numbers) e.1 ∙ ap (λ (x : Numbers). Some x) alike ∙ sym (ap (option_map numbers) (ap (at old) e.0 ∙ here))
      | inr ne ↦ ap (option_map numbers) ne.1
    ];
    attained = λ r x e. elim (where_is r) [
      | inl k ↦ inr (subst Of (same_Some q x (sym k.1 ∙ e)) of)
      | inr ne ↦ inl (sym ne.1 ∙ e)
    ];
    later = λ r x y e f. elim (where_is r) [
      | inl k ↦
          subst (λ (x : PointData). IsPreferred table x y) (same_Some q x (sym k.1 ∙ e))
          (subst (λ (y : PointData). IsPreferred table q y) (same_Some p y (sym (ap (at old) k.0 ∙ here) ∙ f)) better)
      | inr ne ↦ subst (λ (y : PointData). IsPreferred table x y) (same_Some x y (sym e ∙ ne.1 ∙ f)) (preferred_refl table x)
    ];
    last = λ r x kept o is same. elim (where_is r) [
      | inl k ↦ subst (λ (x : PointData). LeavesLast table Of x) (same_Some q x (sym k.1 ∙ kept.0)) last o is same
      | inr ne ↦ absurd (ne.0 (sym (slots.counted r x (sym ne.1 ∙ kept.0)) ∙ sym (rides_is o x same) ∙ rides o is))
    ];
  } where
    where_is : (r : ℕ) → ((r ≡ n) × (at (slice_set old n (Some q)) r ≡ Some q)) ⊎ ((r ≢ n) × (at (slice_set old n (Some q)) r ≡ at old r))
    where_is r = elim (cases_eq r n) [
      | inl e ↦ inl (e, ap (at (slice_set old n (Some q))) e ∙ get_or-set_same old n (Some q) None (at_within old n p here))
      | inr ne ↦ inr (ne, get_or-set_other old n r (Some q) None ne)
    ]

-- the points stay journeys
pub journeys_still : (table : Table) (d : ℕ) (Of : PointData → Type 0) (old new : List (Option PointData)) → LeaveLast table Of old new
    → ((p : PointData) → Of p → (s : ℕ) × (t : ℕ) × IsJourney table s t d p) → AreJourneys table d old → AreJourneys table d new
journeys_still table d Of old new is each were r p e = elim (is.attained r p e) [ inl was ↦ were r p was | inr of ↦ each p of ]

-- Events, found by their index, and the answers at them.
use Rattle.std.proofs.Common.{◌≡◌, ◌<◌, ◌≤◌, ◌+◌, ℕ, zero, suc, List, None, Some, length, slice_index, arith, refl, ap, sym, subst, inl, inr, ◌-◌}
use Rattle.std.specs.List.Sorted.{IsStrictlyIncreasing}
use Rattle.std.proofs.lemmas.Bool.{cases_lt}
use Rattle.std.proofs.lemmas.List.Elements.{Contains-get_or, at_from_Contains}
use Rattle.timetable.specs.Table.{IsTable, Table}
use Rattle.pattern_tree.specs.Content.{Content}
use Rattle.rounds.specs.Events.{AreEvents, IsEvent}
use Rattle.pattern_building.proofs.CompleteFacts.{event_early}
use Rattle.auditing.specs.Audits.{AgreesAt, IsFirstDifference}
use Rattle.auditing.specs.Comparing.{IsFirstStop}
use Rattle.auditing.specs.declared.auditing.Difference.{Difference}

-- rising numbers rise over any distance
at_least : (xs : List ℕ) (i n m : ℕ) → m ≡ i + n → IsStrictlyIncreasing xs → m < length xs → slice_index xs i ≤ slice_index xs m
at_least xs i zero m e rising within =
    let same : slice_index xs m ≡ slice_index xs i = ap (λ (x : ℕ). slice_index xs x) (omega (arith, e)) in
    omega (arith, same)
at_least xs i (suc n) m e rising within =
    let k : ℕ = i + n in
    let below : k + 1 < length xs = omega (arith, e, within) in
    let step : slice_index xs k < slice_index xs (k + 1) = rising k below in
    let before : slice_index xs i ≤ slice_index xs k = at_least xs i n k refl rising (omega (arith, below)) in
    let same : slice_index xs (k + 1) ≡ slice_index xs m = ap (λ (x : ℕ). slice_index xs x) (omega (arith, e)) in
    omega (arith, step, before, same)

-- what is below the number at an index stands before it
earlier : (xs : List ℕ) (i j : ℕ) → IsStrictlyIncreasing xs → j < length xs → slice_index xs j < slice_index xs i → j < i
earlier xs i j rising within less = elim (cases_lt j i) [
  | inl lt ↦ lt
  | inr ge ↦
      let least : slice_index xs i ≤ slice_index xs j = at_least xs i (j - i) j (omega (arith, ge)) rising within in
      absurd (omega (arith, less, least))
]

module _ (table : Table) (tree : Content) (k : ℕ) (items : List ℕ) (are : AreEvents table tree.source items) where
  found_at : (e : ℕ) → IsEvent table tree.source e → (i : ℕ) × (i < length items) × (slice_index items i ≡ e)
  found_at e event = let c = at_from_Contains items e (are.all e event) in (c.0, c.1, c.2 0)

  -- if they agree at the index of each event, they agree at each event
  pub no_difference : ((i : ℕ) → i < length items → AgreesAt table tree k (slice_index items i)) → IsFirstDifference table tree k None
  no_difference all e event =
      let f = found_at e event in
      subst (λ (x : ℕ). AgreesAt table tree k x) f.2 (all f.0 f.1)

  -- if they agree at each index before, a stop to which they differ there is the first
  pub difference_at : (i to : ℕ) → i < length items → ((j : ℕ) → j < i → AgreesAt table tree k (slice_index items j))
      → IsFirstStop table tree k (slice_index items i) (Some to) → (difference : Difference) → difference.to ≡ to
      → difference.depart ≡ slice_index items i → IsFirstDifference table tree k (Some difference)
  difference_at i to within before here difference is at =
      let D = difference.depart in
      let stop = subst (λ (d : ℕ). IsFirstStop table tree k d (Some difference.to)) (sym at)
      (subst (λ (x : ℕ). IsFirstStop table tree k (slice_index items i) (Some x)) (sym is) here) in
      record {
        event = subst (λ (d : ℕ). IsEvent table tree.source d) (sym at) (are.each (slice_index items i) (Contains-get_or items i 0 within));
        within = stop.0;
        differs = stop.1;
        earlier = λ e less event.
            let f = found_at e event in
            let lower : slice_index items f.0 < slice_index items i = (let one = f.2 in omega (arith, one, less, at)) in
            subst (λ (x : ℕ). AgreesAt table tree k x) f.2 (before f.0 (earlier items i f.0 are.rising f.1 lower));
        before = stop.2;
      }

-- no event is later than a moment at which one may be asked to leave
pub early_at : (table : Table) (s : ℕ) (items : List ℕ) (i : ℕ) → IsTable table → AreEvents table s items → i < length items
    → slice_index items i ≤ 4_000_000_000
early_at table s items i valid are within = event_early table s (slice_index items i) valid (are.each (slice_index items i) (Contains-get_or items i 0 within))

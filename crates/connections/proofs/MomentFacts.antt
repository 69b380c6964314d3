-- The events of several stops.
use Rattle.std.proofs.Common.{◌≡◌, ℕ, ◌+◌, ◌<◌, ◌≤◌, List, [], ◌∷◌, ◌++◌, length, take, get_or, eqb, arith, sym, ◌∙◌, ap, subst, inl, inr}
use Rattle.std.specs.List.{All, Contains, dedup}
use Rattle.std.specs.List.Sorted.{IsPermutation, IsSorted, IsStrictlyIncreasing}
use Rattle.std.specs.Ordering.{nat_cmp}
use Rattle.std.proofs.lemmas.List.{take_more}
use Rattle.std.proofs.lemmas.List.Elements.{Contains-append_left, Contains-append_right, Contains-append_cases, Contains-push, Contains-push_cases, at_from_Contains}
use Rattle.std.proofs.lemmas.List.Kept.{Contains-dedup_nat, Contains-from_dedup}
use Rattle.std.proofs.lemmas.List.Sorted.{Contains-permutation, IsPermutation-sym}
use Rattle.std.proofs.lemmas.Map.Keys.{IsStrictlyIncreasing-dedup}
use Rattle.timetable.specs.declared.parts.TheConstants.{LATEST_MOMENT}
use Rattle.timetable.specs.Table.{Table, IsTable}
use Rattle.rounds.specs.Events.{AreEvents, IsEvent}
use Rattle.connections.specs.Found.{AreMoments, IsEventOf}
use Rattle.connections.proofs.EventFacts.{event_early}
use Rattle.connections.proofs.FoundFacts.{all_from}

-- the moments are the events of these stops, in some order
pub record AreGathered (table : Table) (stops : List ℕ) (moments : List ℕ) : Type 0 where
  pub each : (e : ℕ) → Contains moments e → IsEventOf table stops e
  pub all : (e : ℕ) → IsEventOf table stops e → Contains moments e

in_none : (x : ℕ) → Contains [] x → ⊥
in_none x c = let k = at_from_Contains [] x c in let b : ⊥ = omega (arith, k.1) in b

pub none_gathered : (table : Table) → AreGathered table [] []
none_gathered table = record { each = λ e h. absurd (in_none e h); all = λ e is. absurd (in_none is.0 is.1) }

-- those of one stop more
module _ (table : Table) (stops : List ℕ) (n s : ℕ) (moments more : List ℕ) (in' : n < length stops) (is : s ≡ get_or stops n s)
    (old : AreGathered table (take n stops) moments) (new : AreEvents table s more) where
  longer : take (n + 1) stops ≡ take n stops ++ s ∷ []
  longer = take_more stops n s in' ∙ ap (λ x. take n stops ++ x ∷ []) (sym is)

  pub gathered_more : AreGathered table (take (n + 1) stops) (moments ++ more)
  gathered_more = record {
    each = λ e h. elim (Contains-append_cases moments more e h) [
      | inl was ↦
          let o = old.each e was in
          (o.0, subst (λ l. Contains l o.0) (sym longer) (Contains-append_left (take n stops) (s ∷ []) o.0 o.1), o.2)
      | inr here ↦ (s, subst (λ l. Contains l s) (sym longer) (Contains-push (take n stops) s), new.each e here)
    ];
    all = λ e event. elim (Contains-push_cases (take n stops) s event.0 (subst (λ l. Contains l event.0) longer event.1)) [
      | inl was ↦ Contains-append_left moments more e (old.all e (event.0, was, event.2))
      | inr here ↦ Contains-append_right moments more e (new.all e (subst (λ x. IsEvent table x e) (sym here) event.2))
    ];
  }

-- after a sort and a dedup
pub moments_of : (table : Table) (stops gathered sorted moments : List ℕ) → AreGathered table stops gathered → IsPermutation gathered sorted
    → IsSorted nat_cmp sorted → moments ≡ dedup eqb sorted → AreMoments (IsEventOf table stops) moments
moments_of table stops gathered sorted moments is permuted rising deduped = record {
  rising = subst IsStrictlyIncreasing (sym deduped) (IsStrictlyIncreasing-dedup sorted rising);
  each = λ e c. is.each e (Contains-permutation sorted gathered e (IsPermutation-sym gathered sorted permuted)
      (Contains-from_dedup eqb sorted e (subst (λ xs. Contains xs e) deduped c)));
  all = λ e event. subst (λ xs. Contains xs e) (sym deduped)
      (Contains-dedup_nat sorted e (Contains-permutation gathered sorted e permuted (is.all e event)));
}

-- they are early enough
pub moments_early : (table : Table) (stops moments : List ℕ) → IsTable table → AreMoments (IsEventOf table stops) moments
    → All (λ (e : ℕ). e ≤ LATEST_MOMENT) moments
moments_early table stops moments valid are =
    all_from (λ (e : ℕ). e ≤ LATEST_MOMENT) moments (λ e h. let event = are.each e h in event_early table event.0 e valid event.2)

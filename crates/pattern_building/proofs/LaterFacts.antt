-- What is passed over if an arrival is no sooner than it was before.
use Rattle.std.proofs.Common.{Option, ◌≡◌, ℕ, ◌+◌, ◌≤◌, ◌⊎◌, List, length, Some, None, arith, refl, sym, ◌∙◌, ap, subst, inl, inr, le_refl}
use Rattle.std.proofs.lemmas.Bool.{cases_lt}
use Rattle.std.proofs.lemmas.Option.{none-some}
use Rattle.timetable.specs.declared.parts.Numbers.{Numbers}
use Rattle.timetable.specs.Table.{Table, stops_of}
use Rattle.timetable.specs.Front.{IsSooner}
use Rattle.timetable.specs.Journeys.{Reaches, Unbeaten, IsLeast}
use Rattle.timetable.proofs.Taken.{journey_earlier}
use Rattle.rounds.specs.Mark.{Mark, arrival_in}
use Rattle.rounds.specs.Answers.{AreRounds, ArrivesWithin}
use Rattle.pattern_tree.specs.Forest.{Step, Pair}
use Rattle.pattern_tree.specs.Completeness.{IsPathOf}
use Rattle.std.specs.List.{Contains}
use Rattle.pattern_building.specs.RoundPairs.{InRound, UpToRound, Keeps, CompleteAt}
use Rattle.pattern_building.specs.Lowered.{Lowered, AreLater}
use Rattle.pattern_building.proofs.GivenFacts.{next_round}
use Rattle.pattern_building.proofs.CompleteFacts.{at_later, complete_kept}

-- an arrival is sooner than another or not
pub sooner_or_not : (o p : Option ℕ) → IsSooner o p ⊎ (IsSooner o p → ⊥)
sooner_or_not None p = inr (λ h. h)
sooner_or_not (Some a) None = inl tt
sooner_or_not (Some a) (Some b) = elim (cases_lt a b) [
  | inl lt ↦ inl lt
  | inr le ↦ inr (λ lt. (let z : ⊥ = omega (arith, le, lt) in z))
]

-- one that is no sooner than another, and no later, is the same
same_arrival : (o : Option ℕ) (a : ℕ) → (IsSooner (Some a) o → ⊥) → ((b : ℕ) → o ≡ Some b → a ≤ b) → o ≡ Some a
same_arrival None a no_sooner no_later = absurd (no_sooner tt)
same_arrival (Some b) a no_sooner no_later = elim (cases_lt a b) [
  | inl lt ↦ absurd (no_sooner lt)
  | inr le ↦ (let low = no_later b refl in let same : b ≡ a = omega (arith, le, low) in ap (λ x. Some x) same)
]

module _ (rounds : List (List (Option Mark))) (before : List (List (Option ℕ))) where
  pub lowered_split : (S T U : ℕ → ℕ → Type 0) → ((r t : ℕ) → U r t → S r t ⊎ T r t)
      → (r t : ℕ) → Lowered rounds before U r t → Lowered rounds before S r t ⊎ Lowered rounds before T r t
  lowered_split S T U split r t h = elim (split r t h.0) [ inl was ↦ inl (was, h.1) | inr here ↦ inr (here, h.1) ]

  -- one round more
  pub lowered_round : (i n r t : ℕ) → Lowered rounds before (UpToRound (i + 1) n) r t
      → Lowered rounds before (UpToRound i n) r t ⊎ Lowered rounds before (InRound (i + 1) n) r t
  lowered_round i n = lowered_split (UpToRound i n) (InRound (i + 1) n) (UpToRound (i + 1) n) (next_round i n)

module _ (table : Table) (s k : ℕ) where
  -- best numbers that are those of a journey at a later departure, for which the content is complete, have a path there
  pub path_later : (content : List Pair) (d t : ℕ) (n : Numbers) → Unbeaten (Reaches table 1 k s t d) n
      → (later : ℕ) × (d ≤ later) × ArrivesWithin table s later n.rides t n.arrival × CompleteAt table k s later content
      → (path : List Step) × IsPathOf table s t d n path × Contains content (path, t)
  path_later content d t n is found =
      let later = found.0 in
      let le = found.1 in
      let within = found.2 in
      let few = within.3 in
      let most = is.0.4 in
      elim (cases_lt (length within.0) n.rides) [
        | inl fewer ↦
            absurd (is.1 (record { arrival = n.arrival; rides = length within.0 })
            (within.0, journey_earlier table s d later within.0 t n.arrival le within.2 within.1, refl, within.2, (let z : length within.0 ≤ k = omega (arith, few, most) in z))
            (le_refl n.arrival, few, inr fewer))
        | inr enough ↦
            let same : length within.0 ≡ n.rides = omega (arith, few, enough) in
            at_later table s k content d later t n le found.3 (within.0, within.1, same, is.0.3, most) is
      ]

  -- the least arrival is no later than one of a later departure, so if it is no sooner it is the same
  pub arrival_kept : (content : List Pair) (d r t a : ℕ) (kept : List (List (Option Mark))) → AreLater table k s d content kept → UpToRound k (stops_of table) r t
      → IsLeast (ArrivesWithin table s d r t) (Some a) → (IsSooner (Some a) (arrival_in kept r t) → ⊥) → arrival_in kept r t ≡ Some a
  arrival_kept content d r t a kept later seen least no_sooner = same_arrival (arrival_in kept r t) a no_sooner (λ b e.
      let found = later r t b seen e in
      let h = found.2 in
      least.1 b (h.0, journey_earlier table s d found.0 h.0 t b found.1 h.2 h.1, h.2, h.3))

  pub later_kept : (d : ℕ) (old new : List Pair) (kept : List (List (Option Mark))) → Keeps old new → AreLater table k s d old kept → AreLater table k s d new kept
  later_kept d old new kept keeps later = λ r t a seen is.
      let found = later r t a seen is in
      (found.0, found.1, found.2, complete_kept table s k found.0 old new keeps found.3)

  -- the arrivals of an event are those of a later departure for each moment up to it
  pub later_of : (content : List Pair) (kept : List (List (Option Mark))) (d e : ℕ) → d ≤ e → AreRounds table s e k kept → CompleteAt table k s e content
      → AreLater table k s d content kept
  later_of content kept d e le are complete = λ r t a seen is.
      (e, le, (subst (λ (o : Option ℕ). IsLeast (ArrivesWithin table s e r t) o) is (are.least r t seen.0 seen.1 seen.2)).0, complete)

  pub later_none : (content : List Pair) (kept : List (List (Option Mark))) (d : ℕ) → ((r t : ℕ) → arrival_in kept r t ≡ None) → AreLater table k s d content kept
  later_none content kept d none = λ r t a seen is. absurd (none-some a (sym (none r t) ∙ is))

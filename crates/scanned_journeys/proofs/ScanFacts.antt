-- The best journeys along the patterns that the rounds found are the best of all journeys.
use Rattle.std.proofs.Common.{Option, ◌≡◌, ℕ, zero, suc, ◌-◌, ◌<◌, ◌≤◌, ◌⊎◌, List, [], ◌∷◌, length, Some, None, IsSomeAnd, Contains, option_map, arith, refl, sym, ◌∙◌, ap, subst, inl, inr, le_refl, le_trans}
use Rattle.std.proofs.lemmas.Bool.{cases_lt}
use Rattle.std.proofs.lemmas.Option.{none-some}
use Rattle.timetable.specs.declared.parts.Leg.{Leg}
use Rattle.timetable.specs.declared.parts.Numbers.{Numbers}
use Rattle.timetable.specs.Table.{Table, stops_of}
use Rattle.timetable.specs.Front.{AreFront, IsSooner, AreBest}
use Rattle.timetable.specs.Journeys.{Journey, Reaches, Unbeaten, IsLeast, pattern}
use Rattle.rounds.specs.Mark.{Mark, mark_in, arrival_in}
use Rattle.rounds.specs.Answers.{AreRounds, ArrivesWithin}
use Rattle.pattern_tree.specs.Forest.{Step}
use Rattle.pattern_tree.specs.Content.{Content}
use Rattle.pattern_query.specs.Answer.{TreeReaches}
use Rattle.pattern_query.proofs.Best.{best_of_all}
use Rattle.pattern_query.proofs.WaySteps.{pattern_length}
use Rattle.scanned_journeys.specs.Patterns.{AreCounted, HasPatterns, PaysOff}

abbrev numbers_of : ℕ → ℕ → Numbers
numbers_of a r = record { arrival = a; rides = r }

-- one is sooner, or there is a moment that is as early
sooner_or_not : (a : ℕ) (o : Option ℕ) → IsSooner (Some a) o ⊎ ((b : ℕ) × (o ≡ Some b) × (b ≤ a))
sooner_or_not a None = inl tt
sooner_or_not a (Some b) = elim (cases_lt a b) [
  | inl lt ↦ inl lt
  | inr le ↦ inr (b, refl, le)
]

module _ (table : Table) (s t d k : ℕ) (rounds : List (List (Option Mark))) (are : AreRounds table s d k rounds) (known : t < stops_of table) where
  -- the patterns have as many rides as their rounds
  pub counted : AreCounted rounds t k
  counted r m some few is sooner =
      let j = are.attained r t m some few known is sooner in
      sym (ap (λ (q : List Step). length q) j.3) ∙ pattern_length table j.0 ∙ j.2

  module _ (tree : Content) (source : tree.source ≡ s) (has : HasPatterns rounds t k tree.pairs) where
    within : (n : Numbers) → TreeReaches table tree t d n → Reaches table 0 k s t d n
    within n of = (of.0, subst (λ (x : ℕ). Journey table x d of.0 t n.arrival) source of.1.0, of.2, (omega arith), few of.1.1) where
      few : (of.0 ≡ []) ⊎ Contains tree.pairs (pattern table of.0, t) → n.rides ≤ k
      few (inl e) = (let l = ap (λ (l : List Leg). length l) e in let r = of.2 in omega (arith, l, r))
      few (inr c) =
          let r = has.only (pattern table of.0, t) c in
          let most = r.2 in
          let e = of.2 in
          omega (arith, e, r.3.counted, most, pattern_length table of.0)

    -- the tree has a journey of at most r rides that is there by a
    abbrev IsThereBy : ℕ → ℕ → Type 0
    IsThereBy r a = (m : Numbers) × TreeReaches table tree t d m × (m.rides ≤ r) × (m.arrival ≤ a)

    -- if one ride more is sooner, its pattern has the journey; if it isn't, fewer rides are as early
    by_rounds : (fuel r a : ℕ) → r ≤ fuel → r ≤ k → arrival_in rounds r t ≡ Some a → IsThereBy r a
    by_rounds fuel zero a le few e = absurd (none-some a e)
    by_rounds zero (suc q) a le few e = absurd (let b : ⊥ = omega (arith, le) in b)
    by_rounds (suc fuel) (suc q) a le few e =
        go (λ b is. by_rounds fuel (suc q - 1) b (omega (arith, le)) (omega (arith, few)) is) (mark_in rounds (suc q) t) refl where
          go : ((b : ℕ) → arrival_in rounds (suc q - 1) t ≡ Some b → IsThereBy (suc q - 1) b)
              → (o : Option Mark) → mark_in rounds (suc q) t ≡ o → IsThereBy (suc q) a
          go fewer None is = absurd (none-some a (sym (ap (λ (o : Option Mark). option_map (λ (m : Mark). m.arrival) o) is) ∙ e))
          go fewer (Some m) is =
              let here : Some m.arrival ≡ Some a = sym (ap (λ (o : Option Mark). option_map (λ (m : Mark). m.arrival) o) is) ∙ e in
              let same : m.arrival ≡ a = cc in
              elim (sooner_or_not a (arrival_in rounds (suc q - 1) t)) [
                | inl sooner ↦
                    let pays_off : PaysOff rounds t (suc q) = subst (λ (o : Option ℕ). IsSooner o (arrival_in rounds (suc q - 1) t)) (sym e) sooner in
                    let j = are.attained (suc q) t m (omega arith) few known is pays_off in
                    let path = has.all (suc q) (m.path, t) (omega arith) few (record {
                      ends = refl;
                      counted = counted (suc q) m (omega arith) few is pays_off;
                      pays_off = pays_off;
                      path = subst (λ (o : Option Mark). IsSomeAnd o (λ x. m.path ≡ x.path)) (sym is) refl;
                    }) in (
                      record { arrival = m.arrival; rides = suc q },
                      (
                        j.0,
                        (subst (λ (x : ℕ). Journey table x d j.0 t m.arrival) (sym source) j.1, inr (subst (λ (p : List Step). Contains tree.pairs (p, t)) (sym j.3) path)),
                        j.2,
                      ),
                      le_refl (suc q),
                      (omega (arith, same)),
                    )
                | inr before ↦
                    let found = fewer before.0 before.1 in
                    let rides = found.2 in
                    (found.0, found.1, (omega (arith, rides)), le_trans found.3 before.2)
              ]

    same_numbers : (m n : Numbers) → m.arrival ≡ n.arrival → m.rides ≡ n.rides → m ≡ n
    same_numbers m n e f = ap (λ (a : ℕ). numbers_of a m.rides) e ∙ ap (λ (r : ℕ). numbers_of n.arrival r) f

    -- so the tree has the best journeys
    has_best : (n : Numbers) → Unbeaten (Reaches table 0 k s t d) n → TreeReaches table tree t d n
    has_best n un = go un.0.0 un.0.1 un.0.2 where
      matched : IsThereBy n.rides n.arrival → TreeReaches table tree t d n
      matched found =
          let m = found.0 in
          let few = found.2 in
          let early = found.3 in
          let reached = within m found.1 in
          let no_sooner : ¬ (m.arrival < n.arrival) = λ lt. un.1 m reached (early, few, inl lt) in
          let no_fewer : ¬ (m.rides < n.rides) = λ lt. un.1 m reached (early, few, inr lt) in
          let arrival : m.arrival ≡ n.arrival = elim (cases_lt m.arrival n.arrival) [ inl lt ↦ absurd (no_sooner lt) | inr le ↦ omega (arith, le, early) ] in
          let rides : m.rides ≡ n.rides = elim (cases_lt m.rides n.rides) [ inl lt ↦ absurd (no_fewer lt) | inr le ↦ omega (arith, le, few) ] in
          subst (λ (x : Numbers). TreeReaches table tree t d x) (same_numbers m n arrival rides) found.1

      earlier : (r a : ℕ) → a ≤ n.arrival → IsThereBy r a → IsThereBy r n.arrival
      earlier r a le found = (found.0, found.1, found.2, le_trans found.3 le)

      ridden : (legs : List Leg) (o : Option ℕ) → 1 ≤ length legs → Journey table s d legs t n.arrival → length legs ≡ n.rides
          → arrival_in rounds n.rides t ≡ o → IsLeast (ArrivesWithin table s d n.rides t) o → TreeReaches table tree t d n
      ridden legs None some j e is least = absurd (least n.arrival (legs, j, some, (omega (arith, e))))
      ridden legs (Some a) some j e is least =
          matched (earlier n.rides a (least.1 n.arrival (legs, j, some, (omega (arith, e)))) (by_rounds n.rides n.rides a (le_refl n.rides) un.0.4 is))

      go : (legs : List Leg) → Journey table s d legs t n.arrival → length legs ≡ n.rides → TreeReaches table tree t d n
      go [] j e = ([], (subst (λ (x : ℕ). Journey table x d [] t n.arrival) (sym source) j, inl refl), e)
      go (x ∷ legs) j e =
          let some : 1 ≤ n.rides = omega (arith, e) in
          ridden (x ∷ legs) (arrival_in rounds n.rides t) (omega arith) j e refl (are.least n.rides t some un.0.4 known)

    pub front_of : (points : List Numbers) → AreBest (TreeReaches table tree t d) points → AreFront table k s t d points
    front_of points best = best_of_all (TreeReaches table tree t d) (Reaches table 0 k s t d) points best within has_best

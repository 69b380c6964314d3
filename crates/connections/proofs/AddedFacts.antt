-- What is added of the journeys of an event, journey by journey.
use Rattle.std.proofs.Common.{◌≡◌, ℕ, ◌+◌, ◌<◌, ◌≤◌, ◌⊎◌, List, [], ◌∷◌, ◌++◌, length, get_or, arith, refl, sym, ◌∙◌, ap, subst, inl, inr}
use Rattle.std.specs.List.{AllPairs, Contains}
use Rattle.std.proofs.lemmas.Bool.{cases_eq}
use Rattle.std.proofs.lemmas.List.{get_or_default}
use Rattle.std.proofs.lemmas.List.Quantifiers.{all_pairs_push}
use Rattle.std.proofs.lemmas.List.Elements.{Contains-get_or, Contains-append_left, Contains-push, Contains-push_cases, at_from_Contains}
use Rattle.pattern_query.specs.Answer.{PointData}
use Rattle.connections.specs.declared.connection.Connection.{Connection}
use Rattle.connections.specs.Connections.{IsBefore}
use Rattle.connections.specs.Found.{AddsSome, leaving}

-- the connection is later than the event, or of it and arrives after the journeys from n on
abbrev pub IsAbove : ℕ → List PointData → ℕ → Connection → Type 0
IsAbove event points n c =
    (event < c.departure) ⊎ ((c.departure ≡ event) × ((j : ℕ) (d : PointData) → n ≤ j → j < length points → (get_or points j d).arrival < c.journey.arrival))

-- the same as for all journeys, for those below n
pub record AddsSoFar (These : PointData → Type 0) (event : ℕ) (points : List PointData) (n : ℕ)
    (old new : List Connection) : Type 0 where
  pub kept : (c : Connection) → Contains old c → Contains new c
  pub all : (i : ℕ) (d : PointData) → i < n → i < length points → These (get_or points i d) → Contains new (leaving event (get_or points i d))
  pub only : (c : Connection) → Contains new c
      → Contains old c ⊎ ((p : PointData) × Contains points p × These p × (c ≡ leaving event p))
  pub falling : AllPairs (λ (p q : PointData). q.arrival < p.arrival) points → ((c : Connection) → Contains old c → event < c.departure)
      → AllPairs (λ a b. IsBefore b a) old → AllPairs (λ a b. IsBefore b a) new × ((c : Connection) → Contains new c → IsAbove event points n c)

module _ (These : PointData → Type 0) (event : ℕ) (points : List PointData) (old : List Connection) where
  pub none_added : AddsSoFar These event points 0 old old
  none_added = record {
    kept = λ c h. h;
    all = λ i d lt in' low. absurd (let z : ⊥ = omega (arith, lt) in z);
    only = λ c h. inl h;
    falling = λ falls later pairs. (pairs, λ c h. inl (later c h));
  }

  pub all_added : (n : ℕ) (new : List Connection) → length points ≤ n → AddsSoFar These event points n old new → AddsSome These event points old new
  all_added n new past so = record {
    kept = so.kept;
    all = λ p h low.
        let at = at_from_Contains points p h in
        let lt = at.1 in
        subst (λ (q : PointData). Contains new (leaving event q)) (at.2 p)
        (so.all at.0 p (omega (arith, lt, past)) lt (subst (λ (q : PointData). These q) (sym (at.2 p)) low));
    only = so.only;
    falling = λ falls later pairs. (so.falling falls later pairs).0;
  }

  above_more : (n : ℕ) (c : Connection) → IsAbove event points n c → IsAbove event points (n + 1) c
  above_more n c (inl lt) = inl lt
  above_more n c (inr h) = inr (h.0, λ j d le lt. h.1 j d (omega (arith, le)) lt)

  -- a journey that isn't lowered
  pub passed_over : (n : ℕ) (new : List Connection) (p : PointData) → n < length points → get_or points n p ≡ p → (These p → ⊥)
      → AddsSoFar These event points n old new → AddsSoFar These event points (n + 1) old new
  passed_over n new p in' is not_low so = record {
    kept = so.kept;
    all = λ i d lt lt' low. elim (cases_eq i n) [
      | inl e ↦ absurd (not_low (subst (λ (q : PointData). These q) (ap (λ (x : ℕ). get_or points x d) e ∙ get_or_default points n d p in' ∙ is) low))
      | inr apart ↦ so.all i d (omega (arith, lt, apart)) lt' low
    ];
    only = so.only;
    falling = λ falls later pairs. (let f = so.falling falls later pairs in (f.0, λ c h. above_more n c (f.1 c h)));
  }

  -- one that is
  pub one_more : (n : ℕ) (new : List Connection) (p : PointData) → n < length points → get_or points n p ≡ p → These p
      → AddsSoFar These event points n old new → AddsSoFar These event points (n + 1) old (new ++ leaving event p ∷ [])
  one_more n new p in' is low so = record {
    kept = λ c h. Contains-append_left new (leaving event p ∷ []) c (so.kept c h);
    all = λ i d lt lt' low'. elim (cases_eq i n) [
      | inl e ↦ subst (λ (q : PointData). Contains (new ++ leaving event p ∷ []) (leaving event q))
          (sym (ap (λ (x : ℕ). get_or points x d) e ∙ get_or_default points n d p in' ∙ is)) (Contains-push new (leaving event p))
      | inr apart ↦ Contains-append_left new (leaving event p ∷ []) (leaving event (get_or points i d)) (so.all i d (omega (arith, lt, apart)) lt' low')
    ];
    only = λ c h. elim (Contains-push_cases new (leaving event p) c h) [
      | inl was ↦ so.only c was
      | inr e ↦ inr (p, (n, in', is), low, sym e)
    ];
    falling = λ falls later pairs. (let f = so.falling falls later pairs in (
      all_pairs_push (λ a b. IsBefore b a) new (leaving event p) f.0 (λ k d lt. last_one (get_or new k d) (f.1 (get_or new k d) (Contains-get_or new k d lt))),
      λ c h. elim (Contains-push_cases new (leaving event p) c h) [
        | inl was ↦ above_more n c (f.1 c was)
        | inr e ↦ subst (λ (x : Connection). IsAbove event points (n + 1) x) e (inr (
          refl,
          λ j d le lt.
              subst (λ (q : PointData). (get_or points j d).arrival < q.arrival) (get_or_default points n d p in' ∙ is) (falls n j d (omega (arith, le)) lt),
        ))
      ],
    ));
  } where
    last_one : (c : Connection) → IsAbove event points n c → IsBefore (leaving event p) c
    last_one c (inl lt) = inl lt
    last_one c (inr h) = inr (sym h.0, subst (λ (q : PointData). q.arrival < c.journey.arrival) is (h.1 n p (omega arith) in'))

-- A window has at least j seconds that are so exactly if at least j of its seconds pass a test of that.
use Rattle.std.proofs.Common.{◌≡◌, ℕ, zero, suc, ◌+◌, ◌-◌, ◌<◌, ◌≤◌, Bool, true, List, [], ◌∷◌, length, get_or, arith, sym, ap, subst, inl, inr, le_refl}
use Rattle.std.specs.List.{All, AllPairs}
use Rattle.std.proofs.lemmas.Bool.{cases_Bool, cases_lt}
use Rattle.std.proofs.lemmas.List.Elements.{All-cons}
use Rattle.std.proofs.lemmas.List.Kept.{AllPairs-cons, AllPairs-from_increasing}
use Rattle.reaching.specs.Steps.{tally}
use Rattle.reaching.specs.TravelTimes.{HasSeconds}
use Rattle.reaching.proofs.TallyFacts.{bit, tally-suc, tally-zero}

-- a second of the n from `low` on that passes
abbrev Passes : (ℕ → Bool) → ℕ → ℕ → ℕ → Type 0
Passes p low n d = (low ≤ d) × (d < low + n) × (p d ≡ true)

-- no list of them is longer
listed_most : (p : ℕ → Bool) (low n : ℕ) (list : List ℕ) → AllPairs (λ x y. x < y) list → All (Passes p low n) list
    → length list ≤ tally p low n
listed_most p low zero [] rising each = omega arith
listed_most p low zero (x ∷ xs) rising each =
    let h = each 0 x (omega arith) in let a = h.0 in let b = h.1 in absurd (let z : ⊥ = omega (arith, a, b) in z)
listed_most p low (suc n) [] rising each = omega arith
listed_most p low (suc n) (x ∷ xs) rising each = elim (cases_lt low x) [
  | inl lt ↦
      let rest = listed_most p (suc low) n (x ∷ xs) rising (λ k d in'.
      let h = each k d in' in
      let a : suc low ≤ get_or (x ∷ xs) k d = above lt k d in' in
      let b = h.1 in
      (a, (let z : get_or (x ∷ xs) k d < suc low + n = omega (arith, b) in z), h.2)) in
      omega (arith, tally-suc p low n, rest)
  | inr le ↦
      let rest = listed_most p (suc low) n xs tails (λ k d in'.
      let h = each (suc k) d (omega (arith, in')) in
      let a = rising 0 (suc k) d (omega arith) (omega (arith, in')) in
      let b = h.1 in
      let low_is = first.0 in (
        (let z : suc low ≤ get_or xs k d = omega (arith, a, low_is) in z),
        (let z : get_or xs k d < suc low + n = omega (arith, b) in z),
        h.2,
      )) in
      let low_is = first.0 in
      let same : x ≡ low = omega (arith, le, low_is) in
      let here : bit (p low) ≡ 1 = ap bit (subst (λ (y : ℕ). p y ≡ true) same first.2) in
      omega (arith, tally-suc p low n, rest, here)
] where
  first : Passes p low (suc n) x
  first = each 0 x (omega arith)

  tails : AllPairs (λ x y. x < y) xs
  tails = λ i j d ij jl. rising (suc i) (suc j) d (omega (arith, ij)) (omega (arith, jl))

  above : low < x → (k d : ℕ) → k < length (x ∷ xs) → suc low ≤ get_or (x ∷ xs) k d
  above lt zero d in' = lt
  above lt (suc k) d in' = (let a = rising 0 (suc k) d (omega arith) in' in let z : suc low ≤ get_or xs k d = omega (arith, a, lt) in z)

-- and a list of them is as long
abbrev Listed : (ℕ → Bool) → ℕ → ℕ → List ℕ → Type 0
Listed p low n list = AllPairs (λ x y. x < y) list × All (Passes p low n) list × (length list ≡ tally p low n)

listed_more : (p : ℕ → Bool) (low n : ℕ) → (rest : (list : List ℕ) × Listed p (suc low) n list)
    → (list : List ℕ) × Listed p low (suc n) list
listed_more p low n rest = elim (cases_Bool (p low)) [
  | inl pass ↦ (
    low ∷ list,
    (
      AllPairs-cons (λ x y. x < y) low list (λ k d lt. (let a = (rest.1.1 k d lt).0 in let z : low < get_or list k d = omega (arith, a) in
          z)) rest.1.0,
      All-cons (Passes p low (suc n)) low list (le_refl low, (omega arith), pass) wider,
      (let here : bit (p low) ≡ 1 = ap bit pass in let count = rest.1.2 in
          let z : length (low ∷ list) ≡ tally p low (suc n) = omega (arith, tally-suc p low n, here, count) in z),
    ),
  )
  | inr fail ↦ (
    list,
    (
      rest.1.0,
      wider,
      (let here : bit (p low) ≡ 0 = ap bit fail in let count = rest.1.2 in
          let z : length list ≡ tally p low (suc n) = omega (arith, tally-suc p low n, here, count) in z),
    ),
  )
] where
  list : List ℕ
  list = rest.0

  wider : All (Passes p low (suc n)) list
  wider = λ k d lt.
      let h = rest.1.1 k d lt in
      let a = h.0 in
      let b = h.1 in
      ((let z : low ≤ get_or list k d = omega (arith, a) in z), (let z : get_or list k d < low + suc n = omega (arith, b) in z), h.2)

listed : (p : ℕ → Bool) (low n : ℕ) → (list : List ℕ) × Listed p low n list
listed p low zero = ([], ((λ i j d ij jl. absurd (omega (arith, jl))), (λ k d lt. absurd (omega (arith, lt))), sym (tally-zero p low)))
listed p low (suc n) = listed_more p low n (listed p (suc low) n)

-- the test says at each second of the window whether it is so
pub record Tells (first last : ℕ) (Is : ℕ → Type 0) (p : ℕ → Bool) : Type 0 where
  pub yes : (d : ℕ) → first ≤ d → d ≤ last → p d ≡ true → Is d
  pub true : (d : ℕ) → first ≤ d → d ≤ last → Is d → p d ≡ true

module _ (first last : ℕ) (some : first ≤ last) (Is : ℕ → Type 0) (p : ℕ → Bool) (tells : Tells first last Is p) where
  pub seconds_from_tally : (j : ℕ) → j ≤ tally p first (last + 1 - first) → HasSeconds first last Is j
  seconds_from_tally j le =
      let made = listed p first (last + 1 - first) in
      let pairs = made.1.0 in
      let count = made.1.2 in (
        made.0,
        λ k lt. pairs k (k + 1) 0 (omega arith) lt,
        λ k d lt.
            let h = made.1.1 k d lt in
            let a = h.0 in
            let b = h.1 in
            let before : get_or made.0 k d ≤ last = omega (arith, b, some) in
            (a, before, tells.yes (get_or made.0 k d) a before h.2),
        omega (arith, le, count),
      )

  pub tally_from_seconds : (j : ℕ) → HasSeconds first last Is j → j ≤ tally p first (last + 1 - first)
  tally_from_seconds j has =
      let most = listed_most p first (last + 1 - first) has.0 (AllPairs-from_increasing has.0 has.1) (λ k d lt.
      let h = has.2 k d lt in
      let b = h.1 in (
        h.0,
        (let z : get_or has.0 k d < first + (last + 1 - first) = omega (arith, b, some) in z),
        tells.true (get_or has.0 k d) h.0 h.1
            h.2,
      )) in
      let le = has.3 in
      omega (arith, most, le)

-- How many numbers of a range pass a test.
use Rattle.std.proofs.Common.{◌≡◌, ℕ, zero, suc, ◌+◌, ◌-◌, ◌<◌, ◌≤◌, max, Bool, true, false, cond, leb, arith, refl, sym, ◌∙◌, ap, ap₂, inl, inr, le_refl, zero-add, add_assoc}
use Rattle.std.proofs.lemmas.Bool.{cases_lt, le-leb, lt-leb}
use Rattle.reaching.specs.Steps.{tally}

abbrev pub bit : Bool → ℕ
bit b = cond b 1 0

pub tally-suc : (p : ℕ → Bool) (low n : ℕ) → tally p low (suc n) ≡ bit (p low) + tally p (suc low) n
unfolding tally
tally-suc p low n = refl

pub tally-zero : (p : ℕ → Bool) (low : ℕ) → tally p low zero ≡ 0
unfolding tally
tally-zero p low = refl

-- tests that agree on the range
pub tally-same : (p q : ℕ → Bool) (low n : ℕ) → ((d : ℕ) → low ≤ d → d < low + n → p d ≡ q d) → tally p low n ≡ tally q low n
tally-same p q low zero same = tally-zero p low ∙ sym (tally-zero q low)
tally-same p q low (suc n) same =
    tally-suc p low n
    ∙ ap₂ (λ (b : Bool) (m : ℕ). bit b + m) (same low (le_refl low) (omega arith))
    (tally-same p q (suc low) n (λ d after before. same d (omega (arith, after)) (omega (arith, before))))
    ∙ sym (tally-suc q low n)

-- a range in two parts
pub tally-split : (p : ℕ → Bool) (low m n k mid : ℕ) → k ≡ m + n → mid ≡ low + m → tally p low k ≡ tally p low m + tally p mid n
tally-split p low zero n k mid whole middle =
    let e : k ≡ n = omega (arith, whole) in
    let f : low ≡ mid = omega (arith, middle) in
    ap₂ (λ (l c : ℕ). tally p l c) f e ∙ sym (zero-add (tally p mid n)) ∙ ap (λ (z : ℕ). z + tally p mid n) (sym (tally-zero p low))
tally-split p low (suc m) n k mid whole middle =
    let e : k ≡ suc (m + n) = omega (arith, whole) in
    let rest = tally-split p (suc low) m n (m + n) mid refl (omega (arith, middle)) in
    ap (λ (c : ℕ). tally p low c) e ∙ tally-suc p low (m + n) ∙ ap (λ (z : ℕ). bit (p low) + z) rest
    ∙ sym (add_assoc (bit (p low)) (tally p (suc low) m) (tally p mid n))
    ∙ ap (λ (z : ℕ). z + tally p mid n) (sym (tally-suc p low m))

bit_le : (a b : Bool) → (a ≡ true → b ≡ true) → bit a ≤ bit b
bit_le false b h = omega arith
bit_le true b h = rw (h refl) (le_refl 1)

bit_most : (a : Bool) → bit a ≤ 1
bit_most false = omega arith
bit_most true = omega arith

-- what passes the one test passes the other
pub tally-le : (p q : ℕ → Bool) (low n : ℕ) → ((d : ℕ) → low ≤ d → d < low + n → p d ≡ true → q d ≡ true) → tally p low n ≤ tally q low n
tally-le p q low zero weaker = omega (arith, tally-zero p low, tally-zero q low)
tally-le p q low (suc n) weaker =
    let here = bit_le (p low) (q low) (weaker low (le_refl low) (omega arith)) in
    let rest = tally-le p q (suc low) n (λ d after before. weaker d (omega (arith, after)) (omega (arith, before))) in
    omega (arith, tally-suc p low n, tally-suc q low n, here, rest)

pub tally_most : (p : ℕ → Bool) (low n : ℕ) → tally p low n ≤ n
tally_most p low zero = omega (arith, tally-zero p low)
tally_most p low (suc n) = omega (arith, tally-suc p low n, bit_most (p low), tally_most p (suc low) n)

-- all pass
pub tally-all : (p : ℕ → Bool) (low n : ℕ) → ((d : ℕ) → p d ≡ true) → tally p low n ≡ n
tally-all p low zero all = tally-zero p low
tally-all p low (suc n) all =
    let here : bit (p low) ≡ 1 = ap bit (all low) in
    omega (arith, tally-suc p low n, here, tally-all p (suc low) n all)

-- none passes
pub tally-none : (p : ℕ → Bool) (low n : ℕ) → ((d : ℕ) → p d ≡ false) → tally p low n ≡ 0
tally-none p low zero none = tally-zero p low
tally-none p low (suc n) none =
    let here : bit (p low) ≡ 0 = ap bit (none low) in
    omega (arith, tally-suc p low n, here, tally-none p (suc low) n none)

-- those pass from which on a number is at least a
pub tally-from : (a x low n : ℕ) → tally (λ d. leb a (d + x)) low n ≡ low + n - max low (a - x)
tally-from a x low zero = (let none = tally-zero (λ d. leb a (d + x)) low in omega (arith, none))
tally-from a x low (suc n) =
    let split = tally-suc (λ d. leb a (d + x)) low n in
    let rest = tally-from a x (suc low) n in
    elim (cases_lt (low + x) a) [
      | inl lt ↦ (let here : bit (leb a (low + x)) ≡ 0 = ap bit (lt-leb a (low + x) lt) in omega (arith, split, rest, here, lt))
      | inr le ↦ (let here : bit (leb a (low + x)) ≡ 1 = ap bit (le-leb a (low + x) le) in omega (arith, split, rest, here, le))
    ]

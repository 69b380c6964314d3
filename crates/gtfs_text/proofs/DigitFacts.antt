-- Digits.
use Rattle.std.proofs.Common.{◌≡◌, ℕ, ◌^◌, ◌<◌, ◌≤◌, true, false, List, [], ◌∷◌, length, get_or, take, drop, min, nat_le, ℤ, pos, ◌&&◌, Option, None, refl, arith}
use Rattle.std.specs.List.{list_all}
use Rattle.std.specs.Char.{is_ascii_digit}
use Rattle.std.proofs.Math.Nat.{pow-le-pow_right}
use Rattle.std.proofs.lemmas.List.{take_min, drop_all}
use Rattle.std.proofs.Math.Nat.{min_comm}
use Rattle.std.proofs.lemmas.Bool.{leb-true}
use Rattle.std.proofs.lemmas.Int.{ints}
use Rattle.jiff_core.specs.Calendar.{IsDate, days_in_month}
use Rattle.gtfs_text.proofs.TestFacts.{and_false}
use Rattle.gtfs_text.specs.Values.{is_day, is_digits, decimal, day_of}
use Rattle.std.proofs.lemmas.List.Folds.{list_all_at}

in_range : (c : ℕ) → is_ascii_digit c ≡ true → (48 ≤ c) × (c ≤ 57)
in_range c h = (grind (arith, h), grind (arith, h))

pub digit_at : (xs : List ℕ) (i : ℕ) → i < length xs → list_all is_ascii_digit xs ≡ true → (48 ≤ get_or xs i 0) × (get_or xs i 0 ≤ 57)
digit_at xs i h all = in_range (get_or xs i 0) (elim (is_ascii_digit (get_or xs i 0)) as (λ t. is_ascii_digit (get_or xs i 0) ≡ t → t ≡ true) [ true ↦ λ e. refl | false ↦ λ e. cc (list_all_at is_ascii_digit xs i 0 h e) ] refl)

-- a number of few digits is small
pub few_digits : (n i len : ℕ) → n < 10 ^ i → i < len → len ≤ 9 → n < 100000000
few_digits n i len h l m = let e : 10 ^ i ≤ 10 ^ 8 = pow-le-pow_right {n = 10} (omega arith) {i = i} {j = 8} (omega arith) in omega (arith, e)

pub take_some : (n : ℕ) (xs : List ℕ) → take (min (length xs) n) xs ≡ take n xs
take_some n xs = rw (min_comm (length xs) n) (take_min n xs)

pub drop_some : (n : ℕ) (xs : List ℕ) → drop (min (length xs) n) xs ≡ drop n xs
drop_some n xs =
    elim (nat_le (length xs) n) as (λ t. nat_le (length xs) n ≡ t → drop (min (length xs) n) xs ≡ drop n xs) [
      | true ↦ λ e. let h : length xs ≤ n = leb-true (length xs) n e in rw (drop_all (min (length xs) n) xs (omega arith), drop_all n xs h) refl
      | false ↦ λ e. let h : min (length xs) n ≡ n = grind (arith, e) in rw h refl
    ] refl

-- what isn't a date of the library is no day of the calendar
pub no_day : (a b e : ℤ) (y m d : ℕ) → a ≡ pos y → b ≡ pos m → e ≡ pos d → y < 10000 → (IsDate a b e → ⊥) → is_day y m d ≡ false
no_day a b e y m d ea eb ee few never =
    elim (is_day y m d) as (λ t. is_day y m d ≡ t → t ≡ false) [
      | false ↦ λ h. refl
      | true ↦ λ h.
          let parts : (1 ≤ m) × (m ≤ 12) × (1 ≤ d) × (d ≤ days_in_month (pos y) m) = (grind (arith, h), grind (arith, h), grind (arith, h), grind (arith, h)) in
          absurd (never (rw (ea, eb, ee) ((omega (arith, ints), omega (arith, ints)), (omega (arith, ints), omega (arith, ints)), (omega (arith, ints), omega (arith, ints)))))
    ] refl

pub drop_twice : (xs : List ℕ) → drop 2 (drop 4 xs) ≡ drop 6 xs
drop_twice [] = refl
drop_twice (a ∷ []) = refl
drop_twice (a ∷ b ∷ []) = refl
drop_twice (a ∷ b ∷ c ∷ []) = refl
drop_twice (a ∷ b ∷ c ∷ d ∷ xs) = refl

pub not_day : (year month day : List ℕ) → is_day (decimal year) (decimal month) (decimal day) ≡ false → ◌≡◌ {A = Option (ℤ × ℕ × ℕ)} None (day_of year month day)
not_day year month day h = rw (h, and_false (is_digits 4 4 year && is_digits 2 2 month && is_digits 2 2 day)) refl

-- Times of the form `HH:MM:SS`.
use Rattle.std.proofs.Common.{◌≡◌, ℕ, ◌+◌, ◌-◌, ◌*◌, ◌<◌, ◌≤◌, true, List, [], ◌∷◌, length, get_or, ap, ◌∙◌, refl, arith, Some, codes}
use Rattle.std.specs.Char.{is_ascii_digit}
use Rattle.std.proofs.lemmas.Bool.{le-leb}
use Rattle.gtfs_text.specs.Clock.{IsClock, IsDigit}
use Rattle.gtfs_text.specs.Values.{decimal, is_digits, is_sixtieth, time_of}

digit_is : (c : ℕ) → IsDigit c → is_ascii_digit c ≡ true
digit_is c digit = rw (le-leb 48 c digit.least, le-leb c 57 digit.most) refl

pub two_digits : (least most a b : ℕ) → least ≤ 2 → 2 ≤ most → IsDigit a → IsDigit b → is_digits least most (a ∷ b ∷ []) ≡ true
two_digits least most a b few many first second = rw (le-leb least 2 few, le-leb 2 most many, digit_is a first, digit_is b second) refl

sixtieth_is : (a b : ℕ) → IsDigit a → a ≤ 53 → IsDigit b → is_sixtieth (58 ∷ a ∷ b ∷ []) ≡ true
sixtieth_is a b first small second =
    let most : decimal (a ∷ b ∷ []) ≤ 59 = omega (arith, small, second.most) in
    rw (two_digits 2 2 a b (omega arith) (omega arith) first second, le-leb (decimal (a ∷ b ∷ [])) 59 most) refl

pub clock_time : (a b c d e f : ℕ) → IsDigit a → IsDigit b → IsDigit c → c ≤ 53 → IsDigit d → IsDigit e → e ≤ 53 → IsDigit f
    → time_of (a ∷ b ∷ 58 ∷ c ∷ d ∷ 58 ∷ e ∷ f ∷ []) ≡ Some (3600 * (10 * (a - 48) + (b - 48)) + 60 * (10 * (c - 48) + (d - 48)) + (10 * (e - 48) + (f - 48)))
clock_time a b c d e f ia ib ic small_c id ie small_e if_ =
    let hours = two_digits 1 3 a b (omega arith) (omega arith) ia ib in
    let few : decimal (a ∷ b ∷ []) ≤ 167 = omega (arith, ia.most, ib.most) in
    let minutes = sixtieth_is c d ic small_c id in
    let seconds = sixtieth_is e f ie small_e if_ in
    rw (hours, le-leb (decimal (a ∷ b ∷ [])) 167 few, minutes, seconds) (ap Some (omega arith))

digit_from : (text : List ℕ) (k : ℕ) → 48 ≤ get_or text k 0 → get_or text k 0 ≤ 57 → IsDigit (get_or text k 0)
digit_from text k least most = record { least = least; most = most }

-- the bytes that are digits
pub clock_digit : (text : List ℕ) (k : ℕ) → IsClock text → k < 8 → get_or (codes "00:00:00") k 0 ≡ 48 → get_or (codes "99:59:59") k 0 ≤ 57 → IsDigit (get_or text k 0)
clock_digit text k clock within least most = record { least = omega (arith, clock.least k within, least); most = omega (arith, clock.most k within, most) }

-- a text of eight bytes is its bytes
eight : (text : List ℕ) → length text ≡ 8
    → text ≡ get_or text 0 0 ∷ get_or text 1 0 ∷ get_or text 2 0 ∷ get_or text 3 0 ∷ get_or text 4 0 ∷ get_or text 5 0 ∷ get_or text 6 0 ∷ get_or text 7 0 ∷ []
eight [] long = absurd (omega (arith, long))
eight (a ∷ []) long = absurd (omega (arith, long))
eight (a ∷ b ∷ []) long = absurd (omega (arith, long))
eight (a ∷ b ∷ c ∷ []) long = absurd (omega (arith, long))
eight (a ∷ b ∷ c ∷ d ∷ []) long = absurd (omega (arith, long))
eight (a ∷ b ∷ c ∷ d ∷ e ∷ []) long = absurd (omega (arith, long))
eight (a ∷ b ∷ c ∷ d ∷ e ∷ f ∷ []) long = absurd (omega (arith, long))
eight (a ∷ b ∷ c ∷ d ∷ e ∷ f ∷ g ∷ []) long = absurd (omega (arith, long))
eight (a ∷ b ∷ c ∷ d ∷ e ∷ f ∷ g ∷ h ∷ []) long = refl
eight (a ∷ b ∷ c ∷ d ∷ e ∷ f ∷ g ∷ h ∷ i ∷ rest) long = absurd (omega (arith, long))

pub time_on_clock : (text : List ℕ) → length text ≡ 8 → IsClock text
    → time_of text ≡ Some (3600 * (10 * (get_or text 0 0 - 48) + (get_or text 1 0 - 48)) + 60 * (10 * (get_or text 3 0 - 48) + (get_or text 4 0 - 48))
    + (10 * (get_or text 6 0 - 48) + (get_or text 7 0 - 48)))
time_on_clock text long clock =
    let digit = λ (k : ℕ) (within : k < 8) (least : get_or (codes "00:00:00") k 0 ≡ 48) (most : get_or (codes "99:59:59") k 0 ≤ 57). clock_digit text k clock within least most in
    let colon : get_or text 2 0 ≡ 58 = omega (arith, clock.least 2 (omega arith), clock.most 2 (omega arith)) in
    let other : get_or text 5 0 ≡ 58 = omega (arith, clock.least 5 (omega arith), clock.most 5 (omega arith)) in
    ap time_of (rw (colon, other) at (eight text long))
    ∙ clock_time (get_or text 0 0) (get_or text 1 0) (get_or text 3 0) (get_or text 4 0) (get_or text 6 0) (get_or text 7 0)
    (digit 0 (omega arith) refl (omega arith)) (digit 1 (omega arith) refl (omega arith)) (digit 3 (omega arith) refl (omega arith)) (clock.most 3 (omega arith))
    (digit 4 (omega arith) refl (omega arith)) (digit 6 (omega arith) refl (omega arith)) (clock.most 6 (omega arith)) (digit 7 (omega arith) refl (omega arith))

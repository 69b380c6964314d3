-- A place that isn't open is as it was at the last sync.
use Rattle.std.proofs.Common.{◌≡◌, inl, inr, ℕ, ◌+◌, ◌<◌, List, [], ◌∷◌, get_or, refl, arith, false}
use Rattle.std.proofs.lemmas.Bool.{cases_lt}
use Rattle.std.proofs.lemmas.Bool.Decides.{nat_tests}
use Rattle.disk_model.specs.Image.{Image, IsOutcome, IsWritten}
use Rattle.disk_model.specs.Crash.{is_open, is_covered}

not_covered : (place : ℕ) (ranges : List (ℕ × ℕ)) → (IsWritten place ranges → ⊥) → is_covered place ranges ≡ false
not_covered place [] free = refl
not_covered place (range ∷ ranges) free =
    let rest = not_covered place ranges (λ w. free (inr w)) in
    elim (cases_lt place range.0) [
      | inl before ↦ grind (arith, nat_tests)
      | inr from ↦ elim (cases_lt place (range.0 + range.1)) [ inl inside ↦ absurd (free (inl (from, inside))) | inr past ↦ grind (arith, nat_tests) ]
    ]

not_written : (place : ℕ) (ranges : List (ℕ × ℕ)) → is_covered place ranges ≡ false → IsWritten place ranges → ⊥
not_written place [] shut w = elim w [ ]
not_written place (range ∷ ranges) shut (inl here) = grind (arith, nat_tests)
not_written place (range ∷ ranges) shut (inr there) =
    let rest : is_covered place ranges ≡ false = grind (arith, nat_tests) in not_written place ranges rest there

-- below the least length and in no range
pub closed : (image : Image) (place : ℕ) → place < image.least → (IsWritten place image.ranges → ⊥) → is_open image place ≡ false
closed image place lt free = let none = not_covered place image.ranges free in grind (arith, nat_tests)

pub closed_below : (image : Image) (place : ℕ) → is_open image place ≡ false → place < image.least
closed_below image place shut = grind (arith, nat_tests)

closed_free : (image : Image) (place : ℕ) → is_open image place ≡ false → IsWritten place image.ranges → ⊥
closed_free image place shut =
    let none : is_covered place image.ranges ≡ false = grind (arith, nat_tests) in not_written place image.ranges none

pub closed_kept : (image : Image) (bytes : List ℕ) (place : ℕ) → IsOutcome image bytes → is_open image place ≡ false → get_or bytes place 0 ≡ get_or image.synced place 0
closed_kept image bytes place outcome shut = outcome.kept place (closed_below image place shut) (closed_free image place shut)

-- Tests that are joined by `&&`.
use Rattle.std.proofs.Common.{◌≡◌, Bool, true, false, ◌&&◌, refl}

-- both pass
pub both : (a b : Bool) → (a && b) ≡ true → (a ≡ true) × (b ≡ true)
both true true h = (refl, refl)
both true false h = cc h
both false b h = cc h

-- the second fails
pub and_false : (b : Bool) → (b && false) ≡ false
and_false true = refl
and_false false = refl

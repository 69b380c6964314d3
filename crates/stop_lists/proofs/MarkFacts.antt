-- A byte order mark at the front.
use Rattle.std.proofs.Common.{◌≡◌, ℕ, true, false, List, [], ◌∷◌, drop, refl, nat_eq, arith}
use Rattle.std.specs.List.{starts_with}
use Rattle.csv.specs.Reading.{strip_bom}

abbrev pub mark : List ℕ
mark = 239 ∷ 187 ∷ 191 ∷ []

pub mark_gone : (xs : List ℕ) → starts_with nat_eq xs mark ≡ true → drop 3 xs ≡ strip_bom xs
unfolding strip_bom
mark_gone [] h = refl
mark_gone (a ∷ []) h = grind (arith, h)
mark_gone (a ∷ b ∷ []) h = grind (arith, h)
mark_gone (a ∷ b ∷ c ∷ rest) h = grind (arith, h)

pub no_mark : (xs : List ℕ) → starts_with nat_eq xs mark ≡ false → xs ≡ strip_bom xs
unfolding strip_bom
no_mark [] h = refl
no_mark (a ∷ []) h = refl
no_mark (a ∷ b ∷ []) h = refl
no_mark (a ∷ b ∷ c ∷ rest) h = grind (arith, h)

-- What the first 15 bytes of a file say of all of them.
use Rattle.std.proofs.Common.{◌≡◌, ℕ, min, List, length, take, drop, get_or, ◌∙◌, ap, arith, length-take}
use Rattle.std.proofs.lemmas.List.{drop-take, get_or-take, take-take}

module _ (read head : List ℕ) (is : head ≡ take 15 read) where
  pub head_long : length head ≡ min 15 (length read)
  head_long = ap length is ∙ length-take 15 read

  pub head_gate : get_or head 0 0 ≡ get_or read 0 0
  head_gate = ap (λ (l : List ℕ). get_or l 0 0) is ∙ get_or-take 15 read 0 0 (omega arith)

  pub head_name : take 7 (drop 1 head) ≡ take 7 (drop 1 read)
  head_name =
      ap (λ (l : List ℕ). take 7 (drop 1 l)) is
      ∙ ap (λ (l : List ℕ). take 7 l) (drop-take 1 14 read)
      ∙ take-take 7 14 (drop 1 read) (omega arith)

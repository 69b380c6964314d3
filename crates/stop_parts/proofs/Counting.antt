-- How many numbers pass a test, one number more.
use Rattle.std.proofs.Common.{◌≡◌, ℕ, ◌+◌, Bool, true, false, cond, [], ◌∷◌, ◌++◌, count_by, sym, ◌∙◌, ap, arith, add-zero}
use Rattle.std.specs.List.{range_with_len}
use Rattle.std.proofs.lemmas.List.{map-id}
use Rattle.std.proofs.lemmas.List.FromFn.{map-range_with_len_more}
use Rattle.std.proofs.lemmas.List.Sums.{sum_by-append}

counting_more : (n : ℕ) → range_with_len 0 (n + 1) ≡ range_with_len 0 n ++ n ∷ []
counting_more n =
    let at : 0 + n ≡ n = omega arith in
    sym (map-id (range_with_len 0 (n + 1))) ∙ map-range_with_len_more (λ (x : ℕ). x) 0 n n at
    ∙ ap (λ l. l ++ n ∷ []) (map-id (range_with_len 0 n))

-- 1 for what passes, and else 0
abbrev pub mark : Bool → ℕ
mark b = cond b 1 0

module _ (p : ℕ → Bool) (n : ℕ) where
  more : count_by p (range_with_len 0 (n + 1)) ≡ count_by p (range_with_len 0 n) + mark (p n)
  more =
      let all = ap (count_by p) (counting_more n) in
      let parts = sum_by-append (λ (x : ℕ). mark (p x)) (range_with_len 0 n) (n ∷ []) in
      omega (arith, all, parts)

  pub counted_yes : p n ≡ true → count_by p (range_with_len 0 (n + 1)) ≡ count_by p (range_with_len 0 n) + 1
  counted_yes is = more ∙ ap (λ (b : Bool). count_by p (range_with_len 0 n) + mark b) is

  pub counted_no : p n ≡ false → count_by p (range_with_len 0 (n + 1)) ≡ count_by p (range_with_len 0 n)
  counted_no is = more ∙ ap (λ (b : Bool). count_by p (range_with_len 0 n) + mark b) is ∙ add-zero (count_by p (range_with_len 0 n))

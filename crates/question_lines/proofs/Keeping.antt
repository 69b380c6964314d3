-- What is kept of a line.
use Rattle.std.proofs.Common.{◌≡◌, ◌<◌, ◌≤◌, ◌-◌, ◌+◌, ◌==◌, ℕ, List, [], ◌∷◌, ◌++◌, Bool, true, false, length, take, cond, min, ap, refl, ◌∙◌, sym, subst, arith, inl, inr, length-take-le, slice_index, append-nil, get_or, get_or-take, not, eqb-true}
use Rattle.std.proofs.lemmas.List.{take_all, take-append-le, take_more}
use Rattle.std.proofs.lemmas.List.Elements.{All-from_get_or}
use Rattle.std.proofs.lemmas.List.Sums.{fails_before_first, passes_at_first, prefix_len-le-length}
use Rattle.std.specs.List.{position_or_len}
use Rattle.std.proofs.Math.Seq.{take-append-add}
use Rattle.std.proofs.lemmas.Bool.{cases_lt}
use Rattle.std.specs.Str.Lines.{strip_carriage_return}
use Rattle.question_lines.specs.Lines.{IsKept}
use Rattle.question_lines.specs.Reading.{LacksFeed}

drop_one : (l : List ℕ) (b : Bool) → length l ≤ length (cond b (take (length l - 1) l) l) + 1
drop_one l true = let long = length-take-le (length l - 1) l (omega arith) in omega arith
drop_one l false = omega arith

-- at most a carriage return goes
strip_short : (l : List ℕ) → length l ≤ length (strip_carriage_return l) + 1
strip_short l = drop_one l (slice_index l (length l - 1) == 13)

-- of a line that ends at a line feed
pub kept_line : (raw : List ℕ) → IsKept (strip_carriage_return raw) (strip_carriage_return (take 65_538 raw))
kept_line raw =
    elim (cases_lt 65_538 (length raw)) [
      | inl long ↦ inr (
        (let short = strip_short raw in omega arith),
        (let short = strip_short (take 65_538 raw) in let kept = length-take-le 65_538 raw (omega arith) in omega arith),
      )
      | inr short ↦ inl (ap strip_carriage_return (take_all 65_538 raw short))
    ]

-- of the last line
pub kept_last : (raw : List ℕ) → IsKept raw (take 65_538 raw)
kept_last raw =
    elim (cases_lt 65_538 (length raw)) [
      | inl long ↦ inr (omega arith, (let kept = length-take-le 65_538 raw (omega arith) in omega arith))
      | inr short ↦ inl (take_all 65_538 raw short)
    ]

-- of no bytes
pub nothing_kept : (raw : List ℕ) → length (take 65_538 raw) ≡ 0 → raw ≡ []
nothing_kept [] none = refl
nothing_kept (b ∷ raw) none = absurd (omega (arith, none))

-- what is kept of more bytes of a line
pub kept_more : (before bytes : List ℕ) (kept : List ℕ) → kept ≡ take 65_538 before → take 65_538 (kept ++ bytes) ≡ take 65_538 (before ++ bytes)
kept_more before bytes kept is =
    elim (cases_lt 65_538 (length before)) [
      | inl long ↦
          let full : length (take 65_538 before) ≡ 65_538 = length-take-le 65_538 before (omega arith) in
          ap (λ l. take 65_538 (l ++ bytes)) is
          ∙ take-append-le 65_538 (take 65_538 before) bytes (omega arith)
          ∙ take_all 65_538 (take 65_538 before) (omega arith)
          ∙ sym (take-append-le 65_538 before bytes (omega arith))
      | inr short ↦ ap (λ l. take 65_538 (l ++ bytes)) (is ∙ take_all 65_538 before short)
    ]

-- as many bytes as there is room for
pub kept_room : (n : ℕ) (kept bytes : List ℕ) (room : ℕ) → length kept ≤ n → room ≡ min (n - length kept) (length bytes)
    → kept ++ take room bytes ≡ take n (kept ++ bytes)
kept_room n kept bytes room few is =
    let rest : length kept + (n - length kept) ≡ n = omega arith in
    ap (λ k. kept ++ take k bytes) is
    ∙ ap (λ l. kept ++ l) (take_least (n - length kept) bytes)
    ∙ sym (take-append-add kept bytes (n - length kept))
    ∙ ap (λ k. take k (kept ++ bytes)) rest
  where
    take_least : (k : ℕ) (l : List ℕ) → take (min k (length l)) l ≡ take k l
    take_least k l =
        elim (cases_lt k (length l)) [
          | inl less ↦ let is : min k (length l) ≡ k = omega arith in ap (λ m. take m l) is
          | inr more ↦ let is : min k (length l) ≡ length l = omega arith in ap (λ m. take m l) is ∙ take_all (length l) l (omega arith) ∙ sym (take_all k l more)
        ]

-- a line that is as long as is kept, without more
pub kept_same : (kept : List ℕ) → length kept ≤ 65_538 → kept ≡ take 65_538 (kept ++ [])
kept_same kept few = sym (ap (take 65_538) (append-nil kept) ∙ take_all 65_538 kept few)

-- what stands before the first line feed
pub before_feed : (bytes : List ℕ) (len : ℕ) → len ≡ position_or_len (λ b. b == 10) bytes → LacksFeed (take len bytes)
before_feed bytes len is =
    let P = λ (b : ℕ). (b == 10) ≡ false in
    let place = position_or_len (λ b. b == 10) bytes in
    let within : place ≤ length bytes = prefix_len-le-length (λ b. not (b == 10)) bytes in
    let long : length (take place bytes) ≡ place = length-take-le place bytes within in
    subst (λ n. LacksFeed (take n bytes)) (sym is)
    (All-from_get_or P (take place bytes) 0 (λ k less.
    let near : k < place = omega arith in
    subst P (sym (get_or-take place bytes k 0 near)) (fails_before_first (λ b. b == 10) bytes k 0 near)))

-- the same with the line feed
pub through_feed : (bytes : List ℕ) (len : ℕ) → len ≡ position_or_len (λ b. b == 10) bytes → len < length bytes → take (len + 1) bytes ≡ take len bytes ++ 10 ∷ []
through_feed bytes len is less =
    let place = position_or_len (λ b. b == 10) bytes in
    let feed : get_or bytes place 0 ≡ 10 = eqb-true (get_or bytes place 0) 10 (passes_at_first (λ b. b == 10) bytes 0 (omega arith)) in
    take_more bytes len 0 less ∙ ap (λ b. take len bytes ++ b ∷ []) (ap (λ n. get_or bytes n 0) is ∙ feed)

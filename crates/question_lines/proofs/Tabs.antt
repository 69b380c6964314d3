-- Texts that are cut at tabs.
use Rattle.std.proofs.Common.{◌≡◌, ◌<◌, ◌≤◌, ◌==◌, ℕ, false, List, [], ◌∷◌, Option, None, Some, MatchOption, option_to_list, length, ap, ◌∙◌, refl, sym, arith}
use Rattle.std.specs.List.{position_or_len, before_first, after_first}
use Rattle.std.proofs.lemmas.List.Elements.{All-from_get_or}
use Rattle.std.proofs.lemmas.List.Splits.{length-slice_split, slice_split_first, slice_split_none}
use Rattle.std.proofs.lemmas.List.Sums.{fails_before_first}
use denote.Ref.{Bor}
use Rattle.question_lines.specs.Questions.{LacksFields, cut_at_tabs}

-- what a split at the first tab gives
pub cut_parts : (text : List ℕ) (r : Option (Bor (List ℕ) × Bor (List ℕ)))
    → MatchOption r (position_or_len (λ b. b == 9) text ≡ length text)
    (λ x. (position_or_len (λ b. b == 9) text < length text) × (x.0.now ≡ before_first (λ b. b == 9) text) × (x.1.now ≡ after_first (λ b. b == 9) text))
    → MatchOption r (cut_at_tabs text ≡ text ∷ []) (λ x. cut_at_tabs text ≡ x.0.now ∷ cut_at_tabs x.1.now)
cut_parts text None none =
    slice_split_none (λ b. b == 9) text
    (All-from_get_or (λ b. (b == 9) ≡ false) text 0 (λ k within. fails_before_first (λ b. b == 9) text k 0 (omega (arith, none))))
cut_parts text (Some x) found =
    slice_split_first (λ b. b == 9) text 0 found.0
    ∙ ap (λ front. front ∷ cut_at_tabs (after_first (λ b. b == 9) text)) (sym found.1)
    ∙ ap (λ back. x.0.now ∷ cut_at_tabs back) (sym found.2)

-- a last time or none is at most one field
few : (l : Option (List ℕ)) → length (option_to_list l) ≤ 1
few None = omega arith
few (Some x) = omega arith

-- the fields of a line are those that it has
pub same_last : (from to day time f t d u : List ℕ) (last l : Option (List ℕ))
    → from ∷ to ∷ day ∷ time ∷ option_to_list last ≡ f ∷ t ∷ d ∷ u ∷ option_to_list l → (day ≡ d) × (last ≡ l)
same_last from to day time f t d u None None e = (cc, refl)
same_last from to day time f t d u None (Some y) e = absurd cc
same_last from to day time f t d u (Some x) None e = absurd cc
same_last from to day time f t d u (Some x) (Some y) e = (cc, cc)

-- the fields that come after the first three
module _ (text from rest to more day last : List ℕ) (first : cut_at_tabs text ≡ from ∷ cut_at_tabs rest)
    (second : cut_at_tabs rest ≡ to ∷ cut_at_tabs more) (third : cut_at_tabs more ≡ day ∷ cut_at_tabs last) where
  pub front : cut_at_tabs text ≡ from ∷ to ∷ day ∷ cut_at_tabs last
  front = first ∙ ap (λ l. from ∷ l) (second ∙ ap (λ l. to ∷ l) third)

  -- a line that is cut five times has more than five fields
  pub six : (time x y z : List ℕ) → cut_at_tabs last ≡ time ∷ cut_at_tabs x → cut_at_tabs x ≡ y ∷ cut_at_tabs z → LacksFields text
  six time x y z fourth fifth f t d u l fields =
      let all : cut_at_tabs text ≡ from ∷ to ∷ day ∷ time ∷ y ∷ cut_at_tabs z =
      front ∙ ap (λ l. from ∷ to ∷ day ∷ l) (fourth ∙ ap (λ l. time ∷ l) fifth) in
      let count : length (from ∷ to ∷ day ∷ time ∷ y ∷ cut_at_tabs z) ≡ length (f ∷ t ∷ d ∷ u ∷ option_to_list l) = ap length (sym all ∙ fields) in
      absurd (omega (arith, count, few l, length-slice_split (λ (b : ℕ). b == 9) z))

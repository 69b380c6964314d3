-- Lists that are filtered, and bytes that are read up to a limit.
use Rattle.std.proofs.Common.{◌≡◌, ◌∙◌, ℕ, ◌+◌, ◌≤◌, Bool, true, false, cond, List, [], ◌∷◌, ◌++◌, map, filter, length, take, Option, None, Some, IfSome, option_map, sym, arith, refl, ap, subst}
use Rattle.std.proofs.lemmas.List.{length-take, take_all}
use Rattle.std.specs.Str.{IsUtf8}
use Rattle.csv.specs.Reading.{strip_bom}
use Rattle.stop_lists.specs.Lists.{IsContent}
use Rattle.stop_lists.specs.declared.reading.TheConstants.{LONGEST}

-- what is read of the items that pass is what passes of what is read
pub filter_read : {A B : Type 0} (v : A → B) (p : B → Bool) (xs : List A) → map v (filter (λ x. p (v x)) xs) ≡ filter p (map v xs)
filter_read v p [] = refl
filter_read v p (x ∷ xs) =
    elim (p (v x)) as (λ t. map v (cond t (x ∷ filter (λ x. p (v x)) xs) (filter (λ x. p (v x)) xs)) ≡ cond t (v x ∷ filter p (map v xs)) (filter p (map v xs)))
    [ true ↦ ap (λ (l : List _). v x ∷ l) (filter_read v p xs) | false ↦ filter_read v p xs ]

-- if no more than the limit was read, it is everything
pub all_read : (inner remaining : Option (List ℕ)) (limit : ℕ) (before items : List ℕ) → inner ≡ remaining → limit ≡ LONGEST + 1 → before ≡ []
    → IfSome (option_map (take limit) inner) (λ xs. items ≡ before ++ xs) → length items ≤ LONGEST
    → IfSome remaining (λ bytes. (items ≡ bytes) × (length bytes ≤ LONGEST))
all_read inner None limit before items same most none read few = tt
all_read inner (Some bytes) limit before items same most none read few =
    let taken = subst (λ (o : Option (List ℕ)). IfSome (option_map (take limit) o) (λ xs. items ≡ before ++ xs)) same read in
    let is : items ≡ take (LONGEST + 1) bytes = taken ∙ ap (λ (l : List ℕ). l ++ take limit bytes) none ∙ ap (λ (n : ℕ). take n bytes) most in
    let long : length (take (LONGEST + 1) bytes) ≤ LONGEST = subst (λ (l : List ℕ). length l ≤ LONGEST) is few in
    let count = length-take (LONGEST + 1) bytes in
    let small : length bytes ≤ LONGEST = omega (arith, count, long) in
    (is ∙ take_all (LONGEST + 1) bytes (omega (arith, small)), small)

-- a text is a list, and what isn't one is reported so
pub is_list : (remaining : Option (List ℕ)) (items : List ℕ) → IfSome remaining (λ bytes. (items ≡ bytes) × (length bytes ≤ LONGEST))
    → IsUtf8 (strip_bom items) → IfSome remaining (λ bytes. IsContent bytes items)
is_list None items all text = tt
is_list (Some bytes) items all text =
    record { same = all.0; list = record { small = all.1; text = subst (λ (l : List ℕ). IsUtf8 (strip_bom l)) all.0 text } }

pub no_list : (remaining : Option (List ℕ)) (items : List ℕ) → IfSome remaining (λ bytes. (items ≡ bytes) × (length bytes ≤ LONGEST))
    → ¬ IsUtf8 (strip_bom items) → IfSome remaining (λ bytes. ¬ IsUtf8 (strip_bom bytes))
no_list None items all other = tt
no_list (Some bytes) items all other = λ text. other (subst (λ (l : List ℕ). IsUtf8 (strip_bom l)) (sym all.0) text)

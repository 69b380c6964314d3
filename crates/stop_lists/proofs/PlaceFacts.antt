-- The first line that is an id.
use Rattle.std.proofs.Common.{◌≡◌, ◌≢◌, ◌∙◌, ℕ, ◌+◌, ◌<◌, Bool, List, ◌∷◌, ◌++◌, Contains, filter, length, take, drop, suc, sym, ap, refl, arith, length-take-le, take-append-drop, get_or-take, drop-cons}
use Rattle.std.specs.List.{AllWithin, HoldsAt}
use Rattle.std.specs.Str.Lines.{lines}
use Rattle.std.proofs.lemmas.List.Elements.{All-contains, All-filter, All-from_all_within}
use Rattle.csv.specs.Reading.{strip_bom}
use Rattle.stop_lists.specs.Lists.{IsLineOf}

-- the line after k others, none of which is the id, is the first one
pub line_after : (bytes id : List ℕ) (all : List (List ℕ)) (k : ℕ) → all ≡ lines (strip_bom bytes) → k < length all
    → HoldsAt (λ line. line ≡ id) all k → AllWithin (λ line. line ≢ id) all 0 k → IsLineOf bytes id (k + 1)
line_after bytes id all k same below here before =
    let many : length (take k all) ≡ k = length-take-le k all (omega arith) in
    let next : drop k all ≡ id ∷ drop (suc k) all = drop-cons all k id below ∙ ap (λ (line : List ℕ). line ∷ drop (suc k) all) (here id) in
    let parts : all ≡ take k all ++ id ∷ drop (suc k) all =
    sym (take-append-drop k all) ∙ ap (λ (rest : List (List ℕ)). take k all ++ rest) next in
    record {
      before = take k all;
      after = drop (suc k) all;
      among = sym same ∙ parts;
      earlier = λ (at : Contains (take k all) id).
          let early : at.0 < k = omega (arith, at.1, many) in
          before at.0 id (omega arith) early (sym (get_or-take k all at.0 id early) ∙ at.2);
      number = omega (arith, many);
    }

-- if no line is the id, it isn't among those that are kept
pub no_line : (id : List ℕ) (all : List (List ℕ)) (keeps : List ℕ → Bool) → AllWithin (λ line. line ≢ id) all 0 (length all)
    → ¬ Contains (filter keeps all) id
no_line id all keeps other = λ at.
    All-contains (λ line. line ≢ id) (filter keeps all) id (All-filter keeps (λ line. line ≢ id) all (All-from_all_within (λ line. line ≢ id) all other)) at refl

-- Packed records as pieces of one text.
use Rattle.std.proofs.Common.{◌≡◌, ℕ, zero, suc, ◌+◌, ◌-◌, ◌<◌, ◌≤◌, List, [], ◌∷◌, ◌++◌, length, get_or, take, drop, refl, sym, ◌∙◌, ap, arith, length-append}
use Rattle.std.proofs.lemmas.List.{drop_at, drop-append-le, length-drop, take-append-le, take_all}
use Rattle.gtfs_text.specs.Packed.{pieces, AreEnds}

-- the last end is where the text ends, so none is past it
pub ends_within : (start size : ℕ) (ends : List ℕ) → AreEnds start ends size → start ≤ size
unfolding AreEnds
ends_within start size [] is = omega (arith, is)
ends_within start size (end ∷ ends) is = (let rest = ends_within end size ends is.1 in let low = is.0 in omega (arith, rest, low))

-- a piece of a text is one of the same text with more after it
piece_in : (start n : ℕ) (text more : List ℕ) → start + n ≤ length text → take n (drop start (text ++ more)) ≡ take n (drop start text)
piece_in start n text more h =
    ap (take n) (drop-append-le start text more (omega arith)) ∙ take-append-le n (drop start text) more (omega (arith, length-drop start text))

-- one more record
pub pieces_more : (start : ℕ) (text added ends : List ℕ) → AreEnds start ends (length text)
    → pieces start (text ++ added) (ends ++ (length text + length added) ∷ []) ≡ pieces start text ends ++ added ∷ []
unfolding pieces AreEnds
pieces_more start text added [] is =
    let size : (length text + length added) - start ≡ length added = omega (arith, is) in
    ap (λ xs. xs ∷ []) (ap (λ n. take n (drop start (text ++ added))) size
    ∙ (ap (take (length added)) (drop_at text added start (sym is)) ∙ take_all (length added) added (omega arith)))
pieces_more start text added (end ∷ ends) is =
    let within = ends_within end (length text) ends is.1 in
    let low = is.0 in
    ap (λ x. x ∷ pieces end (text ++ added) (ends ++ (length text + length added) ∷ []))
    (piece_in start (end - start) text added (omega (arith, within, low)))
    ∙ ap (λ xs. take (end - start) (drop start text) ∷ xs) (pieces_more end text added ends is.1)

pub ends_more : (start : ℕ) (text added ends : List ℕ) → AreEnds start ends (length text)
    → AreEnds start (ends ++ (length text + length added) ∷ []) (length (text ++ added))
unfolding AreEnds
ends_more start text added [] is = (omega (arith, is), sym (length-append text added))
ends_more start text added (end ∷ ends) is = (is.0, ends_more end text added ends is.1)

-- as many pieces as ends
pub pieces_count : (start : ℕ) (text ends : List ℕ) → length (pieces start text ends) ≡ length ends
unfolding pieces
pieces_count start text [] = refl
pieces_count start text (end ∷ ends) = ap suc (pieces_count end text ends)

-- where a piece begins
pub begin_at : ℕ → List ℕ → ℕ → ℕ
begin_at start ends zero = start
begin_at start [] (suc k) = start
begin_at start (end ∷ ends) (suc k) = begin_at end ends k

-- the first begins at the place, and each other one at the end before it
pub begins_first : (start : ℕ) (ends : List ℕ) → begin_at start ends 0 ≡ start
unfolding begin_at
begins_first start [] = refl
begins_first start (end ∷ ends) = refl

pub begins_after : (start : ℕ) (ends : List ℕ) (k d : ℕ) → suc k < length ends → begin_at start ends (suc k) ≡ get_or ends k d
unfolding begin_at
begins_after start [] k d h = absurd (omega arith)
begins_after start (end ∷ ends) zero d h = begins_first end ends
begins_after start (end ∷ ends) (suc k) d h = begins_after end ends k d (omega arith)

pub piece_at : (start : ℕ) (text ends : List ℕ) (k d : ℕ) → k < length ends
    → get_or (pieces start text ends) k [] ≡ take (get_or ends k d - begin_at start ends k) (drop (begin_at start ends k) text)
unfolding pieces begin_at
piece_at start text [] k d h = absurd (omega arith)
piece_at start text (end ∷ ends) zero d h = refl
piece_at start text (end ∷ ends) (suc k) d h = piece_at end text ends k d (omega arith)

-- a piece ends no earlier than it begins, and within the text
pub ends_at : (start size : ℕ) (ends : List ℕ) (k d : ℕ) → AreEnds start ends size → k < length ends
    → (begin_at start ends k ≤ get_or ends k d) × (get_or ends k d ≤ size)
unfolding AreEnds begin_at
ends_at start size [] k d is h = absurd (omega arith)
ends_at start size (end ∷ ends) zero d is h = (is.0, ends_within end size ends is.1)
ends_at start size (end ∷ ends) (suc k) d is h = ends_at end size ends k d is.1 (omega arith)

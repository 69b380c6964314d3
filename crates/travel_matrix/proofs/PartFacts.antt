-- Rows of parts, one part after the other.
use Rattle.std.proofs.Common.{◌≡◌, ◌∙◌, ℕ, zero, suc, ◌+◌, ◌*◌, ◌/◌, ◌%◌, ◌<◌, ◌≤◌, ◌++◌, min, List, [], ◌∷◌, length, take, drop, slice_index_or, Result, Ok, Err, IfOk, append_assoc, arith, add-one, refl, sym, ap, subst}
use Rattle.std.proofs.Math.Nat.{zero-mul, suc-mul, mod-lt}
use Rattle.std.specs.Global.{Vec}
use Rattle.std.specs.List.{AllZip}
use Rattle.std.proofs.lemmas.List.{append-nil, take-append-drop, drop-drop, length-drop}
use Rattle.std.proofs.lemmas.Nat.{div-add-mod'}
use Rattle.travel_matrix.specs.Parts.{AreJoined}

pub zip_append : {A X : Type 0} (R : A → X → Type 0) (xs us : List A) (ys vs : List X) → AllZip R xs ys → AllZip R us vs
    → AllZip R (xs ++ us) (ys ++ vs)
zip_append R [] us [] vs h k = k
zip_append R [] us (y ∷ ys) vs h k = absurd h
zip_append R (x ∷ xs) us [] vs h k = absurd h
zip_append R (x ∷ xs) us (y ∷ ys) vs h k = (h.0, zip_append R xs us ys vs h.1 k)

chunk_after : {A : Type 0} (n size : ℕ) (xs : List A) → drop (suc n * size) xs ≡ drop (n * size) (drop size xs)
chunk_after {A} n size xs =
    let e : suc n * size ≡ size + n * size = (let m = suc-mul n size in omega (arith, m)) in
    ap (λ (i : ℕ). drop i xs) e ∙ sym (drop-drop (n * size) size xs)

-- the rows of chunks, one chunk after the other, are the rows of the whole
pub of_chunks : {A X E : Type 0} (R : A → X → Type 0) (size : ℕ) (xs : List A) (parts : List (Result (Vec X) E)) (rows : List X)
    → length xs ≤ length parts * size
    → ((n : ℕ) (d : Result (Vec X) E) → n < length parts
    → IfOk (slice_index_or parts n d) (λ part. AllZip R (take size (drop (n * size) xs)) part.items))
    → AreJoined parts rows → AllZip R xs rows
of_chunks R size [] [] rows long each joined = subst (AllZip R []) (sym joined) tt
of_chunks R size (x ∷ xs) [] rows long each joined = absurd (let none = zero-mul size in let no : ⊥ = omega (arith, long, none) in no)
of_chunks R size xs (Err e ∷ parts) rows long each joined = absurd joined
of_chunks {A} {X} {E} R size xs (Ok part ∷ parts) rows long each joined =
    let first : AllZip R (take size xs) part.items =
    subst (λ (n : ℕ). AllZip R (take size (drop n xs)) part.items) (zero-mul size) (each zero (Ok part) (omega arith)) in
    let shorter : length (drop size xs) ≤ length parts * size =
    (let less = length-drop size xs in let one = suc-mul (length parts) size in omega (arith, less, one, long)) in
    let later : AllZip R (drop size xs) joined.0 =
    of_chunks R size (drop size xs) parts joined.0 shorter (λ n d below.
    subst (λ (chunk : List A). IfOk (slice_index_or parts n d) (λ part. AllZip R (take size chunk) part.items)) (chunk_after n size xs)
    (each (suc n) d (omega (arith, below)))) joined.2 in
    subst (AllZip R xs) (sym joined.1)
    (subst (λ (l : List A). AllZip R l (part.items ++ joined.0)) (take-append-drop size xs)
    (zip_append R (take size xs) (drop size xs) part.items joined.0 first later))

within : (q size r : ℕ) → r < size → q * size + r ≤ (q + min 1 r) * size
within q size zero lt =
    let same : q + 0 ≡ q = omega arith in
    subst (λ (n : ℕ). q * size + 0 ≤ n * size) (sym same) (let z : q * size + 0 ≤ q * size = omega arith in z)
within q size (suc r) lt =
    let same : q + min 1 (suc r) ≡ q + 1 = omega arith in
    let e : (q + 1) * size ≡ q * size + size = ap (λ (n : ℕ). n * size) (add-one q) ∙ suc-mul q size in
    subst (λ (n : ℕ). q * size + suc r ≤ n * size) (sym same) (omega (arith, e, lt))

-- that many chunks have all of them
pub enough : (count size chunks : ℕ) → 0 < size → chunks ≡ count / size + min 1 (count % size) → count ≤ chunks * size
enough count size chunks some is =
    let whole = div-add-mod' count size in
    let most = within (count / size) size (count % size) (mod-lt count some) in
    subst (λ (n : ℕ). count ≤ n * size) (sym is)
    (subst (λ (n : ℕ). n ≤ (count / size + min 1 (count % size)) * size) whole most)

-- the rows of one part more
pub joined_more : {X E : Type 0} (init now next : List (Result (Vec X) E)) (item : Result (Vec X) E) (part : Vec X) (rows new : List X)
    → now ≡ item ∷ next → item ≡ Ok part → new ≡ rows ++ part.items → ((rest : List X) → AreJoined now rest → AreJoined init (rows ++ rest))
    → (rest : List X) → AreJoined next rest → AreJoined init (new ++ rest)
joined_more {X} {E} init now next item part rows new steps was is before rest h =
    let more : AreJoined now (part.items ++ rest) =
    subst (λ (l : List (Result (Vec X) E)). AreJoined l (part.items ++ rest))
    (sym (steps ∙ ap (λ (p : Result (Vec X) E). p ∷ next) was)) (rest, refl, h) in
    subst (λ (l : List X). AreJoined init (l ++ rest)) (sym is)
    (subst (AreJoined init) (sym (append_assoc rows part.items rest)) (before (part.items ++ rest) more))

-- the rows of all parts
pub joined_all : {X E : Type 0} (parts init now : List (Result (Vec X) E)) (rows : List X) → init ≡ parts → now ≡ []
    → ((rest : List X) → AreJoined now rest → AreJoined init (rows ++ rest)) → AreJoined parts rows
joined_all {X} {E} parts init now rows same none before =
    let last : AreJoined now [] = subst (λ (l : List (Result (Vec X) E)). AreJoined l []) (sym none) refl in
    subst (λ (l : List (Result (Vec X) E)). AreJoined l rows) same (subst (AreJoined init) (append-nil rows) (before [] last))

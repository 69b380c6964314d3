-- The first index of an id among others.
use Rattle.std.proofs.Common.{◌≡◌, ◌∙◌, sym, ap, refl, ℕ, ◌+◌, ◌<◌, ◌≤◌, arith, Bool, true, false, List, [], ◌∷◌, ◌++◌, length, take, get_or, Option, None, Some, cond, rules}
use Rattle.std.specs.Prelude.{is_some, IfSome}
use Rattle.std.specs.List.{position_from}
use Rattle.std.specs.Str.{bytes_eq}
use Rattle.std.proofs.lemmas.List.{take_more, length-take}
use Rattle.std.proofs.lemmas.Option.{none-some}
use Rattle.std.proofs.lemmas.Slice.Eq.{bytes_eq-Decides}
use Rattle.std.specs.Cmp.Lexicographic.{nat_list_eq_equiv}

-- what one more after others adds to what was found
abbrev pub found_or : Option ℕ → Bool → ℕ → Option ℕ
found_or (Some n) here index = Some n
found_or None here index = cond here (Some index) None

push_step : (b here : Bool) (i index : ℕ) (rest found : Option ℕ) → rest ≡ found_or found here index → cond b (Some i) rest ≡ found_or (cond b (Some i) found) here index
push_step true here i index rest found e = refl
push_step false here i index rest found e = e

pub position_from-push : {X : Type 0} (p : X → Bool) (i : ℕ) (xs : List X) (x : X) → position_from p i (xs ++ x ∷ []) ≡ found_or (position_from p i xs) (p x) (i + length xs)
position_from-push p i [] x = let e : i ≡ i + 0 = omega arith in ap (λ (n : ℕ). cond (p x) (Some n) None) e
position_from-push p i (y ∷ ys) x =
    let e : i + 1 + length ys ≡ i + length (y ∷ ys) = omega arith in
    push_step (p y) (p x) i (i + length (y ∷ ys)) (position_from p (i + 1) (ys ++ x ∷ [])) (position_from p (i + 1) ys)
    (position_from-push p (i + 1) ys x ∙ ap (found_or (position_from p (i + 1) ys) (p x)) e)

weaker : (o : Option ℕ) (a b : ℕ) → a ≤ b → IfSome o (λ n. n < a) → IfSome o (λ n. n < b)
weaker None a b e h = tt
weaker (Some n) a b e h = omega (arith, e, h)

below_step : (b : Bool) (i bound : ℕ) (o : Option ℕ) → i < bound → IfSome o (λ n. n < bound) → IfSome (cond b (Some i) o) (λ n. n < bound)
below_step true i bound o e h = e
below_step false i bound o e h = h

-- an index that is found is below how many there are
pub position_from_below : {X : Type 0} (p : X → Bool) (i : ℕ) (xs : List X) → IfSome (position_from p i xs) (λ n. n < i + length xs)
position_from_below p i [] = tt
position_from_below p i (y ∷ ys) =
    below_step (p y) i (i + length (y ∷ ys)) (position_from p (i + 1) ys) (omega arith)
    (weaker (position_from p (i + 1) ys) (i + 1 + length ys) (i + length (y ∷ ys)) (omega arith) (position_from_below p (i + 1) ys))

-- a number for a new id, and none for one that is there
pub number_joins : (o : Option ℕ) (b c : Bool) (n : ℕ) → b ≡ c → (b ≡ true → o ≡ None) → cond b (Some n) o ≡ found_or o c n
number_joins None true c n e h = rw (← e) refl
number_joins None false c n e h = rw (← e) refl
number_joins (Some k) true c n e h = absurd (none-some k (sym (h refl)))
number_joins (Some k) false c n e h = refl

pub number_stays : (o : Option ℕ) (c : Bool) (n : ℕ) → (c ≡ true → is_some o ≡ true) → o ≡ found_or o c n
number_stays None true n h = absurd (let e : false ≡ true = h refl in cc e)
number_stays None false n h = refl
number_stays (Some k) c n h = refl

pub none_of : (o : Option ℕ) → is_some o ≡ false → o ≡ None
none_of None e = refl
none_of (Some n) e = absurd (cc e)

-- the same bytes
pub same_bytes : (q t : List ℕ) → bytes_eq q t ≡ true → q ≡ t
same_bytes q t h = search (rules, bytes_eq-Decides q t, h)

pub bytes_eq-flip : (q t : List ℕ) → bytes_eq q t ≡ bytes_eq t q
bytes_eq-flip q t = nat_list_eq_equiv.symm q t

-- the first index of an id among one text more
pub position_more : (ids : List (List ℕ)) (n : ℕ) (text id : List ℕ) → n < length ids → text ≡ get_or ids n []
    → position_from (bytes_eq id) 0 (take (n + 1) ids) ≡ found_or (position_from (bytes_eq id) 0 (take n ids)) (bytes_eq id text) n
position_more ids n text id below is =
    let more : take (n + 1) ids ≡ take n ids ++ text ∷ [] = take_more ids n [] below ∙ ap (λ (t : List ℕ). take n ids ++ t ∷ []) (sym is) in
    let size : 0 + length (take n ids) ≡ n = omega (arith, length-take n ids, below) in
    ap (position_from (bytes_eq id) 0) more ∙ position_from-push (bytes_eq id) 0 (take n ids) text ∙ ap (found_or (position_from (bytes_eq id) 0 (take n ids)) (bytes_eq id text)) size

-- Spaces at the front and at the end of a field.
use Rattle.std.proofs.Common.{◌≡◌, ◌≢◌, ℕ, suc, ◌+◌, ◌-◌, ◌<◌, ◌≤◌, false, List, [], ◌∷◌, ◌++◌, length, take, drop, get_or, refl, arith, sym, ◌∙◌, ap, nat_eq, drop-cons, add-one}
use Rattle.std.proofs.Math.Seq.{take-suc}
use Rattle.std.proofs.lemmas.List.{drop_all, take_all}
use Rattle.gtfs_text.proofs.TestFacts.{and_false}
use Rattle.gtfs_text.specs.Sheets.{without_front_spaces, without_end_spaces, without_spaces}

front_cons : (c : ℕ) (xs : List ℕ) → c ≡ 32 → without_front_spaces (c ∷ xs) ≡ without_front_spaces xs
unfolding without_front_spaces
front_cons c xs e = rw e refl

pub front_step : (s : List ℕ) (i : ℕ) → i < length s → get_or s i 0 ≡ 32 → without_front_spaces (drop (i + 1) s) ≡ without_front_spaces (drop i s)
front_step s i h e = rw (add-one, drop-cons s i 0 h) (sym (front_cons (get_or s i 0) (drop (suc i) s) e))

pub front_other : (c : ℕ) (xs : List ℕ) → nat_eq c 32 ≡ false → without_front_spaces (c ∷ xs) ≡ c ∷ xs
unfolding without_front_spaces
front_other c xs e = rw e refl

pub front_stop : (s : List ℕ) (i : ℕ) → i < length s → nat_eq (get_or s i 0) 32 ≡ false → drop i s ≡ without_front_spaces (drop i s)
front_stop s i h e = rw (drop-cons s i 0 h) (sym (front_other (get_or s i 0) (drop (suc i) s) e))

pub front_none : without_front_spaces [] ≡ []
unfolding without_front_spaces
front_none = refl

-- a text that begins with another byte keeps it
pub end_keeps : (c : ℕ) (xs : List ℕ) → nat_eq c 32 ≡ false → nat_eq (length (without_end_spaces (c ∷ xs))) 0 ≡ false
unfolding without_end_spaces
end_keeps c xs e = rw e (grind arith)

-- a space at the end goes
pub end_space : (xs : List ℕ) → without_end_spaces (xs ++ 32 ∷ []) ≡ without_end_spaces xs
unfolding without_end_spaces
end_space [] = refl
end_space (x ∷ xs) = rw (end_space xs) refl

length_end : (xs : List ℕ) (c : ℕ) → nat_eq c 32 ≡ false → nat_eq (length (xs ++ c ∷ [])) 0 ≡ false
length_end [] c e = refl
length_end (x ∷ xs) c e = grind arith

-- and nothing else does
pub end_other : (xs : List ℕ) (c : ℕ) → nat_eq c 32 ≡ false → without_end_spaces (xs ++ c ∷ []) ≡ xs ++ c ∷ []
unfolding without_end_spaces
end_other [] c e = rw e refl
end_other (x ∷ xs) c e = rw (end_other xs c e, length_end xs c e, and_false (nat_eq x 32)) refl

pub end_none : without_end_spaces [] ≡ []
unfolding without_end_spaces
end_none = refl

other : (c : ℕ) → c ≢ 32 → nat_eq c 32 ≡ false
other c ne = grind (arith, ne)

-- past one more space at the front
pub more_front : (s : List ℕ) (i : ℕ) → i < length s → get_or s i 0 ≡ 32 → without_front_spaces (drop i s) ≡ without_front_spaces s → without_front_spaces (drop (i + 1) s) ≡ without_front_spaces s
more_front s i h e same = front_step s i h e ∙ same

-- the front ends at another byte, or at the end
pub front_at : (s : List ℕ) (i : ℕ) → i < length s → get_or s i 0 ≢ 32 → without_front_spaces (drop i s) ≡ without_front_spaces s → drop i s ≡ without_front_spaces s
front_at s i h ne same = front_stop s i h (other (get_or s i 0) ne) ∙ same

pub front_at_end : (s : List ℕ) (i : ℕ) → length s ≤ i → without_front_spaces (drop i s) ≡ without_front_spaces s → drop i s ≡ without_front_spaces s
front_at_end s i h same = let e : drop i s ≡ [] = drop_all i s h in rw e (sym front_none ∙ ap without_front_spaces (sym e) ∙ same)

pub more_end : (s : List ℕ) (i : ℕ) → 0 < i → i ≤ length s → get_or s (i - 1) 0 ≡ 32 → without_end_spaces (take i s) ≡ without_end_spaces s → without_end_spaces (take (i - 1) s) ≡ without_end_spaces s
more_end s i p h e same =
    let at : take i s ≡ take (i - 1) s ++ get_or s (i - 1) 0 ∷ [] = (let k : suc (i - 1) ≡ i = omega arith in rw k at (take-suc s (i - 1) 0 (omega arith))) in
    sym (end_space (take (i - 1) s)) ∙ ap (λ (c : ℕ). without_end_spaces (take (i - 1) s ++ c ∷ [])) (sym e) ∙ ap without_end_spaces (sym at) ∙ same

pub end_at : (s : List ℕ) (i : ℕ) → 0 < i → i ≤ length s → get_or s (i - 1) 0 ≢ 32 → without_end_spaces (take i s) ≡ without_end_spaces s → take i s ≡ without_end_spaces s
end_at s i p h ne same =
    let at : take i s ≡ take (i - 1) s ++ get_or s (i - 1) 0 ∷ [] = (let k : suc (i - 1) ≡ i = omega arith in rw k at (take-suc s (i - 1) 0 (omega arith))) in
    at ∙ sym (end_other (take (i - 1) s) (get_or s (i - 1) 0) (other _ ne)) ∙ ap without_end_spaces (sym at) ∙ same

pub end_at_start : (s : List ℕ) (i : ℕ) → i ≤ 0 → without_end_spaces (take i s) ≡ without_end_spaces s → take i s ≡ without_end_spaces s
end_at_start s i h same = let z : i ≡ 0 = omega arith in rw z (sym end_none ∙ rw z at same)

-- a text that neither begins nor ends with a space keeps all of it
pub bare : (s : List ℕ) → 0 < length s → get_or s 0 0 ≢ 32 → get_or s (length s - 1) 0 ≢ 32 → without_spaces s ≡ s
bare s some first last =
    let front : s ≡ without_front_spaces s = front_at s 0 some first refl in
    let whole : take (length s) s ≡ s = take_all (length s) s (omega arith) in
    let end : take (length s) s ≡ without_end_spaces s = end_at s (length s) some (omega arith) last (ap without_end_spaces whole) in
    ap without_end_spaces (sym front) ∙ sym end ∙ whole

pub bare_none : without_spaces [] ≡ []
bare_none = ap without_end_spaces front_none ∙ end_none

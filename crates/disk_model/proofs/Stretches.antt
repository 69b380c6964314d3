-- Reads one after the other.
use Rattle.std.proofs.Common.{◌≡◌, inl, inr, ℕ, zero, suc, ◌+◌, ◌<◌, ◌≤◌, List, [], ◌∷◌, ◌++◌, length, take, drop, refl, sym, ◌∙◌, ap, arith, length-take, length-drop, length-append}
use Rattle.std.proofs.lemmas.Bool.{cases_lt, false≢true}
use Rattle.std.specs.Prelude.{Bool, true, false, if◌then◌else◌}
use Rattle.std.proofs.lemmas.List.{take_all, drop-drop, take-append-le}
use Rattle.disk_model.specs.Disk.{Gives}

take_add : (m n : ℕ) (xs : List ℕ) → take (m + n) xs ≡ take m xs ++ take n (drop m xs)
take_add zero n xs = ap (λ (k : ℕ). take k xs) (let e : zero + n ≡ n = omega arith in e)
take_add (suc m) zero [] = let e : suc m + zero ≡ suc m = omega arith in ap (λ (k : ℕ). take k []) e
take_add (suc m) (suc n) [] = let e : suc m + suc n ≡ suc (m + suc n) = omega arith in ap (λ (k : ℕ). take k []) e
take_add (suc m) n (x ∷ xs) = let e : suc m + n ≡ suc (m + n) = omega arith in ap (λ (k : ℕ). take k (x ∷ xs)) e ∙ ap (λ (l : List ℕ). x ∷ l) (take_add m n xs)

-- what was read so far is the front of what is there
pub record IsRead (read : List ℕ) (pos : ℕ) (bytes : List ℕ) : Type 0 where
  pub front : bytes ≡ take (length bytes) (drop pos read)

pub none_read : (read : List ℕ) (pos : ℕ) → IsRead read pos []
none_read read pos = record { front = refl }

pub more_read : (read : List ℕ) (pos : ℕ) (bytes old new : List ℕ) (n : ℕ) → IsRead read pos bytes → Gives read (pos + length bytes) old new n → IsRead read pos (bytes ++ take n new)
more_read read pos bytes old new n was gives =
    let next : take n new ≡ take n (drop (length bytes) (drop pos read)) = gives.bytes ∙ ap (λ (l : List ℕ). take n l) (sym (drop-drop (length bytes) pos read)) in
    let long : length (take n new) ≡ n = omega (arith, ap length gives.bytes, length-take n (drop (pos + length bytes) read), gives.there) in
    record {
      front = ap (λ (l : List ℕ). l ++ take n new) was.front
          ∙ ap (λ (l : List ℕ). take (length bytes) (drop pos read) ++ l) next
          ∙ sym (take_add (length bytes) n (drop pos read))
          ∙ ap (λ (k : ℕ). take k (drop pos read)) (omega (arith, length-append bytes (take n new), long));
    }

-- all that was asked for
pub all_read : (read : List ℕ) (pos : ℕ) (bytes : List ℕ) (count : ℕ) → IsRead read pos bytes → length bytes ≡ count → bytes ≡ take count (drop pos read)
all_read read pos bytes count was long = was.front ∙ ap (λ (k : ℕ). take k (drop pos read)) long

-- all that there is
pub end_read : (read : List ℕ) (pos : ℕ) (bytes old new : List ℕ) (count : ℕ) → IsRead read pos bytes → length bytes ≤ count → 0 < length old → Gives read (pos + length bytes) old new 0 → bytes ≡ take count (drop pos read)
end_read read pos bytes old new count was within room gives =
    let rest = length-drop pos read in
    let end : length (drop pos read) ≤ length bytes = elim (cases_lt (pos + length bytes) (length read)) [
      | inl more ↦ let some : 0 < 0 = gives.some room more in absurd (omega (arith, some))
      | inr over ↦ omega (arith, rest, over)
    ] in
    was.front ∙ take_all (length bytes) (drop pos read) end ∙ sym (take_all count (drop pos read) (omega (arith, end, within)))

-- the bytes that one read added
pub grown : (b : Bool) (bytes piece new rest after : List ℕ) (ask got : ℕ) → b ≡ true → after ≡ (if b then bytes ++ take got (new ++ rest) else bytes) → got ≤ length (take ask piece) → length new ≡ length (take ask piece) → after ≡ bytes ++ take got new
grown false bytes piece new rest after ask got ok is fits same = absurd (false≢true ok)
grown true bytes piece new rest after ask got ok is fits same =
    is ∙ ap (λ (l : List ℕ). bytes ++ l) (take-append-le got new rest (omega (arith, fits, same)))

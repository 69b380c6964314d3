-- Two lists side by side.
use Rattle.std.proofs.Common.{◌≡◌, ◌<◌, ◌+◌, ◌++◌, ℕ, zero, suc, List, [], ◌∷◌, length, get_or, take, slice_index_or, arith, refl, ap, subst}
use Rattle.std.specs.List.{AllZip}

module _ {A B : Type 0} (R : A → B → Type 0) where
  pub zip_append : (xs us : List A) (ys vs : List B) → AllZip R xs ys → AllZip R us vs → AllZip R (xs ++ us) (ys ++ vs)
  zip_append [] us [] vs h k = k
  zip_append [] us (y ∷ ys) vs h k = absurd h
  zip_append (x ∷ xs) us [] vs h k = absurd h
  zip_append (x ∷ xs) us (y ∷ ys) vs h k = (h.0, zip_append xs us ys vs h.1 k)

  -- one more of each
  pub zip_more : (xs : List A) (ys : List B) (i : ℕ) (x : A) (y : B) → i < length xs → x ≡ get_or xs i x → AllZip R (take i xs) ys → R x y
      → AllZip R (take (i + 1) xs) (ys ++ y ∷ [])
  zip_more [] ys i x y within is h r = absurd (omega (arith, within))
  zip_more (a ∷ xs) [] zero x y within is h r = (subst (λ (e : A). R e y) is r, tt)
  zip_more (a ∷ xs) (b ∷ ys) zero x y within is h r = absurd h
  zip_more (a ∷ xs) [] (suc i) x y within is h r = absurd h
  zip_more (a ∷ xs) (b ∷ ys) (suc i) x y within is h r =
      let later : suc (i + 1) ≡ suc i + 1 = omega arith in
      subst (λ (n : ℕ). AllZip R (take n (a ∷ xs)) (b ∷ (ys ++ y ∷ []))) later
      (h.0, zip_more xs ys i x y (omega (arith, within)) is h.1 r)

  -- what lies beside two lists, one after the other
  pub zip_split : (xs : List A) (ys zs : List B) → AllZip R xs (ys ++ zs)
      → (front back : List A) × (xs ≡ front ++ back) × AllZip R front ys × AllZip R back zs
  zip_split xs [] zs h = ([], xs, refl, tt, h)
  zip_split [] (y ∷ ys) zs h = absurd h
  zip_split (x ∷ xs) (y ∷ ys) zs h =
      let rest = zip_split xs ys zs h.1 in (x ∷ rest.0, rest.1, ap (λ (l : List A). x ∷ l) rest.2, (h.0, rest.3), rest.4)

-- as many of each, and each beside its own
pub zip_each : {X : Type 0} (R : X → X → Type 0) (xs ys : List X) → length ys ≡ length xs
    → ((i : ℕ) (d : X) → i < length xs → R (slice_index_or xs i d) (slice_index_or ys i d)) → AllZip R xs ys
zip_each R [] [] same each = tt
zip_each R [] (y ∷ ys) same each = absurd (omega (arith, same))
zip_each R (x ∷ xs) [] same each = absurd (omega (arith, same))
zip_each R (x ∷ xs) (y ∷ ys) same each =
    (each 0 x (omega arith), zip_each R xs ys (omega (arith, same)) (λ i d within. each (suc i) d (omega (arith, within))))

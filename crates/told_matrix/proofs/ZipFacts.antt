-- Two lists side by side.
use Rattle.std.proofs.Common.{◌≡◌, ℕ, ◌+◌, ◌<◌, ◌++◌, List, [], ◌∷◌, length, take, get_or, arith, refl, subst}
use Rattle.std.specs.List.{AllZip}
use Rattle.std.proofs.lemmas.List.{take_more}
use Rattle.std.proofs.lemmas.Slice.Zip.{all_zipped_more}

module _ {A B : Type 0} (R : A → B → Type 0) where
  -- one item more
  pub zip_more : (xs : List A) (ys : List B) (i : ℕ) (x : A) (y : B) → i < length xs → x ≡ get_or xs i x → AllZip R (take i xs) ys → R x y
      → AllZip R (take (i + 1) xs) (ys ++ y ∷ [])
  zip_more xs ys i x y lt is before here =
      rw (take_more xs i x lt) (all_zipped_more R (take i xs) ys (get_or xs i x) y before (subst (λ (a : A). R a y) is here))

  pub zip_append : (xs us : List A) (ys vs : List B) → AllZip R xs ys → AllZip R us vs → AllZip R (xs ++ us) (ys ++ vs)
  zip_append [] us [] vs h k = k
  zip_append [] us (y ∷ ys) vs h k = absurd h
  zip_append (x ∷ xs) us [] vs h k = absurd h
  zip_append (x ∷ xs) us (y ∷ ys) vs h k = (h.0, zip_append xs us ys vs h.1 k)

  pub zip_long : (xs : List A) (ys : List B) → AllZip R xs ys → length ys ≡ length xs
  zip_long [] [] h = refl
  zip_long [] (y ∷ ys) h = absurd h
  zip_long (x ∷ xs) [] h = absurd h
  zip_long (x ∷ xs) (y ∷ ys) h = (let e = zip_long xs ys h.1 in omega (arith, e))

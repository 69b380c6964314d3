-- The cell of a stop, in a list by stops.
use Rattle.std.proofs.Common.{◌≡◌, ◌≢◌, ℕ, ◌<◌, ◌≤◌, ◌+◌, ◌∙◌, ◌++◌, List, [], ◌∷◌, length, take, get_or, arith, eq-or-lt_of_le, inl, inr, ap, sym, subst}
use Rattle.std.specs.List.{All, AllPairs, AllWithin, AllZip}
use Rattle.std.proofs.lemmas.Bool.{cases_lt}
use Rattle.std.proofs.lemmas.List.{get_or_default, take_more}
use Rattle.std.proofs.lemmas.Slice.Zip.{all_zipped_more}
use Rattle.reaching.specs.declared.travel_time.TravelTimes.{TravelTimes}

-- one item more
pub zip_more : {A B : Type 0} (R : A → B → Type 0) (xs : List A) (ys : List B) (i : ℕ) (x : A) (y : B) → i < length xs → x ≡ get_or xs i x
    → AllZip R (take i xs) ys → R x y → AllZip R (take (i + 1) xs) (ys ++ y ∷ [])
zip_more {A} R xs ys i x y lt is before here =
    rw (take_more xs i x lt) (all_zipped_more R (take i xs) ys (get_or xs i x) y before (subst (λ (a : A). R a y) is here))

module _ (xs : List TravelTimes) (goal at : ℕ) (rising : AllPairs (λ a b. a.stop < b.stop) xs)
    (before : AllWithin (λ times. times.stop < goal) xs 0 at) where
  -- all are to stops before the one that is looked for
  pub none_after : length xs ≤ at → All (λ times. times.stop ≢ goal) xs
  none_after past = λ k d below is.
      let less : (get_or xs k d).stop < goal = before k d (omega arith) (omega (arith, below, past)) in omega (arith, less, is)

  -- the first other one is to another stop
  pub none_at : (x : TravelTimes) → at < length xs → get_or xs at x ≡ x → goal ≤ x.stop → x.stop ≢ goal → All (λ times. times.stop ≢ goal) xs
  none_at x below_at is from other = λ k d below same. elim (cases_lt k at) [
    | inl early ↦ (let less : (get_or xs k d).stop < goal = before k d (omega arith) early in omega (arith, less, same))
    | inr late ↦ elim (eq-or-lt_of_le late) [
      | inl e ↦
          other (sym (ap (λ (t : TravelTimes). t.stop) is) ∙ ap (λ (t : TravelTimes). t.stop) (get_or_default xs at x d below_at)
          ∙ ap (λ (i : ℕ). (get_or xs i d).stop) e ∙ same)
      | inr later ↦
          (let more : (get_or xs at d).stop < (get_or xs k d).stop = rising at k d later below in
          let here : (get_or xs at d).stop ≡ x.stop =
          ap (λ (t : TravelTimes). t.stop) (get_or_default xs at d x below_at ∙ is) in
          omega (arith, more, here, from, same))
    ]
  ]

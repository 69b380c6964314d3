-- What steps say, as one more is added, and at how many seconds one is there by them.
use Rattle.std.proofs.Common.{Option, Some, None, ◌≡◌, ℕ, suc, ◌+◌, ◌-◌, ◌^◌, ◌<◌, ◌≤◌, Bool, true, false, ◌||◌, cond, leb, List, [], ◌∷◌, ◌++◌, length, get_or, take, unwrap_or, arith, refl, sym, ◌∙◌, ap, ap₂, subst, inl, inr, le_refl}
use Rattle.std.specs.List.{All, fold}
use Rattle.std.proofs.lemmas.Bool.{cases_Bool, le-leb, lt-leb, leb-true}
use Rattle.std.proofs.lemmas.List.{get_or_default, take_more, take_all}
use Rattle.std.proofs.lemmas.List.Sums.{fold_push}
use Rattle.std.proofs.lemmas.List.Elements.{All-push}
use Rattle.std.proofs.lemmas.List.Quantifiers.{all_pairs_push}
use Rattle.reaching.specs.declared.steps.Step.{Step}
use Rattle.reaching.specs.Steps.{AreSteps, IsStepped, arrival_at, is_some_by, is_within, tally}
use Rattle.reaching.proofs.TallyFacts.{tally-le, tally-same, tally-split, tally-zero, tally_most}

-- the arrival at d after one more step
abbrev told : ℕ → Option ℕ → Step → Option ℕ
told d found step = cond (leb d step.until) (Some step.arrival) found

pub arrival_at-none : (d : ℕ) → arrival_at [] d ≡ None
unfolding arrival_at
arrival_at-none d = refl

arrival_at-push : (steps : List Step) (step : Step) (d : ℕ) → arrival_at (steps ++ step ∷ []) d ≡ told d (arrival_at steps d) step
unfolding arrival_at
arrival_at-push steps step d = fold_push (told d) None steps step

pub at_upto : (steps : List Step) (step : Step) (d : ℕ) → d ≤ step.until → arrival_at (steps ++ step ∷ []) d ≡ Some step.arrival
at_upto steps step d le =
    arrival_at-push steps step d ∙ ap (λ (b : Bool). cond b (Some step.arrival) (arrival_at steps d)) (le-leb d step.until le)

pub at_past : (steps : List Step) (step : Step) (d : ℕ) → step.until < d → arrival_at (steps ++ step ∷ []) d ≡ arrival_at steps d
at_past steps step d lt =
    arrival_at-push steps step d ∙ ap (λ (b : Bool). cond b (Some step.arrival) (arrival_at steps d)) (lt-leb d step.until lt)

-- ---- one more step

-- a step before all others
pub steps_more : (first last : ℕ) (steps : List Step) (step : Step) → step.until ≡ first → first ≤ last → step.arrival < 2 ^ 32
    → AreSteps first last steps → AreSteps first last (steps ++ step ∷ [])
steps_more first last steps step is le small are = record {
  falling = all_pairs_push (λ (a b : Step). b.until ≤ a.until) steps step are.falling
      (λ i e lt. (let a = are.after i e lt in omega (arith, a, is)));
  after = All-push (λ (s : Step). first ≤ s.until) steps step are.after (omega (arith, is));
  before = All-push (λ (s : Step). s.until ≤ last) steps step are.before (omega (arith, is, le));
  small = All-push (λ (s : Step). s.arrival < 2 ^ 32) steps step are.small small;
}

pub steps_none : (first last : ℕ) → AreSteps first last []
steps_none first last = record {
  falling = λ i j e ij jl. absurd (omega (arith, jl));
  after = λ i e lt. absurd (omega (arith, lt));
  before = λ i e lt. absurd (omega (arith, lt));
  small = λ i e lt. absurd (omega (arith, lt));
}

pub steps_from : (first lower last : ℕ) (steps : List Step) → lower ≤ first → AreSteps first last steps → AreSteps lower last steps
steps_from first lower last steps le are = record {
  falling = are.falling;
  after = λ i e lt. (let a = are.after i e lt in omega (arith, a, le));
  before = are.before;
  small = are.small;
}

pub stepped : (until a : ℕ) (steps : List Step) → a < 2 ^ 32
    → IsStepped until (Some a) steps (steps ++ record { until = until; arrival = a } ∷ [])
stepped until a steps small = record {
  upto = λ d le. at_upto steps (record { until = until; arrival = a }) d le;
  past = λ d lt. at_past steps (record { until = until; arrival = a }) d lt;
  sound = λ last le are. steps_more until last steps (record { until = until; arrival = a }) refl le small are;
}

-- once more the same step
pub stepped_again : (until a : ℕ) (old new : List Step) → a < 2 ^ 32 → IsStepped until (Some a) old new
    → IsStepped until (Some a) old (new ++ record { until = until; arrival = a } ∷ [])
stepped_again until a old new small is = record {
  upto = λ d le. at_upto new (record { until = until; arrival = a }) d le;
  past = λ d lt. at_past new (record { until = until; arrival = a }) d lt ∙ is.past d lt;
  sound = λ last le are. steps_more until last new (record { until = until; arrival = a }) refl le small (is.sound last le are);
}

-- ---- the count by rides, from the window's end to its start

-- whether one is there by the steps within x seconds
abbrev pub is_ridden : List Step → ℕ → ℕ → Bool
is_ridden steps x d = is_some_by (arrival_at steps d) (d + x)

-- the first i steps are counted: `total` of the seconds from `end` on are so, and before them one arrives at `arrival`
pub record HasCounted (steps : List Step) (first last x i total end : ℕ) (arrival : Option ℕ) : Type 0 where
  pub low : first < end
  pub high : end ≤ last + 1
  pub above : (j : ℕ) (d : Step) → i ≤ j → j < length steps → (get_or steps j d).until < end
  pub count : total ≡ tally (is_ridden (take i steps) x) end (last + 1 - end)
  pub flat : (d : ℕ) → d < end → arrival_at (take i steps) d ≡ arrival

module _ (steps : List Step) (first last x : ℕ) (some : first ≤ last) (are : AreSteps first last steps) where
  pub counted_none : HasCounted steps first last x 0 0 (last + 1) None
  counted_none = record {
    low = omega (arith, some);
    high = le_refl (last + 1);
    above = λ j d le lt. (let b = are.before j d lt in let z : (get_or steps j d).until < last + 1 = omega (arith, b) in z);
    count = (let e : last + 1 - (last + 1) ≡ 0 = omega arith in
        sym (ap (λ (n : ℕ). tally (is_ridden [] x) (last + 1) n) e ∙ tally-zero (is_ridden [] x) (last + 1)));
    flat = λ d lt. arrival_at-none d;
  }

  module _ (i total end : ℕ) (arrival : Option ℕ) (has : HasCounted steps first last x i total end arrival) where
    pub counted_short : total + end ≤ last + 1
    counted_short =
        let most = tally_most (is_ridden (take i steps) x) end (last + 1 - end) in
        let is = has.count in
        let high = has.high in
        omega (arith, most, is, high)

    pub counted_more : (step : Step) → i < length steps → get_or steps i step ≡ step
        → HasCounted steps first last x (i + 1) (total + tally (λ d. is_some_by arrival (d + x)) (step.until + 1) (end - (step.until + 1)))
        (step.until + 1) (Some step.arrival)
    counted_more step lt is = record {
      low =
          let after = subst (λ (s : Step). first ≤ s.until) is (are.after i step lt) in
          let z : first < step.until + 1 = omega (arith, after) in z;
      high =
          let before = subst (λ (s : Step). s.until ≤ last) is (are.before i step lt) in
          let z : step.until + 1 ≤ last + 1 = omega (arith, before) in z;
      above = λ j d le in'.
          let down = subst (λ (s : Step). (get_or steps j step).until ≤ s.until) is (are.falling i j step (omega (arith, le)) in') in
          let same : get_or steps j d ≡ get_or steps j step = get_or_default steps j d step in' in
          let equal : (get_or steps j d).until ≡ (get_or steps j step).until = ap (λ (s : Step). s.until) same in
          let z : (get_or steps j d).until < step.until + 1 = omega (arith, down, equal) in z;
      count =
          let split = tally-split now (step.until + 1) (end - (step.until + 1)) (last + 1 - end) (last + 1 - (step.until + 1)) end
          (omega (arith, below, high)) (omega (arith, below)) in
          let parts : tally now (step.until + 1) (last + 1 - (step.until + 1)) ≡ tally (λ d. is_some_by arrival (d + x)) (step.until + 1)
          (end - (step.until + 1)) + total =
          split ∙ ap₂ (λ (a b : ℕ). a + b) front back in
          omega (arith, parts);
      flat = λ d less. ap (λ (s : List Step). arrival_at s d) longer ∙ at_upto (take i steps) step d (omega (arith, less));
    } where
      high : end ≤ last + 1
      high = has.high

      below : step.until < end
      below = subst (λ (s : Step). s.until < end) is (has.above i step (le_refl i) lt)

      longer : take (i + 1) steps ≡ take i steps ++ step ∷ []
      longer = take_more steps i step lt ∙ ap (λ (s : Step). take i steps ++ s ∷ []) is

      now : ℕ → Bool
      now = is_ridden (take (i + 1) steps) x

      as_before : (d : ℕ) → step.until < d → arrival_at (take (i + 1) steps) d ≡ arrival_at (take i steps) d
      as_before d past = ap (λ (s : List Step). arrival_at s d) longer ∙ at_past (take i steps) step d past

      front : tally now (step.until + 1) (end - (step.until + 1))
          ≡ tally (λ d. is_some_by arrival (d + x)) (step.until + 1) (end - (step.until + 1))
      front = tally-same now (λ d. is_some_by arrival (d + x)) (step.until + 1) (end - (step.until + 1)) (λ d after before.
          ap (λ (o : Option ℕ). is_some_by o (d + x)) (as_before d (omega (arith, after)) ∙ has.flat d (omega (arith, before, below))))

      back : tally now end (last + 1 - end) ≡ total
      back =
          tally-same now (is_ridden (take i steps) x) end (last + 1 - end) (λ d after before.
          ap (λ (o : Option ℕ). is_some_by o (d + x)) (as_before d (omega (arith, after, below))))
          ∙ sym has.count

    pub counted_all : length steps ≤ i
        → total + tally (λ d. is_some_by arrival (d + x)) first (end - first) ≡ tally (is_ridden steps x) first (last + 1 - first)
    counted_all past =
        let low = has.low in
        let high = has.high in
        let whole : take i steps ≡ steps = take_all i steps past in
        let split = tally-split (is_ridden steps x) first (end - first) (last + 1 - end) (last + 1 - first) end
        (omega (arith, low, high)) (omega (arith, low)) in
        let front : tally (is_ridden steps x) first (end - first) ≡ tally (λ d. is_some_by arrival (d + x)) first (end - first) =
        tally-same (is_ridden steps x) (λ d. is_some_by arrival (d + x)) first (end - first) (λ d after before.
        ap (λ (o : Option ℕ). is_some_by o (d + x)) (ap (λ (s : List Step). arrival_at s d) (sym whole) ∙ has.flat d
        (omega (arith, before, low)))) in
        let back : total ≡ tally (is_ridden steps x) end (last + 1 - end) =
        subst (λ (s : List Step). total ≡ tally (is_ridden s x) end (last + 1 - end)) whole has.count in
        omega (arith, split, front, back)

-- ---- within more seconds one is there at no fewer seconds of departure

is_some_by-more : (o : Option ℕ) (x y : ℕ) → x ≤ y → is_some_by o x ≡ true → is_some_by o y ≡ true
is_some_by-more None x y le h = h
is_some_by-more (Some n) x y le h = le-leb n y (let a = leb-true n x h in omega (arith, a, le))

or-more : (a b c d : Bool) → (a ≡ true → c ≡ true) → (b ≡ true → d ≡ true) → (a || b) ≡ true → (c || d) ≡ true
or-more a b true d f g h = refl
or-more true b false d f g h = absurd (let z = f refl in cc z)
or-more false b false d f g h = g h

pub within_more : (walk : Option ℕ) (steps : List Step) (x y low n : ℕ) → x ≤ y
    → tally (is_within walk steps x) low n ≤ tally (is_within walk steps y) low n
within_more walk steps x y low n le = tally-le (is_within walk steps x) (is_within walk steps y) low n (λ d _ _ h.
    or-more (is_some_by walk x) (is_some_by (arrival_at steps d) (d + x)) (is_some_by walk y) (is_some_by (arrival_at steps d) (d + y))
    (is_some_by-more walk x y le) (is_some_by-more (arrival_at steps d) (d + x) (d + y) (omega (arith, le))) h)

-- no number, or one of 32 bits
abbrev IsSmall : Option ℕ → Type 0
IsSmall None = Unit {0}
IsSmall (Some a) = a < 2 ^ 32

small_from : (d : ℕ) (steps : List Step) (found : Option ℕ) → All (λ (s : Step). s.arrival < 2 ^ 32) steps → IsSmall found
    → IsSmall (fold (told d) found steps)
small_from d [] found all small = small
small_from d (x ∷ xs) found all small =
    small_from d xs (told d found x) (λ k e lt. all (suc k) e (omega (arith, lt))) (elim (cases_Bool (leb d x.until)) [
      | inl on ↦ subst (λ (b : Bool). IsSmall (cond b (Some x.arrival) found)) (sym on) (all 0 x (omega arith))
      | inr off ↦ subst (λ (b : Bool). IsSmall (cond b (Some x.arrival) found)) (sym off) small
    ])

small_at : (d : ℕ) (steps : List Step) → All (λ (s : Step). s.arrival < 2 ^ 32) steps → IsSmall (arrival_at steps d)
unfolding arrival_at
small_at d steps all = small_from d steps None all tt

small_by : (o : Option ℕ) (d x : ℕ) → IsSmall o → is_some_by o (d + x) ≡ true → is_some_by o (d + 4294967295) ≡ true
small_by None d x small h = h
small_by (Some a) d x small h = le-leb a (d + 4294967295) (omega (arith, small))

-- no more seconds of departure are so than within a walk, or without one within all numbers of 32 bits
pub within_most : (walk : Option ℕ) (steps : List Step) (x low n : ℕ) → All (λ (s : Step). s.arrival < 2 ^ 32) steps
    → tally (is_within walk steps x) low n ≤ tally (is_within walk steps (unwrap_or walk 4294967295)) low n
within_most None steps x low n small = tally-le (is_within None steps x) (is_within None steps 4294967295) low n (λ d _ _ h.
    small_by (arrival_at steps d) d x (small_at d steps small) h)
within_most (Some w) steps x low n small = tally-le (is_within (Some w) steps x) (is_within (Some w) steps w) low n (λ d _ _ h.
    ap (λ (b : Bool). b || is_some_by (arrival_at steps d) (d + w)) (le-leb w w (le_refl w)))

-- The steps of a row.
use Rattle.std.proofs.Common.{Option, ◌≡◌, ℕ, zero, suc, replicate, ◌<◌, ◌≤◌, ◌⊎◌, Bool, true, false, eqb, cond, List, [], ◌∷◌, ◌++◌, length, Some, None, slice_set, arith, refl, sym, ◌∙◌, ap, subst, inl, inr}
use Rattle.std.specs.List.{Contains, IsDistinct, list_any}
use Rattle.std.specs.Cmp.{nat_eq_equiv}
use Rattle.std.proofs.lemmas.Bool.{cases_eq, cases_lt, eqb-true, false_from_ne_true}
use Rattle.std.proofs.lemmas.List.{get_or-set_same, get_or-set_other, get_or_past, length-set, length_push}
use Rattle.std.proofs.lemmas.List.Elements.{Contains-push, Contains-push_cases, Contains-append_left}
use Rattle.std.proofs.lemmas.Map.Keys.{IsDistinct-push}
use Rattle.std.proofs.lemmas.Map.Views.{Contains-from_any}
use Rattle.std.proofs.lemmas.Map.Steps.{length-le_from_distinct_below}
use Rattle.timetable.specs.Front.{IsSooner}
use Rattle.stop_labels.specs.Mark.{Mark, at, arrival_of, By, is_by}
use Rattle.stop_labels.specs.Row.{RowData, IsRow, SameRow, lowered_in, when}

-- ---- sooner

pub not_sooner : (o p : Option ℕ) → o ≡ p → IsSooner o p → ⊥
not_sooner None p e h = h
not_sooner (Some a) None e h = no e where
  no : Some a ≡ None → ⊥
  no e = cc
not_sooner (Some a) (Some b) e h = less a b (same e) h where
  same : Some a ≡ Some b → a ≡ b
  same e = cc

  less : (a b : ℕ) → a ≡ b → a < b → ⊥
  less a b e h = omega (arith, e, h)

-- a label that is sooner than the one there is sooner than what was settled
sooner_put : (mark : Option Mark) (settled : Option ℕ) (a : ℕ) → (By mark a → ⊥) → IsSooner (arrival_of mark) settled ⊎ (arrival_of mark ≡ settled)
    → IsSooner (Some a) settled
sooner_put None None a never h = tt
sooner_put None (Some b) a never h = elim h [
  | inl sooner ↦ absurd sooner
  | inr e ↦ absurd (none_some b e)
] where
  none_some : (b : ℕ) → None ≡ Some b → ⊥
  none_some b e = cc
sooner_put (Some m) None a never h = tt
sooner_put (Some m) (Some b) a never h = elim (cases_lt a m.arrival) [
  | inr late ↦ absurd (never late)
  | inl lt ↦ elim h [
    | inl sooner ↦ less a m.arrival b lt sooner
    | inr e ↦ along a m.arrival b lt (same m.arrival b e)
  ]
] where
  less : (a m b : ℕ) → a < m → m < b → a < b
  less a m b f g = omega (arith, f, g)

  along : (a m b : ℕ) → a < m → m ≡ b → a < b
  along a m b f e = omega (arith, f, e)

  same : (m b : ℕ) → Some m ≡ Some b → m ≡ b
  same m b e = cc

-- ---- the list

pub sooner_within : (marks : List (Option Mark)) (p : ℕ) (settled : Option ℕ) → IsSooner (arrival_of (at marks p)) settled → p < length marks
sooner_within marks p settled h = elim (cases_lt p (length marks)) [
  | inl lt ↦ lt
  | inr past ↦ absurd (subst (λ (o : Option Mark). IsSooner (arrival_of o) settled) (get_or_past marks p None past) h)
]

pub listed_within : (marks : List (Option Mark)) (settled : List (Option ℕ)) (listed : List ℕ) (room : ℕ) → IsRow marks settled listed room
    → (p : ℕ) → Contains listed p → p < length marks
listed_within marks settled listed room is p has = sooner_within marks p (when settled p) (is.sooner p has)

module _ (marks : List (Option Mark)) (settled : List (Option ℕ)) (listed : List ℕ) (room i : ℕ) (is : IsRow marks settled listed room) (in' : i < length marks)
    (here : IsSooner (arrival_of (at marks i)) (when settled i) → ⊥) where
  not_listed : Contains listed i → ⊥
  not_listed has = here (is.sooner i has)

  as_settled : arrival_of (at marks i) ≡ when settled i
  as_settled = elim (is.others i) [ inl has ↦ absurd (not_listed has) | inr same ↦ same ]

  pub once_more : IsDistinct eqb (listed ++ i ∷ [])
  once_more = IsDistinct-push nat_eq_equiv listed i is.once
      (false_from_ne_true (list_any (eqb i) listed) (λ e. not_listed (Contains-from_any eqb-true i listed e)))

  within_more : (p : ℕ) → Contains (listed ++ i ∷ []) p → p < length marks
  within_more p has = elim (Contains-push_cases listed i p has) [
    | inl was ↦ listed_within marks settled listed room is p was
    | inr now ↦ subst (λ k. k < length marks) now in'
  ]

  pub has_room : length listed < room
  has_room =
      let most = length-le_from_distinct_below (listed ++ i ∷ []) (length marks) once_more
      (λ q e. within_more q (Contains-from_any eqb-true q (listed ++ i ∷ []) e)) in
      let long = length_push listed i in
      let fits = is.room in
      omega (arith, most, long, fits)

  -- a label is put where none was lowered
  pub put_new : (room' : ℕ) (m : Mark) → room ≤ room' → (By (at marks i) m.arrival → ⊥) → IsRow (slice_set marks i (Some m)) settled (listed ++ i ∷ []) room'
  put_new room' m more none = record {
    size = is.size ∙ sym (length-set marks i (Some m));
    room = (let fits = is.room in let same = length-set {A = Option Mark} marks i (Some m) in omega (arith, fits, same, more));
    others = λ p. elim (cases_eq p i) [
      | inl e ↦ inl (subst (λ k. Contains (listed ++ i ∷ []) k) (sym e) (Contains-push listed i))
      | inr ne ↦ elim (is.others p) [
        | inl has ↦ inl (Contains-append_left listed (i ∷ []) p has)
        | inr same ↦ inr (ap arrival_of (get_or-set_other marks i p (Some m) None ne) ∙ same)
      ]
    ];
    sooner = λ p has. elim (cases_eq p i) [
      | inl e ↦ subst (λ k. IsSooner (arrival_of (at (slice_set marks i (Some m)) k)) (when settled k)) (sym e)
          (subst (λ (o : Option Mark). IsSooner (arrival_of o) (when settled i)) (sym (get_or-set_same marks i (Some m) None in'))
          (sooner_put (at marks i) (when settled i) m.arrival none (inr as_settled)))
      | inr ne ↦ elim (Contains-push_cases listed i p has) [
        | inl was ↦ subst (λ (o : Option Mark). IsSooner (arrival_of o) (when settled p)) (sym (get_or-set_other marks i p (Some m) None ne)) (is.sooner p was)
        | inr now ↦ absurd (ne (sym now))
      ]
    ];
    once = once_more;
  }

-- and where one was
pub put_again : (marks : List (Option Mark)) (settled : List (Option ℕ)) (listed : List ℕ) (room i : ℕ) (m : Mark) → IsRow marks settled listed room → i < length marks
    → (By (at marks i) m.arrival → ⊥) → IsSooner (arrival_of (at marks i)) (when settled i) → IsRow (slice_set marks i (Some m)) settled listed room
put_again marks settled listed room i m is in' none here = record {
  size = is.size ∙ sym (length-set marks i (Some m));
  room = (let fits = is.room in let same = length-set {A = Option Mark} marks i (Some m) in omega (arith, fits, same));
  others = λ p. elim (cases_eq p i) [
    | inl e ↦ elim (is.others i) [
      | inl has ↦ inl (subst (λ k. Contains listed k) (sym e) has)
      | inr same ↦ absurd (not_sooner (arrival_of (at marks i)) (when settled i) same here)
    ]
    | inr ne ↦ elim (is.others p) [
      | inl has ↦ inl has
      | inr same ↦ inr (ap arrival_of (get_or-set_other marks i p (Some m) None ne) ∙ same)
    ]
  ];
  sooner = λ p has. elim (cases_eq p i) [
    | inl e ↦ subst (λ k. IsSooner (arrival_of (at (slice_set marks i (Some m)) k)) (when settled k)) (sym e)
        (subst (λ (o : Option Mark). IsSooner (arrival_of o) (when settled i)) (sym (get_or-set_same marks i (Some m) None in'))
        (sooner_put (at marks i) (when settled i) m.arrival none (inl here)))
    | inr ne ↦ subst (λ (o : Option Mark). IsSooner (arrival_of o) (when settled p)) (sym (get_or-set_other marks i p (Some m) None ne)) (is.sooner p has)
  ];
  once = is.once;
}

-- ---- what a lowered mark leaves

pub same_lowered : (row : RowData) (p : ℕ) (mark : Mark) → SameRow row (lowered_in row p mark)
same_lowered row p mark = record {
  size = go (is_by (at row.marks p) mark.arrival);
  settled = refl;
} where
  go : (b : Bool) → length (cond b row.marks (slice_set row.marks p (Some mark))) ≡ length row.marks
  go true = refl
  go false = length-set row.marks p (Some mark)

pub same_then : (a b c : RowData) → SameRow a b → SameRow b c → SameRow a c
same_then a b c f g = record { size = g.size ∙ f.size; settled = g.settled ∙ f.settled }

pub same_here : (a : RowData) → SameRow a a
same_here a = record { size = refl; settled = refl }

-- ---- a row that was settled

pub settled_row : (marks : List (Option Mark)) (settled : List (Option ℕ)) (listed : List ℕ) (capacity : ℕ) → listed ≡ [] → length settled ≡ length marks
    → length marks ≤ capacity → ((p : ℕ) → arrival_of (at marks p) ≡ when settled p) → IsRow marks settled listed capacity
unfolding IsDistinct
settled_row marks settled listed capacity none size room same = record {
  size = size;
  room = room;
  others = λ p. inr (same p);
  sooner = λ p has. absurd (nothing p (subst (λ (xs : List ℕ). Contains xs p) none has));
  once = subst (λ (xs : List ℕ). IsDistinct eqb xs) (sym none) tt;
} where
  nothing : (p : ℕ) → Contains [] p → ⊥
  nothing p has = (let lt = has.1 in omega (arith, lt))

pub empty_when : (n p : ℕ) → when (replicate {A = Option ℕ} n None) p ≡ None
empty_when zero p = refl
empty_when (suc n) zero = refl
empty_when (suc n) (suc p) = empty_when n p

pub empty_at : (n p : ℕ) → at (replicate {A = Option Mark} n None) p ≡ None
empty_at zero p = refl
empty_at (suc n) zero = refl
empty_at (suc n) (suc p) = empty_at n p

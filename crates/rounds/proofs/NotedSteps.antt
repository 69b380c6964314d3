-- How lines are noted.
use Rattle.std.proofs.Common.{◌≡◌, ℕ, zero, suc, replicate, ◌+◌, ◌<◌, ◌≤◌, ◌⊎◌, eqb, List, [], ◌∷◌, ◌++◌, length, get_or, set, arith, refl, sym, ◌∙◌, subst, inl, inr}
use Rattle.std.specs.List.{Contains, IsDistinct, list_any}
use Rattle.std.specs.Cmp.{nat_eq_equiv}
use Rattle.std.proofs.lemmas.Bool.{cases_eq, eqb-true, false_from_ne_true}
use Rattle.std.proofs.lemmas.List.{get_or-set_same, get_or-set_other, length-set, length_push}
use Rattle.std.proofs.lemmas.List.Elements.{Contains-push, Contains-push_cases, Contains-append_left}
use Rattle.std.proofs.lemmas.Map.Keys.{IsDistinct-push}
use Rattle.std.proofs.lemmas.Map.Views.{Contains-from_any}
use Rattle.std.proofs.lemmas.Map.Steps.{length-le_from_distinct_below}
use Rattle.rounds.specs.Noted.{no_position, IsNoted}
use Rattle.stop_labels.proofs.Listed.{SeenIn, seen_next}

-- none is noted
pub noted_nothing : (earliest listed : List ℕ) (capacity : ℕ) → listed ≡ [] → length earliest ≤ capacity
    → ((l : ℕ) → l < length earliest → get_or earliest l 0 ≡ no_position) → IsNoted earliest listed capacity
unfolding IsDistinct
noted_nothing earliest listed capacity none room all = record {
  room = room;
  others = λ l h. inr (all l h);
  within = λ l has. absurd (nothing l (subst (λ (xs : List ℕ). Contains xs l) none has));
  placed = λ l has. absurd (nothing l (subst (λ (xs : List ℕ). Contains xs l) none has));
  once = subst (λ (xs : List ℕ). IsDistinct eqb xs) (sym none) tt;
} where
  nothing : (l : ℕ) → Contains [] l → ⊥
  nothing l has = (let lt = has.1 in omega (arith, lt))

module _ (earliest listed : List ℕ) (room i : ℕ) (is : IsNoted earliest listed room) (in' : i < length earliest) where
  -- a line that has no position is listed
  module _ (here : get_or earliest i 0 ≡ no_position) where
    not_listed : Contains listed i → ⊥
    not_listed has = (let low = is.placed i has in omega (arith, low, here))

    once_more : IsDistinct eqb (listed ++ i ∷ [])
    once_more = IsDistinct-push nat_eq_equiv listed i is.once
        (false_from_ne_true (list_any (eqb i) listed) (λ e. not_listed (Contains-from_any eqb-true i listed e)))

    within_more : (l : ℕ) → Contains (listed ++ i ∷ []) l → l < length earliest
    within_more l has = elim (Contains-push_cases listed i l has) [
      | inl was ↦ is.within l was
      | inr now ↦ subst (λ k. k < length earliest) now in'
    ]

    pub line_has_room : length listed < room
    line_has_room =
        let most = length-le_from_distinct_below (listed ++ i ∷ []) (length earliest) once_more
        (λ q e. within_more q (Contains-from_any eqb-true q (listed ++ i ∷ []) e)) in
        let long = length_push listed i in
        let fits = is.room in
        omega (arith, most, long, fits)

    pub note_new : (room' position : ℕ) → room ≤ room' → position < no_position → IsNoted (set earliest i position) (listed ++ i ∷ []) room'
    note_new room' position more low =
        let long = length-set earliest i position in
        record {
          room = (let fits = is.room in omega (arith, fits, long, more));
          others = λ l h. elim (cases_eq l i) [
            | inl e ↦ inl (subst (λ k. Contains (listed ++ i ∷ []) k) (sym e) (Contains-push listed i))
            | inr ne ↦ elim (is.others l (omega (arith, h, long))) [
              | inl has ↦ inl (Contains-append_left listed (i ∷ []) l has)
              | inr past ↦ inr (get_or-set_other earliest i l position 0 ne ∙ past)
            ]
          ];
          within = λ l has. (let lt = within_more l has in omega (arith, lt, long));
          placed = λ l has. elim (cases_eq l i) [
            | inl e ↦ subst (λ k. get_or (set earliest i position) k 0 < no_position) (sym e)
                (subst (λ p. p < no_position) (sym (get_or-set_same earliest i position 0 in')) low)
            | inr ne ↦ elim (Contains-push_cases listed i l has) [
              | inl was ↦ subst (λ p. p < no_position) (sym (get_or-set_other earliest i l position 0 ne)) (is.placed l was)
              | inr now ↦ absurd (ne (sym now))
            ]
          ];
          once = once_more;
        }

  -- one that has a position is there already
  pub note_again : (position : ℕ) → get_or earliest i 0 < no_position → position < no_position → IsNoted (set earliest i position) listed room
  note_again position here low =
      let long = length-set earliest i position in
      record {
        room = (let fits = is.room in omega (arith, fits, long));
        others = λ l h. elim (cases_eq l i) [
          | inl e ↦ elim (is.others i in') [
            | inl has ↦ inl (subst (λ k. Contains listed k) (sym e) has)
            | inr past ↦ absurd (omega (arith, past, here))
          ]
          | inr ne ↦ elim (is.others l (omega (arith, h, long))) [
            | inl has ↦ inl has
            | inr past ↦ inr (get_or-set_other earliest i l position 0 ne ∙ past)
          ]
        ];
        within = λ l has. (let lt = is.within l has in omega (arith, lt, long));
        placed = λ l has. elim (cases_eq l i) [
          | inl e ↦ subst (λ k. get_or (set earliest i position) k 0 < no_position) (sym e)
              (subst (λ p. p < no_position) (sym (get_or-set_same earliest i position 0 in')) low)
          | inr ne ↦ subst (λ p. p < no_position) (sym (get_or-set_other earliest i l position 0 ne)) (is.placed l has)
        ];
        once = is.once;
      }

-- the position of one more line is taken away
pub cleared_more : (listed old earliest : List ℕ) (n line : ℕ) → n < length listed → line ≡ get_or listed n line → line < length earliest
    → ((l : ℕ) → (get_or earliest l 0 ≡ no_position) ⊎ (¬ SeenIn listed n l × (get_or earliest l 0 ≡ get_or old l 0)))
    → (l : ℕ) → (get_or (set earliest line no_position) l 0 ≡ no_position) ⊎ (¬ SeenIn listed (n + 1) l × (get_or (set earliest line no_position) l 0 ≡ get_or old l 0))
cleared_more listed old earliest n line lt is in' inv l = elim (cases_eq l line) [
  | inl e ↦ inl (subst (λ k. get_or (set earliest line no_position) k 0 ≡ no_position) (sym e) (get_or-set_same earliest line no_position 0 in'))
  | inr ne ↦ elim (inv l) [
    | inl done ↦ inl (get_or-set_other earliest line l no_position 0 ne ∙ done)
    | inr was ↦ inr (
      λ seen. elim (seen_next listed n line l lt is seen) [ inl before ↦ was.0 before | inr now ↦ ne now ],
      get_or-set_other earliest line l no_position 0 ne ∙ was.1,
    )
  ]
]

-- all positions are taken away
pub cleared_all : (earliest listed now : List ℕ) (room : ℕ) → IsNoted earliest listed room
    → ((l : ℕ) → (get_or now l 0 ≡ no_position) ⊎ (¬ Contains listed l × (get_or now l 0 ≡ get_or earliest l 0)))
    → (l : ℕ) → l < length earliest → get_or now l 0 ≡ no_position
cleared_all earliest listed now room is each l h = elim (each l) [
  | inl done ↦ done
  | inr rest ↦ elim (is.others l h) [
    | inl has ↦ absurd (rest.0 has)
    | inr past ↦ rest.1 ∙ past
  ]
]

pub all_past : (n l : ℕ) → l < length (replicate {A = ℕ} n no_position) → get_or (replicate {A = ℕ} n no_position) l 0 ≡ no_position
all_past zero l h = absurd (omega arith)
all_past (suc n) zero h = refl
all_past (suc n) (suc l) h = all_past n l (omega arith)

-- a line with another position than that has one
pub has_position : (earliest listed : List ℕ) (room i before : ℕ) → IsNoted earliest listed room → i < length earliest → get_or earliest i 0 ≡ before → (before ≡ no_position → ⊥)
    → before < no_position
has_position earliest listed room i before is within read other = elim (is.others i within) [
  | inl has ↦ (let low = is.placed i has in omega (arith, low, read))
  | inr past ↦ absurd (other (sym read ∙ past))
]

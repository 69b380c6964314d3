-- Dates of a row of the calendar, one after the other.
use Rattle.std.proofs.Common.{◌≡◌, ◌∙◌, inl, inr, sym, ap, refl, arith, rules, ℕ, List, Bool, true, false, not, ◌&&◌, ℤ, pos, ◌≤ℤ◌, ◌<ℤ◌, ◌+ℤ◌, ◌-ℤ◌, neg_ℤ, ◌<◌, int_le, int_cmp, is_le, unsigned_abs, slice_index_or, [], ◌∷◌, zero, suc}
use Rattle.std.specs.List.{list_any}
use Rattle.std.proofs.lemmas.Int.{ints}
use Rattle.std.specs.Bool.{Decides}
use Rattle.std.specs.BTreeSet.{BTreeSet}
use Rattle.std.specs.Cmp.Lexicographic.{nat_list_eq_equiv}
use Rattle.std.specs.Str.{bytes_eq}
use Rattle.std.proofs.lemmas.Bool.{cases_Bool}
use denote.Ref.{Bor}
use Rattle.jiff_core.specs.declared.civil.date.Date.{Date}
use Rattle.jiff_core.specs.Date.{epoch_day, weekday_of}
use Rattle.jiff.proofs.Family.{same_date, epoch_day_range}
use Rattle.jiff_core.proofs.SignedLemmas.{signed_arith}
use Rattle.jiff_core.proofs.SignedLemmas.{one_part}
use Rattle.gtfs_rows.specs.declared.values.CalendarRow.{CalendarRow}
use Rattle.service_days.specs.Runs.{is_within}
use Rattle.service_span.specs.Looked.{is_removed, keeps}

le_Decides : (a b : ℤ) → Decides (int_le a b) (a ≤ℤ b)
le_Decides a b = (λ e. search (rules, e), λ h. search (rules, h))

-- what comparisons of dates say
pub at_most : (a b : ℤ) (r : Bool) → r ≡ is_le (int_cmp a b) → r ≡ true → a ≤ℤ b
at_most a b r is yes' = let e : is_le (int_cmp a b) ≡ true = sym is ∙ yes' in grind (arith, ints, e)

pub above : (a b : ℤ) (r : Bool) → r ≡ is_le (int_cmp a b) → r ≡ false → b <ℤ a
above a b r is no' = let e : is_le (int_cmp a b) ≡ false = sym is ∙ no' in grind (arith, ints, e)

-- no weekday is marked
pub none_of_none : (marks : List Bool) (n : ℕ) → list_any (λ marked. marked) marks ≡ false → slice_index_or marks n false ≡ false
none_of_none [] n e = refl
none_of_none (true ∷ marks) n e = absurd (let bottom : ⊥ = cc in bottom)
none_of_none (false ∷ marks) zero e = refl
none_of_none (false ∷ marks) (suc n) e = none_of_none marks n e

-- what the test of a date comes to
joined_tests : (within named marked kept : Bool) → within ≡ true → named ≡ true → ((within && (named && marked)) && kept) ≡ (marked && kept)
joined_tests within named marked kept e f = rw (e, f) refl

outside : (within rest kept : Bool) → within ≡ false → ((within && rest) && kept) ≡ false
outside within rest kept e = rw e refl

unmarked : (within named marked kept : Bool) → marked ≡ false → ((within && (named && marked)) && kept) ≡ false
unmarked true true marked kept e = rw e refl
unmarked true false marked kept e = refl
unmarked false named marked kept e = refl

module _ (removed : BTreeSet (Bor (List ℕ) × ℕ)) (row : CalendarRow) where
  -- a date in the row's range is kept by its test
  pub within_range : (date : Date) → epoch_day row.start ≤ℤ epoch_day date → epoch_day date ≤ℤ epoch_day row.end
      → keeps removed row date ≡ (slice_index_or row.weekdays (weekday_of date) false && not (is_removed removed row.service date))
  within_range date low high =
      let within : is_within date row ≡ true = rw ((le_Decides (epoch_day row.start) (epoch_day date)).1 low, (le_Decides (epoch_day date) (epoch_day row.end)).1 high) refl in
      joined_tests (is_within date row) (bytes_eq row.service row.service) (slice_index_or row.weekdays (weekday_of date) false) (not (is_removed removed row.service date))
      within (nat_list_eq_equiv.refl row.service)

  -- one that is kept lies in it
  pub kept_within : (date : Date) → keeps removed row date ≡ true → (epoch_day row.start ≤ℤ epoch_day date) × (epoch_day date ≤ℤ epoch_day row.end)
  kept_within date e =
      elim (cases_Bool (int_le (epoch_day row.start) (epoch_day date))) [
        | inr out ↦ absurd (let bad : keeps removed row date ≡ false = rw out refl in let bottom : ⊥ = cc in bottom)
        | inl low ↦ elim (cases_Bool (int_le (epoch_day date) (epoch_day row.end))) [
          | inr out ↦ absurd (let bad : keeps removed row date ≡ false = rw (low, out) refl in let bottom : ⊥ = cc in bottom)
          | inl high ↦ ((le_Decides (epoch_day row.start) (epoch_day date)).0 low, (le_Decides (epoch_day date) (epoch_day row.end)).0 high)
        ]
      ]

  -- a row without a marked weekday keeps no date
  pub none_marked : (date : Date) → slice_index_or row.weekdays (weekday_of date) false ≡ false → keeps removed row date ≡ false
  none_marked date e =
      unmarked (is_within date row) (bytes_eq row.service row.service) (slice_index_or row.weekdays (weekday_of date) false) (not (is_removed removed row.service date)) e

  -- no date before this one is kept
  pub record NoneBefore (date : Date) : Type 0 where
    pub from : epoch_day row.start ≤ℤ epoch_day date
    pub none : (d : Date) → keeps removed row d ≡ true → epoch_day date ≤ℤ epoch_day d

  pub none_before_start : NoneBefore row.start
  none_before_start = record { from = omega (arith, signed_arith); none = λ d e. (kept_within d e).0 }

  -- this one isn't either
  pub one_later : (date : Date) → NoneBefore date → epoch_day date ≤ℤ epoch_day row.end
      → (slice_index_or row.weekdays (weekday_of date) false && not (is_removed removed row.service date)) ≡ false
      → (d : Date) → keeps removed row d ≡ true → epoch_day date <ℤ epoch_day d
  one_later date h within unkept d e =
      let le = h.none d e in
      let apart : ¬ (epoch_day d ≡ epoch_day date) = λ same.
      let is : d ≡ date = same_date d date same in
      let bad : keeps removed row date ≡ true = ap (keeps removed row) (sym is) ∙ e in
      let good = within_range date h.from within in
      (let bottom : ⊥ = cc in bottom) in
      omega (arith, signed_arith, le, apart)

  pub next_before : (date next : Date) → NoneBefore date → epoch_day date ≤ℤ epoch_day row.end → epoch_day next ≡ epoch_day date +ℤ pos 1
      → (slice_index_or row.weekdays (weekday_of date) false && not (is_removed removed row.service date)) ≡ false → NoneBefore next
  next_before date next h within is unkept = record {
    from = let from = h.from in omega (arith, signed_arith, from, is);
    none = λ d e. let lt = one_later date h within unkept d e in omega (arith, signed_arith, lt, is);
  }

  -- none is, if the row's range ends before, or the calendar does
  pub none_left : (date : Date) → NoneBefore date → epoch_day row.end <ℤ epoch_day date → (d : Date) → keeps removed row d ≡ false
  none_left date h past d = elim (cases_Bool (keeps removed row d)) [
    | inl here ↦ absurd (let a = h.none d here in let b = (kept_within d here).1 in let bottom : ⊥ = omega (arith, signed_arith, a, b, past) in bottom)
    | inr away ↦ away
  ]

  pub last_day : (date : Date) → NoneBefore date → epoch_day date ≤ℤ epoch_day row.end → ¬ (epoch_day date <ℤ pos 2_932_896)
      → (slice_index_or row.weekdays (weekday_of date) false && not (is_removed removed row.service date)) ≡ false → (d : Date) → keeps removed row d ≡ false
  last_day date h within end unkept d = elim (cases_Bool (keeps removed row d)) [
    | inl here ↦ absurd (let a = one_later date h within unkept d here in let b = (epoch_day_range d).1 in let bottom : ⊥ = end (omega (arith, signed_arith, a, b)) in bottom)
    | inr away ↦ away
  ]

  -- no date after this one is kept
  pub record NoneAfter (date : Date) : Type 0 where
    pub to : epoch_day date ≤ℤ epoch_day row.end
    pub none : (d : Date) → keeps removed row d ≡ true → epoch_day d ≤ℤ epoch_day date

  pub none_after_end : NoneAfter row.end
  none_after_end = record { to = omega (arith, signed_arith); none = λ d e. (kept_within d e).1 }

  pub one_earlier : (date : Date) → NoneAfter date → epoch_day row.start ≤ℤ epoch_day date
      → (slice_index_or row.weekdays (weekday_of date) false && not (is_removed removed row.service date)) ≡ false
      → (d : Date) → keeps removed row d ≡ true → epoch_day d <ℤ epoch_day date
  one_earlier date h within unkept d e =
      let le = h.none d e in
      let apart : ¬ (epoch_day d ≡ epoch_day date) = λ same.
      let is : d ≡ date = same_date d date same in
      let bad : keeps removed row date ≡ true = ap (keeps removed row) (sym is) ∙ e in
      let good = within_range date within h.to in
      (let bottom : ⊥ = cc in bottom) in
      omega (arith, signed_arith, le, apart)

  pub before_after : (date next : Date) → NoneAfter date → epoch_day row.start ≤ℤ epoch_day date → epoch_day next ≡ epoch_day date -ℤ pos 1
      → (slice_index_or row.weekdays (weekday_of date) false && not (is_removed removed row.service date)) ≡ false → NoneAfter next
  before_after date next h within is unkept = record {
    to = let to = h.to in omega (arith, signed_arith, to, is);
    none = λ d e. let lt = one_earlier date h within unkept d e in omega (arith, signed_arith, lt, is);
  }

  pub none_right : (date : Date) → NoneAfter date → epoch_day date <ℤ epoch_day row.start → (d : Date) → keeps removed row d ≡ false
  none_right date h past d = elim (cases_Bool (keeps removed row d)) [
    | inl here ↦ absurd (let a = h.none d here in let b = (kept_within d here).0 in let bottom : ⊥ = omega (arith, signed_arith, a, b, past) in bottom)
    | inr away ↦ away
  ]

  pub first_day : (date : Date) → NoneAfter date → epoch_day row.start ≤ℤ epoch_day date → ¬ (neg_ℤ (pos 4_371_587) <ℤ epoch_day date)
      → (slice_index_or row.weekdays (weekday_of date) false && not (is_removed removed row.service date)) ≡ false → (d : Date) → keeps removed row d ≡ false
  first_day date h within end unkept d = elim (cases_Bool (keeps removed row d)) [
    | inl here ↦ absurd (let a = one_earlier date h within unkept d here in let b = (epoch_day_range d).0 in let bottom : ⊥ = end (omega (arith, signed_arith, a, b)) in bottom)
    | inr away ↦ away
  ]

-- the dates that are left get fewer
pub fewer : (end date next : ℤ) → date ≤ℤ end → next ≡ date +ℤ pos 1 → unsigned_abs ((end +ℤ pos 1) -ℤ next) < unsigned_abs ((end +ℤ pos 1) -ℤ date)
fewer end date next le is = grind (arith, signed_arith, le, is, one_part ((end +ℤ pos 1) -ℤ next), one_part ((end +ℤ pos 1) -ℤ date))

pub fewer_before : (start date next : ℤ) → start ≤ℤ date → next ≡ date -ℤ pos 1 → unsigned_abs ((next +ℤ pos 1) -ℤ start) < unsigned_abs ((date +ℤ pos 1) -ℤ start)
fewer_before start date next le is = grind (arith, signed_arith, le, is, one_part ((next +ℤ pos 1) -ℤ start), one_part ((date +ℤ pos 1) -ℤ start))

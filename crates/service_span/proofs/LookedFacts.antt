-- Services and their dates, as one more is noted.
use Rattle.std.proofs.Common.{◌≡◌, ◌∙◌, sym, ap, refl, arith, ℕ, List, Bool, true, false, not, ◌&&◌, ◌||◌, cond, ℤ, pos, ◌+ℤ◌, unsigned_abs}
use Rattle.std.specs.Ordering.{nat_cmp, int_eq, is_eq, ordering_then}
use Rattle.std.specs.Cmp.{tied_then}
use Rattle.std.specs.Cmp.Lexicographic.{slice_cmp}
use Rattle.std.specs.Str.{bytes_eq}
use Rattle.std.specs.BTreeSet.{BTreeSet, UpdatesBy}
use Rattle.std.proofs.lemmas.Map.Text.{is_eq-slice_cmp}
use Rattle.jiff_core.specs.declared.civil.date.Date.{Date}
use Rattle.jiff_core.specs.Date.{epoch_day}
use denote.Ref.{Bor}
use Rattle.std.specs.Bool.{Decides}
use Rattle.std.proofs.lemmas.Bool.Decides.{Decides-like, Decides-int_eq, nat_tests, same_from_decides}
use Rattle.jiff_core.proofs.SignedLemmas.{one_part}
use Rattle.jiff_core.proofs.DateLemmas.{epoch_day_range}
use Rattle.jiff_core.proofs.SignedLemmas.{signed_arith}
use Rattle.gtfs_rows.specs.declared.values.CalendarDate.{CalendarDate}
use Rattle.service_days.specs.Runs.{removes, is_added, is_named}
use Rattle.service_span.specs.Looked.{day_number, is_member, is_removed}

or_by : (b c : Bool) → cond b true c ≡ (c || b)
or_by true true = refl
or_by true false = refl
or_by false true = refl
or_by false false = refl

-- a service more
pub named_more : (key : Bor (List ℕ)) (old new : BTreeSet (Bor (List ℕ)))
    → UpdatesBy (λ x y. slice_cmp nat_cmp x.now y.now) (λ k. slice_cmp nat_cmp key.now k.now) old new true
    → (q : List ℕ) → is_member new q ≡ (is_member old q || bytes_eq key.now q)
named_more key old new h q =
    let at : is_member new q ≡ cond (bytes_eq key.now q) true (is_member old q) = h.0 (record key { now = q }) ∙ ap (λ (b : Bool). cond b true (is_member old q)) (is_eq-slice_cmp key.now q) in
    at ∙ or_by (bytes_eq key.now q) (is_member old q)

-- dates of one number are one
pub day_number-same : (a b : Date) → day_number a ≡ day_number b → epoch_day a ≡ epoch_day b
day_number-same a b e =
    let low = epoch_day_range a in
    let other = epoch_day_range b in
    grind (arith, signed_arith, low, other, e, one_part (epoch_day a +ℤ pos 4_371_587), one_part (epoch_day b +ℤ pos 4_371_587))

nat_tied : (m n : ℕ) → Decides (is_eq (nat_cmp m n)) (m ≡ n)
nat_tied m n = grind (arith, nat_tests)

day_test : (a b : Date) → is_eq (nat_cmp (day_number a) (day_number b)) ≡ int_eq (epoch_day a) (epoch_day b)
day_test a b =
    same_from_decides {P = epoch_day a ≡ epoch_day b} _ _
    (Decides-like _ (day_number-same a b) (ap (λ (z : ℤ). unsigned_abs (z +ℤ pos 4_371_587))) (nat_tied (day_number a) (day_number b)))
    (Decides-int_eq (epoch_day a) (epoch_day b))

-- a date of a service more
pub removed_more : (key : Bor (List ℕ) × ℕ) (added : Date) (old new : BTreeSet (Bor (List ℕ) × ℕ)) → key.1 ≡ day_number added
    → UpdatesBy (λ x y. ordering_then (slice_cmp nat_cmp x.0.now y.0.now) (nat_cmp x.1 y.1))
    (λ k. ordering_then (slice_cmp nat_cmp key.0.now k.0.now) (nat_cmp key.1 k.1)) old new true
    → (q : List ℕ) (date : Date)
    → is_removed new q date ≡ (is_removed old q date || (bytes_eq key.0.now q && int_eq (epoch_day added) (epoch_day date)))
removed_more key added old new number h q date =
    let tie : is_eq (ordering_then (slice_cmp nat_cmp key.0.now q) (nat_cmp key.1 (day_number date)))
    ≡ (bytes_eq key.0.now q && int_eq (epoch_day added) (epoch_day date)) =
    sym (tied_then (slice_cmp nat_cmp key.0.now q) (nat_cmp key.1 (day_number date)))
    ∙ (ap (λ (b : Bool). b && is_eq (nat_cmp key.1 (day_number date))) (is_eq-slice_cmp key.0.now q)
    ∙ ap (λ (b : Bool). bytes_eq key.0.now q && b) (ap (λ (n : ℕ). is_eq (nat_cmp n (day_number date))) number ∙ day_test added date)) in
    let at : is_removed new q date ≡ cond (bytes_eq key.0.now q && int_eq (epoch_day added) (epoch_day date)) true (is_removed old q date) =
    h.0 (record key.0 { now = q }, day_number date) ∙ ap (λ (b : Bool). cond b true (is_removed old q date)) tie in
    at ∙ or_by (bytes_eq key.0.now q && int_eq (epoch_day added) (epoch_day date)) (is_removed old q date)

-- the tests of an exception that removes its date
pub removes_test : (row : CalendarDate) (service : List ℕ) (date : Date) → not (is_added row.change) ≡ true
    → removes service date row ≡ (bytes_eq row.service service && int_eq (epoch_day row.date) (epoch_day date))
removes_test row service date e = turned (int_eq (epoch_day row.date) (epoch_day date)) (bytes_eq row.service service) (not (is_added row.change)) e where
  turned : (a b n : Bool) → n ≡ true → ((a && b) && n) ≡ (b && a)
  turned true true n h = h
  turned true false n h = refl
  turned false true n h = refl
  turned false false n h = refl

-- of one that adds it
pub removes_not : (row : CalendarDate) (service : List ℕ) (date : Date) → not (is_added row.change) ≡ false → removes service date row ≡ false
removes_not row service date e = turned (is_named service date row) (not (is_added row.change)) e where
  turned : (a n : Bool) → n ≡ false → (a && n) ≡ false
  turned true n h = h
  turned false n h = refl

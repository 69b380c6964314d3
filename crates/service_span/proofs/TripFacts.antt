-- How many trips run, and whether one does.
use Rattle.std.proofs.Common.{◌≡◌, ◌∙◌, ◌⊎◌, inl, inr, sym, ap₂, refl, arith, ℕ, suc, ◌+◌, ◌<◌, ◌≤◌, List, [], ◌∷◌, Bool, true, false, length, count_by, slice_index_or, cond, ◌↔◌, ◌||◌, ◌++◌, subst, length-append}
use Rattle.std.specs.List.{list_any, All}
use Rattle.std.proofs.lemmas.List.Sums.{sum_by-cons}
use Rattle.jiff_core.specs.declared.civil.date.Date.{Date}
use Rattle.gtfs_tables.specs.Tables.{TableValues}
use Rattle.service_days.specs.Runs.{runs}
use Rattle.service_span.specs.Days.{service_of, is_service_day, trips_on}
use Rattle.service_span.specs.Laws.{ServiceDaysHaveTrips}
use Rattle.service_span.specs.declared.trips.DayTrips.{DayTrips}
use Rattle.service_days.specs.Noon.{IsDaysAfter}
use Rattle.std.proofs.lemmas.Bool.{cases_Bool, cases_order}
use Rattle.std.proofs.lemmas.List.{get_or_append_left, get_or_push}

pub below_or_same : (day n : ℕ) → day < n + 1 → (day < n) ⊎ (day ≡ n)
below_or_same day n lt = elim (cases_order day n) [
  | inl same ↦ inr same
  | inr (inl less) ↦ inl less
  | inr (inr more) ↦ absurd (omega arith)
]

-- some element passes exactly if their count isn't 0
some_counted : {X : Type 0} (p : X → Bool) (xs : List X) → (list_any p xs ≡ true) ↔ (1 ≤ count_by p xs)
some_counted p [] = (λ e. absurd (let bad : ⊥ = cc in bad), λ h. absurd (omega (arith, h)))
some_counted p (x ∷ xs) = one_more (p x) (count_by p (x ∷ xs)) (sum_by-cons (λ y. cond (p y) 1 0) x xs) (some_counted p xs) where
  one_more : (b : Bool) (n : ℕ) → n ≡ cond b 1 0 + count_by p xs → (list_any p xs ≡ true) ↔ (1 ≤ count_by p xs) → ((b || list_any p xs) ≡ true) ↔ (1 ≤ n)
  one_more true n e rest = (λ _. omega (arith, e), λ _. refl)
  one_more false n e rest = (λ is. (let h = rest.0 is in omega (arith, h, e)), λ h. rest.1 (omega (arith, h, e)))

pub service_days_have_trips : ServiceDaysHaveTrips
unfolding is_service_day trips_on
service_days_have_trips t date = some_counted (λ trip. runs t (service_of t trip) date) t.trips

-- tests that agree on each element count the same
same_count : {X : Type 0} (p q : X → Bool) (xs : List X) → All (λ x. p x ≡ q x) xs → count_by p xs ≡ count_by q xs
same_count p q [] h = refl
same_count p q (x ∷ xs) h =
    let here : p x ≡ q x = h 0 x (omega arith) in
    sum_by-cons (λ y. cond (p y) 1 0) x xs
    ∙ (ap₂ (λ (b : Bool) (n : ℕ). cond b 1 0 + n) here (same_count p q xs (λ k d lt. h (suc k) d (omega (arith, lt)))) ∙ sym (sum_by-cons (λ y. cond (q y) 1 0) x xs))

-- the answers of one day, in the order of the services, count the trips of that day
pub trips_counted : (t : TableValues) (date : Date) (running : List (List Bool)) (day : ℕ) → All (λ trip. trip.service < length t.services) t.trips
    → ((service : ℕ) → service < length t.services → slice_index_or (slice_index_or running service []) day false ≡ runs t (slice_index_or t.services service []) date)
    → count_by (λ trip. slice_index_or (slice_index_or running trip.service []) day false) t.trips ≡ trips_on t date
unfolding trips_on
trips_counted t date running day known answers =
    same_count (λ trip. slice_index_or (slice_index_or running trip.service []) day false) (λ trip. runs t (service_of t trip) date) t.trips
    (λ k d lt. answers (slice_index_or t.trips k d).service (known k d lt))

-- a date without a trip is no day of service
pub no_trip : (t : TableValues) (date : Date) → trips_on t date ≡ 0 → is_service_day t date ≡ false
no_trip t date none = elim (cases_Bool (is_service_day t date)) [
  | inl here ↦ absurd (let some = (service_days_have_trips t date).0 here in let bottom : ⊥ = omega (arith, some, none) in bottom)
  | inr away ↦ away
]

-- one day more
pub push_day : (first : Date) (items : List DayTrips) (n : ℕ) (day : DayTrips) → length items ≡ n
    → ((k : ℕ) (none : DayTrips) → k < length items → IsDaysAfter k first (slice_index_or items k none).date) → IsDaysAfter n first day.date
    → (k : ℕ) (none : DayTrips) → k < length (items ++ day ∷ []) → IsDaysAfter k first (slice_index_or (items ++ day ∷ []) k none).date
push_day first items n day long before here k none lt = elim (below_or_same k n (let l = length-append items (day ∷ []) in omega (arith, lt, long, l))) [
  | inl below ↦
      let in' : k < length items = omega (arith, below, long) in
      subst (λ (d : DayTrips). IsDaysAfter k first d.date) (sym (get_or_append_left items (day ∷ []) none k in')) (before k none in')
  | inr same ↦
      let at : length items ≡ k = omega (arith, long, same) in
      subst (λ (d : DayTrips). IsDaysAfter k first d.date) (sym (get_or_push items day none k at)) (subst (λ (m : ℕ). IsDaysAfter m first day.date) (sym same) here)
]

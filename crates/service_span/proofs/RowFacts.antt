-- The days of service, by the rows of the calendar and of its exceptions.
use Rattle.std.proofs.Common.{◌≡◌, ◌∙◌, inl, inr, sym, ap, refl, ℕ, List, true, not, ◌&&◌, ◌||◌, length, ◌<◌, Option, arith, slice_index_or}
use Rattle.std.specs.List.{list_any}
use Rattle.std.specs.BTreeSet.{BTreeSet}
use Rattle.std.specs.Cmp.Lexicographic.{nat_list_eq_equiv}
use Rattle.std.specs.Str.{bytes_eq}
use Rattle.std.proofs.lemmas.List.Folds.{Any-from_list_any, list_any-from_Any}
use Rattle.std.proofs.lemmas.Slice.Eq.{bytes_eq-Decides}
use denote.Ref.{Bor}
use Rattle.jiff_core.specs.declared.civil.date.Date.{Date}
use Rattle.jiff_core.specs.Calendar.{IsBetween}
use Rattle.jiff_core.specs.Date.{epoch_day}
use Rattle.jiff_core.proofs.SignedLemmas.{signed_arith}
use Rattle.std.specs.Ordering.{int_eq}
use Rattle.std.proofs.lemmas.Bool.Decides.{Decides-int_eq}
use Rattle.gtfs_rows.specs.declared.values.CalendarRow.{CalendarRow}
use Rattle.gtfs_rows.specs.declared.values.CalendarDate.{CalendarDate}
use Rattle.gtfs_rows.specs.declared.values.Trip.{Trip}
use Rattle.gtfs_tables.specs.Tables.{TableValues}
use Rattle.service_days.specs.Runs.{adds, plans, removes, runs, is_named, is_within, is_added}
use Rattle.service_span.specs.Days.{service_of, is_service_day}
use Rattle.service_span.specs.Looked.{is_member, is_removed, is_planned, is_extra, keeps}
use Rattle.service_span.specs.Spans.{IsSpanOf, IsSpanWhere}
use Rattle.service_span.specs.declared.span.Span.{Span}
use Rattle.service_span.proofs.SpanFacts.{same_span}
use Rattle.service_span.proofs.Bools.{and_left, and_right, and_both, or_left, or_right, or_cases, same_tests}

module _ (t : TableValues) (names : BTreeSet (Bor (List ℕ))) (removed : BTreeSet (Bor (List ℕ) × ℕ))
    (named : (service : List ℕ) → is_member names service ≡ list_any (λ trip. bytes_eq (service_of t trip) service) t.trips)
    (gone : (service : List ℕ) (date : Date) → is_removed removed service date ≡ list_any (removes service date) t.calendar_dates) where
  -- a service that is looked up runs on the date
  runs_for : (service : List ℕ) (date : Date) → is_member names service ≡ true → runs t service date ≡ true → list_any (λ trip. runs t (service_of t trip) date) t.trips ≡ true
  runs_for service date there here =
      let trip = Any-from_list_any (λ trip. bytes_eq (service_of t trip) service) t.trips (sym (named service) ∙ there) in
      let same : service_of t trip.1 ≡ service = (bytes_eq-Decides (service_of t trip.1) service).0 trip.4 in
      list_any-from_Any (λ trip. runs t (service_of t trip) date) t.trips (trip.0, trip.1, trip.2, trip.3, ap (λ s. runs t s date) same ∙ here)

  -- what an exception adds is a day of service
  from_extra : (date : Date) → list_any (is_extra names date) t.calendar_dates ≡ true → list_any (λ trip. runs t (service_of t trip) date) t.trips ≡ true
  from_extra date e =
      let row = Any-from_list_any (is_extra names date) t.calendar_dates e in
      let service = row.1.service in
      let there = and_left (is_member names service) (adds service date row.1) row.4 in
      let added = list_any-from_Any (adds service date) t.calendar_dates (row.0, row.1, row.2, row.3, and_right (is_member names service) (adds service date row.1) row.4) in
      runs_for service date there
      (or_left (list_any (adds service date) t.calendar_dates) (list_any (plans service date) t.calendar && not (list_any (removes service date) t.calendar_dates)) added)

  -- what the calendar has is one, if it isn't removed
  from_planned : (date : Date) → list_any (is_planned names removed date) t.calendar ≡ true → list_any (λ trip. runs t (service_of t trip) date) t.trips ≡ true
  from_planned date e =
      let row = Any-from_list_any (is_planned names removed date) t.calendar e in
      let service = row.1.service in
      let there = and_left (is_member names service) (keeps removed row.1 date) row.4 in
      let kept = and_right (is_member names service) (keeps removed row.1 date) row.4 in
      let planned = list_any-from_Any (plans service date) t.calendar (row.0, row.1, row.2, row.3, and_left (plans service date row.1) (not (is_removed removed service date)) kept) in
      let left : not (list_any (removes service date) t.calendar_dates) ≡ true =
      ap not (sym (gone service date)) ∙ and_right (plans service date row.1) (not (is_removed removed service date)) kept in
      runs_for service date there
      (or_right (list_any (adds service date) t.calendar_dates) (list_any (plans service date) t.calendar && not (list_any (removes service date) t.calendar_dates))
      (and_both (list_any (plans service date) t.calendar) (not (list_any (removes service date) t.calendar_dates)) planned left))

  -- a trip's service is looked up
  trips_are_named : (service : List ℕ) (n : ℕ) (trip : Trip) → n < length t.trips → slice_index_or t.trips n trip ≡ trip → service_of t trip ≡ service → is_member names service ≡ true
  trips_are_named service n trip lt is same =
      named service ∙ list_any-from_Any (λ trip. bytes_eq (service_of t trip) service) t.trips (n, trip, lt, is, (bytes_eq-Decides (service_of t trip) service).1 same)

  -- a day of service is one that an exception adds, or that the calendar has
  to_rows : (date : Date) → list_any (λ trip. runs t (service_of t trip) date) t.trips ≡ true
      → (list_any (is_planned names removed date) t.calendar || list_any (is_extra names date) t.calendar_dates) ≡ true
  to_rows date e =
      let trip = Any-from_list_any (λ trip. runs t (service_of t trip) date) t.trips e in
      let service = service_of t trip.1 in
      let planned' = list_any (is_planned names removed date) t.calendar in
      let extra' = list_any (is_extra names date) t.calendar_dates in
      elim (or_cases (list_any (adds service date) t.calendar_dates) (list_any (plans service date) t.calendar && not (list_any (removes service date) t.calendar_dates)) trip.4) [
        | inl added ↦
            let row = Any-from_list_any (adds service date) t.calendar_dates added in
            let names_it = and_left (is_named service date row.1) (is_added row.1.change) row.4 in
            let same : row.1.service ≡ service =
            (bytes_eq-Decides row.1.service service).0 (and_right _ (bytes_eq row.1.service service) names_it) in
            let there = trips_are_named row.1.service trip.0 trip.1 trip.2 trip.3 (sym same) in
            let adds_it : adds row.1.service date row.1 ≡ true = ap (λ s. adds s date row.1) same ∙ row.4 in
            or_right planned' extra' (list_any-from_Any (is_extra names date) t.calendar_dates
            (row.0, row.1, row.2, row.3, and_both (is_member names row.1.service) (adds row.1.service date row.1) there adds_it))
        | inr planned ↦
            let row = Any-from_list_any (plans service date) t.calendar (and_left (list_any (plans service date) t.calendar) (not (list_any (removes service date) t.calendar_dates)) planned) in
            let left = and_right (list_any (plans service date) t.calendar) (not (list_any (removes service date) t.calendar_dates)) planned in
            let same : row.1.service ≡ service =
            (bytes_eq-Decides row.1.service service).0 (and_left (bytes_eq row.1.service service) _ (and_right (is_within date row.1) _ row.4)) in
            let there = trips_are_named row.1.service trip.0 trip.1 trip.2 trip.3 (sym same) in
            let plans_it : plans row.1.service date row.1 ≡ true = ap (λ s. plans s date row.1) same ∙ row.4 in
            let kept_it : not (is_removed removed row.1.service date) ≡ true =
            ap not (gone row.1.service date ∙ ap (λ s. list_any (removes s date) t.calendar_dates) same) ∙ left in
            or_left planned' extra' (list_any-from_Any (is_planned names removed date) t.calendar (
              row.0,
              row.1,
              row.2,
              row.3,
              and_both (is_member names row.1.service) (keeps removed row.1 date) there
                  (and_both (plans row.1.service date row.1) (not (is_removed removed row.1.service date)) plans_it kept_it),
            ))
      ]

  pub by_rows : (date : Date) → (list_any (is_planned names removed date) t.calendar || list_any (is_extra names date) t.calendar_dates) ≡ is_service_day t date
  unfolding is_service_day
  by_rows date = same_tests _ _ (λ e. elim (or_cases _ _ e) [
    | inl planned ↦ from_planned date planned
    | inr extra ↦ from_extra date extra
  ]) (to_rows date)

-- the date that an exception adds to a service that is looked up
pub extra_span : (names : BTreeSet (Bor (List ℕ))) (row : CalendarDate) → is_member names row.service ≡ true → is_added row.change ≡ true
    → IsSpanOf (λ date. is_extra names date row) (record { first = row.date; last = row.date })
extra_span names row there added = record { first = here; last = here; within = λ date e. within date e } where
  here : is_extra names row.date row ≡ true
  here = and_both _ _ there (and_both _ _ (and_both _ _ ((Decides-int_eq (epoch_day row.date) (epoch_day row.date)).1 refl) (nat_list_eq_equiv.refl row.service)) added)

  within : (date : Date) → is_extra names date row ≡ true → IsBetween (epoch_day row.date) (epoch_day row.date) (epoch_day date)
  within date e =
      let named = and_left (is_named row.service date row) (is_added row.change) (and_right (is_member names row.service) (adds row.service date row) e) in
      let same = (Decides-int_eq (epoch_day row.date) (epoch_day date)).0 (and_left (int_eq (epoch_day row.date) (epoch_day date)) (bytes_eq row.service row.service) named) in
      (omega (arith, signed_arith, same), omega (arith, signed_arith, same))

-- the dates of a calendar row whose service is looked up
pub planned_if_named : (names : BTreeSet (Bor (List ℕ))) (removed : BTreeSet (Bor (List ℕ) × ℕ)) (row : CalendarRow) (span : Option Span) → is_member names row.service ≡ true
    → IsSpanWhere (keeps removed row) span → IsSpanWhere (λ date. is_planned names removed date row) span
planned_if_named names removed row span there h =
    same_span (keeps removed row) (λ date. is_planned names removed date row) span (λ date. ap (λ b. b && keeps removed row date) (sym there)) h

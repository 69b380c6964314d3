-- The first fault of each file's list, and that of its tests.
use Rattle.std.proofs.Common.{◌≡◌, ◌∙◌, sym, ap, refl, cond, arith, ℕ, suc, ◌-◌, Bool, true, false, not, ◌&&◌, List, [], ◌∷◌, ◌++◌, length, map, filter, Option, None, Some, append_assoc, codes}
use Rattle.std.specs.Prelude.{is_none, is_some, nat_le, if◌then◌else◌, ◌||◌}
use Rattle.std.specs.List.{flat_map, list_any}
use Rattle.std.specs.Str.{bytes_eq}
use Rattle.std.proofs.lemmas.List.Kept.{AllPairs-filter}
use Rattle.gtfs_text.specs.Sheets.{Table, row_count}
use Rattle.gtfs_rows.specs.declared.fault.FaultKind.TheVariants as kinds
use Rattle.gtfs_rows.specs.declared.fault.FeedFile.TheVariants as files
use Rattle.gtfs_rows.specs.Faults.{Test, first_fault, test}
use Rattle.gtfs_rows.specs.Rows.{AreApart, distinct, has_new_key, is_empty, opening_tests, optional_tests, rows_of, rows_to, table_in}
use Rattle.gtfs_rows.proofs.RowFacts.{first_holds, first_more, front_passes, second_holds}
use Rattle.gtfs_rows.proofs.TextFacts.{distinct_apart}
use Rattle.gtfs_stops.specs.declared.stops.RowKind.{RowKind}
use Rattle.gtfs_stops.specs.declared.stops.RowKind.TheVariants as row_kinds
use Rattle.gtfs_stops.specs.Stops.{IdLists, has_few_stops, id_lists, ids_of_kind, location_type, means, means_stop, parent_stands, parent_station, stop_id, stop_ids, stop_tests, stops_tests}
use Rattle.gtfs_stops.specs.Transfers.{transfer_tests, transfers_tests}
use Rattle.gtfs_services.specs.Trips.{service_id, trip_id, trip_ids, trip_tests, trips_tests}
use Rattle.gtfs_services.specs.Calendar.{calendar_row_tests, calendar_tests, column_names as calendar_columns}
use Rattle.gtfs_services.specs.CalendarDates.{calendar_date_tests, calendar_dates_tests, field_tests as date_field_tests, is_new_date, is_same, service_date, column_names as date_columns}
use Rattle.gtfs_calls.specs.StopTimes.{call_lists, call_tests, has_new_call_key, is_same_key as is_same_call, is_skipped, key_at as call_key_at, key_tests, keyed_tests, stay_tests, stop_times_tests}
use Rattle.gtfs_calls.specs.TripTests.{trip_tests as times_tests}
use Rattle.gtfs_frequencies.specs.Frequencies.{column_names as frequency_columns, field_tests as frequency_field_tests, frequencies_tests, frequency_tests, has_new_start, is_same_key as is_same_start, key_at as start_key_at}
use Rattle.gtfs_tables.specs.Feed.{Feed, feed_tests, services_tests}
use Rattle.feed_faults.specs.Files.{faults_of, file_faults, known_in, optional_faults, services_faults}
use Rattle.feed_faults.specs.Laws.{first_of}
use Rattle.file_faults.specs.Seen.{passing}
use Rattle.file_faults.specs.Tables.{calendar_dates_faults, calendar_faults, call_columns, call_row_tests, columns_test, date_tests, distinct_ids, frequencies_faults, has_few_ids, ids_known, row_faults, size_test, start_tests, stop_times_faults, stops_faults, transfers_faults, trip_faults, trips_faults, trips_known}
use Rattle.feed_faults.proofs.LawFacts.{Agree, agree-append, agree-each, agree-else, agree-file, agree-optional, agree-plain, agree-rows, agree-table, apart-to}

-- if all rows pass their tests, each row passes those at the front
passing-all : (tests front : ℕ → List Test) → ((row : ℕ) → first_fault (tests row) ≡ None → first_fault (front row) ≡ None) → (rows : List ℕ)
    → first_fault (flat_map tests rows) ≡ None → passing front rows ≡ rows
passing-all tests front go [] passed = refl
passing-all tests front go (row ∷ rows) passed =
    let here = front_passes (tests row) (flat_map tests rows) passed in
    let rest : first_fault (flat_map tests rows) ≡ None = sym (first_more (tests row) (flat_map tests rows) here) ∙ passed in
    let passes : first_fault (front row) ≡ None = go row here in
    rw passes (ap (λ (rs : List ℕ). row ∷ rs) (passing-all tests front go rows rest))

-- ---- stops.txt

stop_is_new : (table : Table) (row : ℕ) → first_fault (stop_tests table row) ≡ None → has_new_key table (stop_id table) row ≡ true
stop_is_new table row passes = second_holds (test kinds.BadField files.Stops row (not (is_empty (stop_id table row)))) (test kinds.DuplicateKey files.Stops row (has_new_key table (stop_id table) row))
    (test kinds.UnknownReference files.Stops row (parent_stands (means_stop (location_type table row)) (parent_station table row) (ids_of_kind row_kinds.Station table)) ∷ []) passes

stops-apart : (table : Table) → first_fault (flat_map (stop_tests table) (rows_of table)) ≡ None → AreApart (stop_id table) (rows_of table)
stops-apart table passed = apart-to table (stop_id table) (stop_tests table) (stop_is_new table) (row_count table) passed

kind-once : (kind : RowKind) (table : Table) → first_fault (flat_map (stop_tests table) (rows_of table)) ≡ None → distinct (ids_of_kind kind table) ≡ ids_of_kind kind table
kind-once kind table passed =
    let is : ℕ → Bool = λ row. means kind (location_type table row) in
    distinct_apart (stop_id table) (filter is (rows_of table))
    (AllPairs-filter (λ (a b : ℕ). bytes_eq (stop_id table b) (stop_id table a) ≡ false) is (rows_of table) (stops-apart table passed))

ids-once : (table : Table) → first_fault (flat_map (stop_tests table) (rows_of table)) ≡ None → distinct_ids table ≡ id_lists table
ids-once table passed = λ i. record {
  all = distinct_apart (stop_id table) (rows_of table) (stops-apart table passed) i;
  stops = kind-once row_kinds.Stop table passed i;
  stations = kind-once row_kinds.Station table passed i;
}

few-same : (table : Table) → first_fault (flat_map (stop_tests table) (rows_of table)) ≡ None → has_few_stops table ≡ has_few_ids table
few-same table passed = ap (λ (ids : List (List ℕ)). nat_le (length ids) 1_000_000) (sym (kind-once row_kinds.Stop table passed))

agree-stops : (table : Table) → Agree (stops_tests table) (stops_faults table)
agree-stops table =
    agree-plain files.Stops (codes "stop_id" ∷ []) stop_tests has_few_stops table (has_few_ids table) (row_faults (stop_tests table) (rows_of table))
    (agree-rows table (stop_tests table) (stop_tests table) (λ n p b. refl) (row_count table)) (few-same table)

-- what each part of a table's tests says
parts : (front : Test) (flat : List Test) (size : Test) → first_fault (front ∷ (flat ++ size ∷ [])) ≡ None → (front.holds ≡ true) × (first_fault flat ≡ None) × (size.holds ≡ true)
parts front flat size passed =
    let head = first_holds front (flat ++ size ∷ []) passed in
    let middle = front_passes flat (size ∷ []) head.1 in
    let last : first_fault (size ∷ []) ≡ None = sym (first_more flat (size ∷ []) middle) ∙ head.1 in
    (head.0, middle, (first_holds size [] last).0)

stops-known : (bytes : Option (List ℕ)) → first_fault (opening_tests files.Stops bytes ++ stops_tests (table_in bytes)) ≡ None
    → known_in files.Stops ids_known bytes ≡ Some (id_lists (table_in bytes))
stops-known bytes passed =
    let table = table_in bytes in
    let opened : first_fault (opening_tests files.Stops bytes) ≡ None = front_passes (opening_tests files.Stops bytes) (stops_tests table) passed in
    let of_table : first_fault (stops_tests table) ≡ None = sym (first_more (opening_tests files.Stops bytes) (stops_tests table) opened) ∙ passed in
    let p = parts (columns_test files.Stops (codes "stop_id" ∷ []) table) (flat_map (stop_tests table) (rows_of table)) (size_test files.Stops (has_few_stops table) table) of_table in
    let small : (nat_le (row_count table) 999_999_999 && has_few_ids table) ≡ true = ap (λ (b : Bool). nat_le (row_count table) 999_999_999 && b) (sym (few-same table p.1)) ∙ p.2 in
    rw (opened, p.0, small) (ap (λ (ids : IdLists). Some ids) (ids-once table p.1))

-- ---- trips.txt

trip_is_new : (table : Table) (row : ℕ) → first_fault (trip_tests table row) ≡ None → has_new_key table (trip_id table) row ≡ true
trip_is_new table row passes = second_holds (test kinds.BadField files.Trips row (not (is_empty (trip_id table row)))) (test kinds.DuplicateKey files.Trips row (has_new_key table (trip_id table) row))
    (test kinds.BadField files.Trips row (not (is_empty (service_id table row))) ∷ []) passes

trips-once : (table : Table) → first_fault (flat_map (trip_tests table) (rows_of table)) ≡ None → distinct (trip_ids table) ≡ trip_ids table
trips-once table passed = distinct_apart (trip_id table) (rows_of table) (apart-to table (trip_id table) (trip_tests table) (trip_is_new table) (row_count table) passed)

agree-trips : (table : Table) → Agree (trips_tests table) (trips_faults table)
agree-trips table =
    agree-plain files.Trips (codes "trip_id" ∷ codes "service_id" ∷ []) trip_tests (λ _. true) table true (row_faults (trip_tests table) (rows_of table))
    (agree-rows table (trip_tests table) (trip_tests table) (λ n p b. refl) (row_count table)) (λ _. refl)

trips-known : (bytes : Option (List ℕ)) → first_fault (opening_tests files.Trips bytes ++ trips_tests (table_in bytes)) ≡ None
    → known_in files.Trips trips_known bytes ≡ Some (trip_ids (table_in bytes))
trips-known bytes passed =
    let table = table_in bytes in
    let opened : first_fault (opening_tests files.Trips bytes) ≡ None = front_passes (opening_tests files.Trips bytes) (trips_tests table) passed in
    let of_table : first_fault (trips_tests table) ≡ None = sym (first_more (opening_tests files.Trips bytes) (trips_tests table) opened) ∙ passed in
    let p = parts (columns_test files.Trips (codes "trip_id" ∷ codes "service_id" ∷ []) table) (flat_map (trip_tests table) (rows_of table)) (size_test files.Trips true table) of_table in
    rw (opened, p.0, p.2) (ap (λ (ids : List (List ℕ)). Some ids) (trips-once table p.1))

-- ---- the days of services

agree-calendar : (table : Table) → Agree (calendar_tests table) (calendar_faults table)
agree-calendar table =
    agree-plain files.Calendar calendar_columns calendar_row_tests (λ _. true) table true (row_faults (calendar_row_tests table) (rows_of table))
    (agree-rows table (calendar_row_tests table) (calendar_row_tests table) (λ n p b. refl) (row_count table)) (λ _. refl)

same-dates : (table : Table) (n : ℕ) → first_fault (flat_map (calendar_date_tests table) (rows_to table n)) ≡ None → date_tests table (suc n) ≡ calendar_date_tests table (suc n)
same-dates table n passed =
    let tests = calendar_date_tests table in
    let z : suc n - 1 ≡ n = omega arith in
    let all : passing (date_field_tests table) (rows_to table (suc n - 1)) ≡ rows_to table (suc n - 1) =
    passing-all tests (date_field_tests table) (λ row p. front_passes (date_field_tests table row) (test kinds.DuplicateKey files.CalendarDates row (is_new_date table row) ∷ []) p) (rows_to table (suc n - 1))
    (ap (λ (m : ℕ). first_fault (flat_map tests (rows_to table m))) z ∙ passed) in
    ap (λ (rows : List ℕ). date_field_tests table (suc n) ++ test kinds.DuplicateKey files.CalendarDates (suc n) (not (list_any (is_same (service_date table (suc n))) (map (service_date table) rows))) ∷ []) all

agree-dates : (table : Table) → Agree (calendar_dates_tests table) (calendar_dates_faults table)
agree-dates table =
    agree-plain files.CalendarDates date_columns calendar_date_tests (λ _. true) table true (row_faults (date_tests table) (rows_of table))
    (agree-rows table (calendar_date_tests table) (date_tests table) (λ n p b. same-dates table n p) (row_count table)) (λ _. refl)

agree-services : (calendar dates : Option (List ℕ)) → Agree (services_tests calendar dates) (services_faults calendar dates)
agree-services calendar dates =
    agree-else (test kinds.MissingFile files.Calendar 0 (is_some calendar || is_some dates) ∷ [])
    (optional_tests files.Calendar calendar_tests calendar ++ optional_tests files.CalendarDates calendar_dates_tests dates)
    (optional_faults files.Calendar calendar_faults calendar ++ optional_faults files.CalendarDates calendar_dates_faults dates)
    (λ _. agree-append (optional_tests files.Calendar calendar_tests calendar) (optional_tests files.CalendarDates calendar_dates_tests dates)
    (optional_faults files.Calendar calendar_faults calendar) (optional_faults files.CalendarDates calendar_dates_faults dates)
    (agree-optional files.Calendar calendar_tests calendar_faults calendar agree-calendar)
    (λ _. agree-optional files.CalendarDates calendar_dates_tests calendar_dates_faults dates agree-dates))

-- ---- stop_times.txt

module _ (stops trips : List (List ℕ)) (table : Table) where
  abbrev kept : ℕ → Bool
  kept row = not (is_skipped table row)

  skipped-out : (row : ℕ) (t : Bool) (rows : List ℕ) → is_skipped table row ≡ true → filter kept (cond t (row ∷ rows) rows) ≡ filter kept rows
  skipped-out row true rows e = rw e refl
  skipped-out row false rows e = refl

  kept-passing : (rows : List ℕ) → first_fault (flat_map (call_tests stops trips table) rows) ≡ None
      → filter kept (passing (key_tests stops trips table) rows) ≡ filter kept rows
  kept-passing [] passed = refl
  kept-passing (row ∷ rows) passed =
      let tests = call_tests stops trips table in
      let here : first_fault (tests row) ≡ None = front_passes (tests row) (flat_map tests rows) passed in
      let later = kept-passing rows (sym (first_more (tests row) (flat_map tests rows) here) ∙ passed) in
      elim (is_skipped table row) as (λ b. is_skipped table row ≡ b → filter kept (passing (key_tests stops trips table) (row ∷ rows)) ≡ cond (not b) (row ∷ filter kept rows) (filter kept rows)) [
        | true ↦ λ e. skipped-out row (is_none (first_fault (key_tests stops trips table row))) (passing (key_tests stops trips table) rows) e ∙ later
        | false ↦ λ e.
            let of_key : first_fault (key_tests stops trips table row) ≡ None =
            front_passes (key_tests stops trips table row) (test kinds.DuplicateKey files.StopTimes row (has_new_call_key trips table row) ∷ stay_tests table row) (rw e at here) in
            rw (of_key, e) (ap (λ (rs : List ℕ). row ∷ rs) later)
      ] refl

  same-calls : (n : ℕ) → first_fault (flat_map (call_tests stops trips table) (rows_to table n)) ≡ None → call_row_tests stops trips table (suc n) ≡ call_tests stops trips table (suc n)
  same-calls n passed =
      let z : suc n - 1 ≡ n = omega arith in
      ap (λ (rows : List ℕ). if is_skipped table (suc n) then [] else keyed_tests (not (list_any (is_same_call (call_key_at trips table (suc n))) (map (call_key_at trips table) rows))) stops trips table (suc n))
      (kept-passing (rows_to table (suc n - 1)) (ap (λ (m : ℕ). first_fault (flat_map (call_tests stops trips table) (rows_to table m))) z ∙ passed))

  agree-calls : (ids : IdLists) → ids.stops ≡ stops → Agree (stop_times_tests stops trips table) (stop_times_faults (Some ids) (Some trips) table)
  agree-calls ids same =
      rw same (agree-table files.StopTimes call_columns (call_tests stops trips) (λ _. true) table (flat_map times_tests (call_lists stops trips table)) true
      (row_faults (call_row_tests stops trips table) (rows_of table)) (trip_faults stops trips table)
      (agree-rows table (call_tests stops trips table) (call_row_tests stops trips table) (λ n p b. same-calls n p) (row_count table)) (λ _. refl)
      (λ passed. rw passed (agree-each times_tests (call_lists stops trips table))))

-- ---- transfers.txt and frequencies.txt

agree-transfers : (ids : IdLists) (table : Table) → Agree (transfers_tests ids table) (transfers_faults (Some ids) table)
agree-transfers ids table =
    agree-plain files.Transfers (codes "from_stop_id" ∷ codes "to_stop_id" ∷ []) (transfer_tests ids) (λ _. true) table true (row_faults (transfer_tests ids table) (rows_of table))
    (agree-rows table (transfer_tests ids table) (transfer_tests ids table) (λ n p b. refl) (row_count table)) (λ _. refl)

same-starts : (trips : List (List ℕ)) (table : Table) (n : ℕ) → first_fault (flat_map (frequency_tests trips table) (rows_to table n)) ≡ None → start_tests trips table (suc n) ≡ frequency_tests trips table (suc n)
same-starts trips table n passed =
    let tests = frequency_tests trips table in
    let fields = frequency_field_tests trips table in
    let z : suc n - 1 ≡ n = omega arith in
    let all : passing fields (rows_to table (suc n - 1)) ≡ rows_to table (suc n - 1) =
    passing-all tests fields (λ row p. front_passes (fields row) (test kinds.DuplicateKey files.Frequencies row (has_new_start trips table row) ∷ []) p) (rows_to table (suc n - 1))
    (ap (λ (m : ℕ). first_fault (flat_map tests (rows_to table m))) z ∙ passed) in
    ap (λ (rows : List ℕ). fields (suc n) ++ test kinds.DuplicateKey files.Frequencies (suc n) (not (list_any (is_same_start (start_key_at trips table (suc n))) (map (start_key_at trips table) rows))) ∷ []) all

agree-frequencies : (trips : List (List ℕ)) (table : Table) → Agree (frequencies_tests trips table) (frequencies_faults (Some trips) table)
agree-frequencies trips table =
    agree-plain files.Frequencies frequency_columns (frequency_tests trips) (λ _. true) table true (row_faults (start_tests trips table) (rows_of table))
    (agree-rows table (frequency_tests trips table) (start_tests trips table) (λ n p b. same-starts trips table n p) (row_count table)) (λ _. refl)

-- ---- the feed

pub agree-feed : (feed : Feed) → first_of (faults_of feed) ≡ first_fault (feed_tests feed)
unfolding faults_of feed_tests
agree-feed feed =
    let ids = id_lists (table_in feed.stops) in
    let trips = trip_ids (table_in feed.trips) in
    let Os = opening_tests files.Stops feed.stops in
    let S = stops_tests (table_in feed.stops) in
    let Ot = opening_tests files.Trips feed.trips in
    let T = trips_tests (table_in feed.trips) in
    let V = services_tests feed.calendar feed.calendar_dates in
    let C = opening_tests files.StopTimes feed.stop_times ++ stop_times_tests (stop_ids (table_in feed.stops)) trips (table_in feed.stop_times) in
    let X = optional_tests files.Transfers (transfers_tests ids) feed.transfers in
    let F = optional_tests files.Frequencies (frequencies_tests trips) feed.frequencies in
    let known_stops = known_in files.Stops ids_known feed.stops in
    let known_trips = known_in files.Trips trips_known feed.trips in
    let fs = file_faults files.Stops stops_faults feed.stops in
    let ft = file_faults files.Trips trips_faults feed.trips in
    let fv = services_faults feed.calendar feed.calendar_dates in
    let fc = file_faults files.StopTimes (stop_times_faults known_stops known_trips) feed.stop_times in
    let fx = optional_faults files.Transfers (transfers_faults known_stops) feed.transfers in
    let ff = optional_faults files.Frequencies (frequencies_faults known_trips) feed.frequencies in
    agree-append (Os ++ S) (Ot ++ (T ++ (V ++ (C ++ (X ++ F))))) fs (ft ++ (fv ++ (fc ++ (fx ++ ff))))
    (agree-file files.Stops stops_tests stops_faults feed.stops (agree-stops (table_in feed.stops)))
    (λ stops_pass. agree-append (Ot ++ T) (V ++ (C ++ (X ++ F))) ft (fv ++ (fc ++ (fx ++ ff)))
    (agree-file files.Trips trips_tests trips_faults feed.trips (agree-trips (table_in feed.trips)))
    (λ trips_pass.
    let ks : known_stops ≡ Some ids = stops-known feed.stops stops_pass in
    let kt : known_trips ≡ Some trips = trips-known feed.trips trips_pass in
    agree-append V (C ++ (X ++ F)) fv (fc ++ (fx ++ ff)) (agree-services feed.calendar feed.calendar_dates)
    (λ _. agree-append C (X ++ F) fc (fx ++ ff)
    (rw (ks, kt) (agree-file files.StopTimes (stop_times_tests (stop_ids (table_in feed.stops)) trips) (stop_times_faults (Some ids) (Some trips)) feed.stop_times
    (agree-calls (stop_ids (table_in feed.stops)) trips (table_in feed.stop_times) ids refl)))
    (λ _. agree-append X F fx ff (rw ks (agree-optional files.Transfers (transfers_tests ids) (transfers_faults (Some ids)) feed.transfers (agree-transfers ids)))
    (λ _. rw kt (agree-optional files.Frequencies (frequencies_tests trips) (frequencies_faults (Some trips)) feed.frequencies (agree-frequencies trips))))))
    ∙ ap first_fault (append_assoc Ot T (V ++ (C ++ (X ++ F)))))
    ∙ ap first_fault (append_assoc Os S (Ot ++ (T ++ (V ++ (C ++ (X ++ F))))))

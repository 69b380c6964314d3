-- Which keys of rows a set holds: those of the rows that were passed, if the tests before that of the key hold. Only private clauses cite
-- these words.
use Rattle.std.specs.Prelude.{◌≡◌, Bool, ℕ, not, ◌&&◌, List, [], map, filter, fold, is_none, ℤ, pos}
use Rattle.std.specs.Ordering.{int_eq}
use Rattle.std.specs.Str.{bytes_eq}
use Rattle.indexmap.specs.IndexSet.{insert_key}
use Rattle.jiff_core.specs.declared.civil.date.Date.{Date}
use Rattle.gtfs_text.specs.Sheets.{Table}
use Rattle.gtfs_rows.specs.Faults.{Test, first_fault}
use Rattle.gtfs_services.specs.CalendarDates.{field_tests as date_field_tests, service_date}
use Rattle.gtfs_calls.specs.StopTimes.{is_same_key as is_same_call, is_skipped, key_at as call_key_at, key_tests}
use Rattle.gtfs_frequencies.specs.Frequencies.{field_tests as frequency_field_tests, is_same_key as is_same_start, key_at as start_key_at}
use denote.Ref.{Bor}

-- each of these keys once, in the order in which they first come
abbrev pub once : {K : Type 0} → (K → K → Bool) → List K → List K
once eq keys = fold (insert_key eq) [] keys

-- of these rows those that pass tests
abbrev pub passing : (ℕ → List Test) → List ℕ → List ℕ
passing tests rows = filter (λ row. is_none (first_fault (tests row))) rows

-- the keys of rows of stop_times.txt, and of frequencies.txt
abbrev pub call_keys : List (List ℕ) → List (List ℕ) → Table → List ℕ → List (ℕ × ℕ)
call_keys stops trips table rows =
    once is_same_call (map (call_key_at trips table) (filter (λ row. not (is_skipped table row)) (passing (key_tests stops trips table) rows)))

abbrev pub start_keys : List (List ℕ) → Table → List ℕ → List (ℕ × ℕ)
start_keys trips table rows = once is_same_start (map (start_key_at trips table) (passing (frequency_field_tests trips table) rows))

-- a key of a row of calendar_dates.txt, and what it says: a service, and the year, month and day of a date
abbrev pub DateKey : Type 0
DateKey = Bor (List ℕ) × ℤ × ℤ × ℤ

abbrev pub Parts : Type 0
Parts = List ℕ × ℤ × ℤ × ℤ

abbrev pub same_parts : Parts → Parts → Bool
same_parts a b = ((bytes_eq a.0 b.0 && int_eq a.1 b.1) && int_eq a.2 b.2) && int_eq a.3 b.3

abbrev pub parts_of : List ℕ × Date → Parts
parts_of p = (p.0, p.1.year, pos p.1.month, pos p.1.day)

abbrev pub parts_in : List DateKey → List Parts
parts_in keys = map (λ k. (k.0.now, k.1, k.2, k.3)) keys

-- a set has those of these rows
abbrev pub HasDates : Table → List ℕ → List DateKey → Type 0
HasDates table rows keys =
    parts_in keys ≡ once same_parts (map (λ row. parts_of (service_date table row)) (passing (date_field_tests table) rows))

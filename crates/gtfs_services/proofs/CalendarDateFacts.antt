-- Rows of calendar_dates.txt.
use Rattle.std.proofs.Common.{◌≡◌, ◌∙◌, sym, ap, refl, ℕ, Bool, true, false, not, ◌&&◌, ◌||◌, ℤ, pos, List, [], ◌∷◌, ◌++◌, map, Option, None, Some, Bor, rules, cond, codes}
use Rattle.std.specs.Prelude.{is_some, unwrap_or}
use Rattle.std.specs.List.{list_all, list_any}
use Rattle.std.specs.Ordering.{int_eq}
use Rattle.std.specs.Str.{bytes_eq}
use Rattle.std.proofs.lemmas.Bool.Decides.{Decides-int_eq}
use Rattle.std.proofs.lemmas.List.{map_push}
use Rattle.std.proofs.lemmas.Simd.{map-map}
use Rattle.indexmap.specs.IndexSet.{insert_key}
use Rattle.jiff_core.specs.Date.{epoch_day}
use Rattle.jiff_core.specs.declared.civil.date.Date.{Date}
use Rattle.jiff_core.proofs.DateLemmas.{epoch_day_injective, epoch_day_same}
use Rattle.gtfs_text.specs.Sheets.{Table, column_of}
use Rattle.gtfs_text.specs.Values.{date_of, ymd}
use Rattle.gtfs_rows.specs.declared.values.CalendarDate.{CalendarDate}
use Rattle.gtfs_rows.specs.declared.values.DateChange.{DateChange}
use Rattle.gtfs_rows.specs.declared.values.DateChange.TheVariants.{Removed}
use Rattle.gtfs_rows.specs.declared.fault.FaultKind.TheVariants as kinds
use Rattle.gtfs_rows.specs.declared.fault.FeedFile.TheVariants as files
use Rattle.gtfs_rows.specs.Faults.{first_fault, fault_at, test}
use Rattle.gtfs_rows.specs.Rows.{is_empty}
use Rattle.gtfs_rows.proofs.FilledFacts.{IsTurn}
use Rattle.gtfs_rows.proofs.RowFacts.{first_more, is_there}
use Rattle.gtfs_rows.proofs.TextFacts.{any-map}
use Rattle.gtfs_services.specs.declared.calendar_dates.DateColumns.{DateColumns}
use Rattle.gtfs_services.specs.Dates.{is_date}
use Rattle.gtfs_services.specs.CalendarDates.{service_id, date, exception_type, change_of, service_date, is_same, is_new_date, field_tests, calendar_date_tests, calendar_date_value, column_names, AreDateColumns}
use Rattle.gtfs_services.proofs.DateFacts.{date_is}

-- a key of such a set: a service, and the year, month and day of a date
abbrev pub Key : Type 0
Key = Bor (List ℕ) × ℤ × ℤ × ℤ

abbrev pub same_key : Key → Key → Bool
same_key a b = ((bytes_eq a.0.now b.0.now && int_eq a.1 b.1) && int_eq a.2 b.2) && int_eq a.3 b.3

-- the same, of what a key says
abbrev pub Parts : Type 0
Parts = List ℕ × ℤ × ℤ × ℤ

abbrev pub same_parts : Parts → Parts → Bool
same_parts a b = ((bytes_eq a.0 b.0 && int_eq a.1 b.1) && int_eq a.2 b.2) && int_eq a.3 b.3

abbrev pub parts_of : List ℕ × Date → Parts
parts_of p = (p.0, p.1.year, pos p.1.month, pos p.1.day)

abbrev pub parts_in : List Key → List Parts
parts_in keys = map (λ k. (k.0.now, k.1, k.2, k.3)) keys

-- tests that hold together are one
both_ways : (p q : Bool) → (p ≡ true → q ≡ true) → (q ≡ true → p ≡ true) → p ≡ q
both_ways true q f g = sym (f refl)
both_ways false true f g = g refl
both_ways false false f g = refl

-- numbers that pass `==` are the same
int_is : (x y : ℤ) → int_eq x y ≡ true → x ≡ y
int_is x y h = search (rules, Decides-int_eq x y, h)

int_same : (x y : ℤ) → x ≡ y → int_eq x y ≡ true
int_same x y h = search (rules, Decides-int_eq x y, h)

and_parts : (a b c : Bool) → ((a && b) && c) ≡ true → (a ≡ true) × (b ≡ true) × (c ≡ true)
and_parts true true true h = (refl, refl, refl)
and_parts true true false h = absurd (cc h)
and_parts true false c h = absurd (cc h)
and_parts false b c h = absurd (cc h)

-- dates have one year, month and day exactly if they are one day
same_days : (a b : Date) → ((int_eq a.year b.year && int_eq (pos a.month) (pos b.month)) && int_eq (pos a.day) (pos b.day)) ≡ int_eq (epoch_day a) (epoch_day b)
same_days a b =
    both_ways ((int_eq a.year b.year && int_eq (pos a.month) (pos b.month)) && int_eq (pos a.day) (pos b.day)) (int_eq (epoch_day a) (epoch_day b))
    (λ h. let p = and_parts (int_eq a.year b.year) (int_eq (pos a.month) (pos b.month)) (int_eq (pos a.day) (pos b.day)) h in
    let month : a.month ≡ b.month = cc (int_is (pos a.month) (pos b.month) p.1) in
    let day : a.day ≡ b.day = cc (int_is (pos a.day) (pos b.day) p.2) in
    int_same (epoch_day a) (epoch_day b) (epoch_day_same a b (int_is a.year b.year p.0) month day))
    (λ h. let p = epoch_day_injective a b (int_is (epoch_day a) (epoch_day b) h) in
    rw (int_same a.year b.year p.0, int_same (pos a.month) (pos b.month) (ap pos p.1), int_same (pos a.day) (pos b.day) (ap pos p.2)) refl)

-- and so what two rows name
same_is : (a b : List ℕ × Date) → same_parts (parts_of a) (parts_of b) ≡ is_same a b
same_is a b = elim (bytes_eq a.0 b.0) as (λ t. (((t && int_eq a.1.year b.1.year) && int_eq (pos a.1.month) (pos b.1.month)) && int_eq (pos a.1.day) (pos b.1.day)) ≡ (t && int_eq (epoch_day a.1) (epoch_day b.1)))
    [ true ↦ same_days a.1 b.1 | false ↦ refl ]

pub any_is : (a : List ℕ × Date) (bs : List (List ℕ × Date)) → list_any (same_parts (parts_of a)) (map parts_of bs) ≡ list_any (is_same a) bs
any_is a [] = refl
any_is a (b ∷ bs) = λ k. same_is a b k || any_is a bs k

-- what the rows name
abbrev pub row_parts : Table → ℕ → Parts
row_parts table row = parts_of (service_date table row)

-- a set of the keys of the rows so far lacks a key exactly if no row before this one names its service and its day
pub key_is_new : (table : Table) (given : List ℕ) (row : ℕ) (keys : List Key) (key : Key) → IsTurn table given row → parts_in keys ≡ map (row_parts table) given
    → ◌≡◌ {A = Parts} (key.0.now, key.1, key.2, key.3) (row_parts table row) → not (list_any (same_key key) keys) ≡ is_new_date table row
key_is_new table given row keys key turn holds same =
    ap not (sym (any-map (same_parts (key.0.now, key.1, key.2, key.3)) (λ (k : Key). (k.0.now, k.1, k.2, k.3)) keys) ∙ ap (list_any (same_parts (key.0.now, key.1, key.2, key.3))) holds
    ∙ ap (λ (p : Parts). list_any (same_parts p) (map (row_parts table) given)) same
    ∙ ap (list_any (same_parts (row_parts table row))) (sym (map-map parts_of (service_date table) given))
    ∙ any_is (service_date table row) (map (service_date table) given)
    ∙ ap (λ rows. list_any (is_same (service_date table row)) (map (service_date table) rows)) turn.before)

-- a new key joins those before it
pub key_joins : (table : Table) (given : List ℕ) (row : ℕ) (keys : List Key) (key : Key) → parts_in keys ≡ map (row_parts table) given
    → ◌≡◌ {A = Parts} (key.0.now, key.1, key.2, key.3) (row_parts table row) → not (list_any (same_key key) keys) ≡ true
    → parts_in (insert_key same_key keys key) ≡ map (row_parts table) (given ++ row ∷ [])
key_joins table given row keys key holds same new =
    let lacks : list_any (same_key key) keys ≡ false = isnt (list_any (same_key key) keys) new in
    rw lacks (map_push (λ (k : Key). (k.0.now, k.1, k.2, k.3)) keys key ∙ ap (λ (parts : List Parts). parts ++ (key.0.now, key.1, key.2, key.3) ∷ []) holds
    ∙ ap (λ (p : Parts). map (row_parts table) given ++ p ∷ []) same ∙ sym (map_push (row_parts table) given row))
  where
    isnt : (b : Bool) → not b ≡ true → b ≡ false
    isnt true h = cc h
    isnt false h = refl

-- a value is what its fields are
row_value : {service : List ℕ} {day : Date} {change : DateChange} (value : CalendarDate) → service ≡ value.service → day ≡ value.date → change ≡ value.change → record { service = service; date = day; change = change } ≡ value
row_value value p q r = λ k. record { service = p k; date = q k; change = r k }

-- a row whose fields pass their tests, and its value
pub fields_pass : (table : Table) (row : ℕ) (service : List ℕ) (day : Date) (change : DateChange) → is_empty (service_id table row) ≡ false → service ≡ service_id table row
    → Some (ymd day) ≡ date_of (date table row) → Some change ≡ change_of (exception_type table row)
    → (first_fault (field_tests table row) ≡ None) × (◌≡◌ {A = CalendarDate} (record { service = service; date = day; change = change }) (calendar_date_value table row))
fields_pass table row service day change there named days changes =
    let dated : is_date (date table row) ≡ true = ap is_some (sym days) in
    let changed : is_some (change_of (exception_type table row)) ≡ true = ap is_some (sym changes) in
    (rw (there, dated, changed) refl, row_value (calendar_date_value table row) named (date_is day (date table row) days) (ap (λ (o : Option DateChange). unwrap_or o Removed) changes))

-- the last test of a row whose fields pass theirs
pub last_test : (table : Table) (row : ℕ) (b : Bool) → first_fault (field_tests table row) ≡ None → is_new_date table row ≡ b → first_fault (calendar_date_tests table row) ≡ cond b None (Some (fault_at kinds.DuplicateKey files.CalendarDates row))
last_test table row b passes new = first_more (field_tests table row) (test kinds.DuplicateKey files.CalendarDates row (is_new_date table row) ∷ []) passes ∙ rw new refl

-- the key of a row: what the row names
pub key_is : (table : Table) (row : ℕ) (service : List ℕ) (year month day : ℤ) (text : List ℕ) (value : CalendarDate) → service ≡ text → text ≡ service_id table row → year ≡ value.date.year → month ≡ pos value.date.month → day ≡ pos value.date.day → value ≡ calendar_date_value table row
    → ◌≡◌ {A = Parts} (service, year, month, day) (row_parts table row)
key_is table row service year month day text value s t p q r is =
    let same : value.date ≡ (service_date table row).1 = ap (λ (v : CalendarDate). v.date) is in
    λ k. ((s ∙ t) k, (p ∙ ap (λ (d : Date). d.year) same) k, (q ∙ ap (λ (d : Date). pos d.month) same) k, (r ∙ ap (λ (d : Date). pos d.day) same) k)

-- each column is there
pub are_there : (table : Table) (columns : DateColumns) (a b c : Bool) → AreDateColumns table columns → is_some columns.service ≡ not a → is_some columns.date ≡ not b → is_some columns.exception_type ≡ not c → a ≡ false → b ≡ false → c ≡ false
    → list_all (λ name. is_some (column_of table name)) column_names ≡ true
are_there table columns a b c are ia ib ic ea eb ec = rw (is_there columns.service (column_of table (codes "service_id")) a are.service ia ea, is_there columns.date (column_of table (codes "date")) b are.date ib eb, is_there columns.exception_type (column_of table (codes "exception_type")) c are.exception_type ic ec) refl

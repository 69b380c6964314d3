-- Rows of frequencies.txt.
use Rattle.std.proofs.Common.{◌≡◌, ◌∙◌, sym, ap, refl, ℕ, ◌≤◌, Bool, true, false, not, List, [], ◌∷◌, ◌++◌, map, Option, None, Some, cond, codes, nat_le}
use Rattle.std.specs.Prelude.{is_some, option_and_then, unwrap_or}
use Rattle.std.specs.List.{list_all, list_any}
use Rattle.std.proofs.lemmas.Bool.{leb-true}
use Rattle.std.proofs.lemmas.List.{map_push}
use Rattle.indexmap.specs.IndexSet.{insert_key}
use Rattle.gtfs_text.specs.Sheets.{Table, column_of}
use Rattle.gtfs_text.specs.Values.{whole_of, time_of}
use Rattle.gtfs_rows.specs.declared.values.Frequency.{Frequency}
use Rattle.gtfs_rows.specs.declared.fault.FaultKind.TheVariants as kinds
use Rattle.gtfs_rows.specs.declared.fault.FeedFile.TheVariants as files
use Rattle.gtfs_rows.specs.Faults.{first_fault, fault_at, test}
use Rattle.gtfs_rows.specs.Rows.{number_in}
use Rattle.gtfs_rows.proofs.FilledFacts.{IsTurn}
use Rattle.gtfs_rows.proofs.RowFacts.{first_more, is_there}
use Rattle.gtfs_frequencies.specs.declared.frequencies.FrequencyColumns.{FrequencyColumns}
use Rattle.gtfs_frequencies.specs.Frequencies.{trip_id, start_time, end_time, headway_secs, exact_times, headway_of, is_exact, is_exactness, key_at, is_same_key, has_new_start, field_tests, frequency_tests, frequency_value, column_names, AreFrequencyColumns}

-- a headway is at least 1
from_one : (n : ℕ) (headway : ℕ) → Some headway ≡ cond (nat_le 1 n) (Some n) None → 1 ≤ headway
from_one n headway h = elim (nat_le 1 n) as (λ b. nat_le 1 n ≡ b → Some headway ≡ cond b (Some n) None → 1 ≤ headway) [
  | true ↦ λ e same. let is : headway ≡ n = cc same in rw is (leb-true 1 n e)
  | false ↦ λ e same. absurd (cc same)
] refl h

pub headway_some : (text : List ℕ) (headway : ℕ) → Some headway ≡ headway_of text → 1 ≤ headway
headway_some text headway h = elim (whole_of text) as (λ (o : Option ℕ). Some headway ≡ option_and_then (λ n. cond (nat_le 1 n) (Some n) None) o → 1 ≤ headway) [
  | None ↦ λ same. absurd (cc same)
  | Some n ↦ λ same. from_one n headway same
] h

-- a value is what its fields are
row_value : {trip start end headway : ℕ} {exact : Bool} (value : Frequency) → trip ≡ value.trip → start ≡ value.start → end ≡ value.end
    → headway ≡ value.headway → exact ≡ value.exact
    → record { trip = trip; start = start; end = end; headway = headway; exact = exact } ≡ value
row_value value p q r s e = λ k. record { trip = p k; start = q k; end = r k; headway = s k; exact = e k }

-- a row whose fields pass their tests, and its value
pub fields_pass : (trips : List (List ℕ)) (table : Table) (row trip start end headway : ℕ) (text : List ℕ) (exact : Bool)
    → Some trip ≡ number_in trips (trip_id table row) → Some start ≡ time_of (start_time table row) → Some end ≡ time_of (end_time table row)
    → Some headway ≡ headway_of (headway_secs table row) → text ≡ exact_times table row → is_exactness text ≡ true → exact ≡ is_exact text
    → (first_fault (field_tests trips table row) ≡ None)
    × (◌≡◌ {A = Frequency} (record { trip = trip; start = start; end = end; headway = headway; exact = exact }) (frequency_value trips table row))
fields_pass trips table row trip start end headway text exact a b c d written holds e =
    let passes : is_exactness (exact_times table row) ≡ true = ap is_exactness (sym written) ∙ holds in
    let known : is_some (number_in trips (trip_id table row)) ≡ true = ap is_some (sym a) in
    let begun : is_some (time_of (start_time table row)) ≡ true = ap is_some (sym b) in
    let ended : is_some (time_of (end_time table row)) ≡ true = ap is_some (sym c) in
    let spaced : is_some (headway_of (headway_secs table row)) ≡ true = ap is_some (sym d) in (
      rw (known, begun, ended, spaced, passes) refl,
      row_value (frequency_value trips table row) (ap (λ (o : Option ℕ). unwrap_or o 0) a) (ap (λ (o : Option ℕ). unwrap_or o 0) b)
          (ap (λ (o : Option ℕ). unwrap_or o 0) c) (ap (λ (o : Option ℕ). unwrap_or o 0) d) (e ∙ ap is_exact written),
    )

-- the last test of a row whose fields pass theirs
pub last_test : (trips : List (List ℕ)) (table : Table) (row : ℕ) (b : Bool) → first_fault (field_tests trips table row) ≡ None → has_new_start trips table row ≡ b
    → first_fault (frequency_tests trips table row) ≡ cond b None (Some (fault_at kinds.DuplicateKey files.Frequencies row))
last_test trips table row b passes new =
    first_more (field_tests trips table row) (test kinds.DuplicateKey files.Frequencies row (has_new_start trips table row) ∷ []) passes ∙ rw new refl

-- the key of a row, by its value
pub key_is : (trips : List (List ℕ)) (table : Table) (row : ℕ) (value : Frequency) → value ≡ frequency_value trips table row
    → ◌≡◌ {A = ℕ × ℕ} (value.trip, value.start) (key_at trips table row)
key_is trips table row value is = ap (λ (v : Frequency). (v.trip, v.start)) is

-- a set of the keys of the rows so far lacks a key exactly if no row before this one has its trip and its start
pub key_is_new : (trips : List (List ℕ)) (table : Table) (given : List ℕ) (row : ℕ) (keys : List (ℕ × ℕ)) (key : ℕ × ℕ) → IsTurn table given row
    → keys ≡ map (key_at trips table) given → key ≡ key_at trips table row → not (list_any (is_same_key key) keys) ≡ has_new_start trips table row
key_is_new trips table given row keys key turn holds same =
    ap (λ (ks : List (ℕ × ℕ)). not (list_any (is_same_key key) ks)) holds
    ∙ ap (λ (p : ℕ × ℕ). not (list_any (is_same_key p) (map (key_at trips table) given))) same
    ∙ ap (λ rows. not (list_any (is_same_key (key_at trips table row)) (map (key_at trips table) rows))) turn.before

isnt : (b : Bool) → not b ≡ true → b ≡ false
isnt true h = cc h
isnt false h = refl

-- a new key joins those before it
pub key_joins : (trips : List (List ℕ)) (table : Table) (given : List ℕ) (row : ℕ) (keys : List (ℕ × ℕ)) (key : ℕ × ℕ)
    → keys ≡ map (key_at trips table) given → key ≡ key_at trips table row → not (list_any (is_same_key key) keys) ≡ true
    → insert_key is_same_key keys key ≡ map (key_at trips table) (given ++ row ∷ [])
key_joins trips table given row keys key holds same new =
    rw (isnt (list_any (is_same_key key) keys) new)
    (ap (λ (ks : List (ℕ × ℕ)). ks ++ key ∷ []) holds ∙ ap (λ (p : ℕ × ℕ). map (key_at trips table) given ++ p ∷ []) same
    ∙ sym (map_push (key_at trips table) given row))

-- each column is there
pub are_there : (table : Table) (columns : FrequencyColumns) (a b c d : Bool) → AreFrequencyColumns table columns → is_some columns.trip ≡ not a → is_some columns.start ≡ not b
    → is_some columns.end ≡ not c → is_some columns.headway ≡ not d → a ≡ false → b ≡ false → c ≡ false → d ≡ false
    → list_all (λ name. is_some (column_of table name)) column_names ≡ true
are_there table columns a b c d are ia ib ic id ea eb ec ed = rw (
  is_there columns.trip (column_of table (codes "trip_id")) a are.trip ia ea,
  is_there columns.start (column_of table (codes "start_time")) b are.start ib eb,
  is_there columns.end (column_of table (codes "end_time")) c are.end ic ec,
  is_there columns.headway (column_of table (codes "headway_secs")) d are.headway id ed,
) refl

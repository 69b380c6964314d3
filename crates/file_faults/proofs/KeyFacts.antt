-- Keys of rows, each once.
use Rattle.std.proofs.Common.{◌≡◌, ◌∙◌, sym, ap, refl, cond, ℕ, ◌-◌, Bool, true, false, not, ◌&&◌, ◌||◌, List, [], ◌∷◌, ◌++◌, map, filter, Option, None, Some, Bor, ℤ, rules}
use Rattle.std.specs.Prelude.{fold, is_none}
use Rattle.std.specs.List.{list_any}
use Rattle.std.specs.Str.{bytes_eq}
use Rattle.std.specs.Ordering.{int_eq}
use Rattle.std.proofs.lemmas.Bool.{eqb-true}
use Rattle.std.proofs.lemmas.Bool.Decides.{Decides-int_eq}
use Rattle.std.proofs.lemmas.List.{map_push}
use Rattle.std.proofs.lemmas.List.Folds.{list_any-append}
use Rattle.std.proofs.lemmas.List.Sums.{fold-append}
use Rattle.indexmap.specs.IndexSet.{insert_key}
use Rattle.gtfs_text.specs.Sheets.{Table}
use Rattle.gtfs_rows.specs.declared.fault.FeedFault.{FeedFault}
use Rattle.gtfs_rows.specs.Faults.{Test, first_fault}
use Rattle.gtfs_rows.specs.Rows.{distinct, has_new_key, has_text, rows_to, texts_in, with_text}
use Rattle.gtfs_rows.proofs.FilledFacts.{IsTurn}
use Rattle.gtfs_rows.proofs.RowFacts.{filtered_in, filtered_out}
use Rattle.gtfs_rows.proofs.TextFacts.{any-texts_in, distinct-push, has-distinct, inserted, or-false, same_text}
use Rattle.gtfs_calls.specs.StopTimes.{is_same_key, is_skipped, key_at as call_key_at, key_tests}
use Rattle.gtfs_frequencies.specs.Frequencies.{field_tests as frequency_field_tests, key_at as start_key_at}
use Rattle.gtfs_services.specs.CalendarDates.{field_tests as date_field_tests, service_date}
use Rattle.gtfs_services.proofs.CalendarDateFacts.{any_is, row_parts}
use Rattle.std.proofs.lemmas.Simd.{map-map}
use Rattle.file_faults.specs.Seen.{DateKey, HasDates, Parts, call_keys, once, parts_in, parts_of, passing, same_parts, start_keys}
use Rattle.file_faults.specs.Tables.{is_first_call, is_first_date, is_first_start}

or_assoc : (a b c : Bool) → ((a || b) || c) ≡ (a || (b || c))
or_assoc true b c = refl
or_assoc false b c = refl

module _ {K : Type 0} (eq : K → K → Bool) (is : (a b : K) → eq a b ≡ true → a ≡ b) where
  has-inserted : (keys : List K) (key q : K) → list_any (eq q) (insert_key eq keys key) ≡ (list_any (eq q) keys || eq q key)
  has-inserted keys key q =
      elim (list_any (eq key) keys) as (λ t. list_any (eq key) keys ≡ t → list_any (eq q) (cond t keys (keys ++ key ∷ [])) ≡ (list_any (eq q) keys || eq q key)) [
        | false ↦ λ e. list_any-append (eq q) keys (key ∷ []) ∙ ap (λ (t : Bool). list_any (eq q) keys || t) (or-false (eq q key))
        | true ↦ λ e. elim (eq q key) as (λ t. eq q key ≡ t → list_any (eq q) keys ≡ (list_any (eq q) keys || t)) [
          | false ↦ λ no. sym (or-false (list_any (eq q) keys))
          | true ↦ λ yes. let there : list_any (eq q) keys ≡ true = ap (λ (k : K). list_any (eq k) keys) (is q key yes) ∙ e in rw there refl
        ] refl
      ] refl

  has-fold : (front keys : List K) (q : K) → list_any (eq q) (fold (insert_key eq) front keys) ≡ (list_any (eq q) front || list_any (eq q) keys)
  has-fold front [] q = sym (or-false (list_any (eq q) front))
  has-fold front (k ∷ ks) q =
      has-fold (insert_key eq front k) ks q ∙ ap (λ (b : Bool). b || list_any (eq q) ks) (has-inserted front k q)
      ∙ or_assoc (list_any (eq q) front) (eq q k) (list_any (eq q) ks)

  -- a key is among those that come once exactly if it is among them
  pub has-once : (keys : List K) (q : K) → list_any (eq q) (once eq keys) ≡ list_any (eq q) keys
  has-once keys q = has-fold [] keys q

-- one key more
pub once-push : {K : Type 0} (eq : K → K → Bool) (keys : List K) (key : K) → once eq (keys ++ key ∷ []) ≡ insert_key eq (once eq keys) key
once-push eq keys key = fold-append (insert_key eq) [] keys (key ∷ [])

-- one row more, that passes tests or doesn't
pub passing-in : (tests : ℕ → List Test) (rows : List ℕ) (row : ℕ) → first_fault (tests row) ≡ None → passing tests (rows ++ row ∷ []) ≡ passing tests rows ++ row ∷ []
passing-in tests rows row passes = filtered_in (λ row. is_none (first_fault (tests row))) rows row (ap is_none passes)

pub passing-out : (tests : ℕ → List Test) (rows : List ℕ) (row : ℕ) (f : FeedFault) → first_fault (tests row) ≡ Some f → passing tests (rows ++ row ∷ []) ≡ passing tests rows
passing-out tests rows row f fails = filtered_out (λ row. is_none (first_fault (tests row))) rows row (ap is_none fails)

-- two numbers are one pair if both tests say so
both : (a b : Bool) → (a && b) ≡ true → (a ≡ true) × (b ≡ true)
both true true h = (refl, refl)
both true false h = absurd (cc h)
both false b h = absurd (cc h)

pub same-pair : (a b : ℕ × ℕ) → is_same_key a b ≡ true → a ≡ b
same-pair a b h = let p = both _ _ h in λ i. (eqb-true a.0 b.0 p.0 i, eqb-true a.1 b.1 p.1 i)

int_is : (x y : ℤ) → int_eq x y ≡ true → x ≡ y
int_is x y h = search (rules, Decides-int_eq x y, h)

pub same-parts : (a b : Parts) → same_parts a b ≡ true → a ≡ b
same-parts a b h =
    let p = both _ _ h in
    let q = both _ _ p.0 in
    let r = both _ _ q.0 in
    λ i. (same_text a.0 b.0 r.0 i, int_is a.1 b.1 r.1 i, int_is a.2 b.2 q.1 i, int_is a.3 b.3 p.1 i)

-- ---- texts, each once

-- a set of the keys of the rows before, each once, lacks the row's key exactly if no row before has it
pub new-once : (table : Table) (key : ℕ → List ℕ) (given : List ℕ) (row : ℕ) (keys : List (Bor (List ℕ))) (text : Bor (List ℕ)) → IsTurn table given row
    → texts_in keys ≡ distinct (map key given) → text.now ≡ key row → not (list_any (λ k. bytes_eq text.now k.now) keys) ≡ has_new_key table key row
new-once table key given row keys text turn holds same =
    ap not (any-texts_in keys (bytes_eq text.now) ∙ ap (λ texts. has_text texts text.now) holds ∙ has-distinct (map key given) text.now
    ∙ ap (has_text (map key given)) same ∙ ap (λ rows. has_text (map key rows) (key row)) turn.before)

-- and the key joins them
pub once-joins : (key : ℕ → List ℕ) (given : List ℕ) (row : ℕ) (keys : List (Bor (List ℕ))) (text : Bor (List ℕ)) → texts_in keys ≡ distinct (map key given)
    → text.now ≡ key row → texts_in (insert_key (λ x y. bytes_eq x.now y.now) keys text) ≡ distinct (map key (given ++ row ∷ []))
once-joins key given row keys text holds same =
    inserted keys text ∙ ap (λ texts. with_text texts text.now) holds ∙ ap (with_text (distinct (map key given))) same
    ∙ sym (ap distinct (map_push key given row) ∙ distinct-push (map key given) (key row))

-- ---- dates, each once

any-parts : (keys : List DateKey) (p : Parts → Bool) → list_any (λ k. p (k.0.now, k.1, k.2, k.3)) keys ≡ list_any p (parts_in keys)
any-parts [] p = refl
any-parts (k ∷ ks) p = ap (λ (t : Bool). p (k.0.now, k.1, k.2, k.3) || t) (any-parts ks p)

abbrev pub same_date_key : DateKey → DateKey → Bool
same_date_key a b = ((bytes_eq a.0.now b.0.now && int_eq a.1 b.1) && int_eq a.2 b.2) && int_eq a.3 b.3

pub date-inserted : (keys : List DateKey) (k : DateKey) → parts_in (insert_key same_date_key keys k) ≡ insert_key same_parts (parts_in keys) (k.0.now, k.1, k.2, k.3)
date-inserted keys k =
    rw (← any-parts keys (same_parts (k.0.now, k.1, k.2, k.3)))
    (elim (list_any (same_date_key k) keys) as (λ t. parts_in (cond t keys (keys ++ k ∷ [])) ≡ cond t (parts_in keys) (parts_in keys ++ (k.0.now, k.1, k.2, k.3) ∷ []))
    [ true ↦ refl | false ↦ map_push (λ (j : DateKey). (j.0.now, j.1, j.2, j.3)) keys k ])

pub date-known : (keys : List DateKey) (k : DateKey) → list_any (same_date_key k) keys ≡ list_any (same_parts (k.0.now, k.1, k.2, k.3)) (parts_in keys)
date-known keys k = any-parts keys (same_parts (k.0.now, k.1, k.2, k.3))

-- ---- keys of two numbers, each once

-- a list of the keys of the rows before that count lacks a key exactly if the row is the first with it
pub start-new : (trips : List (List ℕ)) (table : Table) (row : ℕ) (keys : List (ℕ × ℕ)) (key : ℕ × ℕ) → keys ≡ start_keys trips table (rows_to table (row - 1))
    → key ≡ start_key_at trips table row → not (list_any (is_same_key key) keys) ≡ is_first_start trips table row
start-new trips table row keys key holds same =
    ap (λ (ks : List (ℕ × ℕ)). not (list_any (is_same_key key) ks)) holds
    ∙ ap not (has-once is_same_key same-pair (map (start_key_at trips table) (passing (frequency_field_tests trips table) (rows_to table (row - 1)))) key)
    ∙ ap (λ (p : ℕ × ℕ). not (list_any (is_same_key p) (map (start_key_at trips table) (passing (frequency_field_tests trips table) (rows_to table (row - 1)))))) same

-- and the key joins them
pub start-joins : (trips : List (List ℕ)) (table : Table) (rows : List ℕ) (row : ℕ) (keys : List (ℕ × ℕ)) (key : ℕ × ℕ) → keys ≡ start_keys trips table rows
    → key ≡ start_key_at trips table row → first_fault (frequency_field_tests trips table row) ≡ None
    → insert_key is_same_key keys key ≡ start_keys trips table (rows ++ row ∷ [])
start-joins trips table rows row keys key holds same passes =
    let fields = frequency_field_tests trips table in
    let key_at = start_key_at trips table in
    ap (λ (ks : List (ℕ × ℕ)). insert_key is_same_key ks key) holds ∙ ap (λ (p : ℕ × ℕ). insert_key is_same_key (start_keys trips table rows) p) same
    ∙ sym (ap (λ (rs : List ℕ). once is_same_key (map key_at rs)) (passing-in fields rows row passes)
    ∙ ap (once is_same_key) (map_push key_at (passing fields rows) row) ∙ once-push is_same_key (map key_at (passing fields rows)) (key_at row))

-- a row whose key doesn't count changes nothing
pub start-stays : (trips : List (List ℕ)) (table : Table) (rows : List ℕ) (row : ℕ) (f : FeedFault) → first_fault (frequency_field_tests trips table row) ≡ Some f
    → start_keys trips table rows ≡ start_keys trips table (rows ++ row ∷ [])
start-stays trips table rows row f fails =
    sym (ap (λ (rs : List ℕ). once is_same_key (map (start_key_at trips table) rs)) (passing-out (frequency_field_tests trips table) rows row f fails))

-- the same of calls
abbrev pub kept_in : Table → List ℕ → List ℕ
kept_in table rows = filter (λ row. not (is_skipped table row)) rows

pub call-new : (stops trips : List (List ℕ)) (table : Table) (row : ℕ) (keys : List (ℕ × ℕ)) (key : ℕ × ℕ) → keys ≡ call_keys stops trips table (rows_to table (row - 1))
    → key ≡ call_key_at trips table row → not (list_any (is_same_key key) keys) ≡ is_first_call stops trips table row
call-new stops trips table row keys key holds same =
    let before = kept_in table (passing (key_tests stops trips table) (rows_to table (row - 1))) in
    ap (λ (ks : List (ℕ × ℕ)). not (list_any (is_same_key key) ks)) holds
    ∙ ap not (has-once is_same_key same-pair (map (call_key_at trips table) before) key)
    ∙ ap (λ (p : ℕ × ℕ). not (list_any (is_same_key p) (map (call_key_at trips table) before))) same

pub call-joins : (stops trips : List (List ℕ)) (table : Table) (rows : List ℕ) (row : ℕ) (keys : List (ℕ × ℕ)) (key : ℕ × ℕ) → keys ≡ call_keys stops trips table rows
    → key ≡ call_key_at trips table row → first_fault (key_tests stops trips table row) ≡ None → is_skipped table row ≡ false
    → insert_key is_same_key keys key ≡ call_keys stops trips table (rows ++ row ∷ [])
call-joins stops trips table rows row keys key holds same passes kept =
    let tests = key_tests stops trips table in
    let key_at = call_key_at trips table in
    let before = kept_in table (passing tests rows) in
    let more : kept_in table (passing tests (rows ++ row ∷ [])) ≡ before ++ row ∷ [] =
    ap (kept_in table) (passing-in tests rows row passes) ∙ filtered_in (λ row. not (is_skipped table row)) (passing tests rows) row (ap not kept) in
    ap (λ (ks : List (ℕ × ℕ)). insert_key is_same_key ks key) holds ∙ ap (λ (p : ℕ × ℕ). insert_key is_same_key (call_keys stops trips table rows) p) same
    ∙ sym (ap (λ (rs : List ℕ). once is_same_key (map key_at rs)) more
    ∙ ap (once is_same_key) (map_push key_at before row) ∙ once-push is_same_key (map key_at before) (key_at row))

pub call-stays : (stops trips : List (List ℕ)) (table : Table) (rows : List ℕ) (row : ℕ) (f : FeedFault) → first_fault (key_tests stops trips table row) ≡ Some f
    → call_keys stops trips table rows ≡ call_keys stops trips table (rows ++ row ∷ [])
call-stays stops trips table rows row f fails =
    sym (ap (λ (rs : List ℕ). once is_same_key (map (call_key_at trips table) (kept_in table rs))) (passing-out (key_tests stops trips table) rows row f fails))

-- nor does a row that is skipped
pub call-skipped : (stops trips : List (List ℕ)) (table : Table) (rows : List ℕ) (row : ℕ) → is_skipped table row ≡ true
    → call_keys stops trips table rows ≡ call_keys stops trips table (rows ++ row ∷ [])
call-skipped stops trips table rows row skipped =
    sym (ap (λ (rs : List ℕ). once is_same_key (map (call_key_at trips table) rs)) (out (first_fault (key_tests stops trips table row)) refl))
  where
    tests : ℕ → List Test
    tests = key_tests stops trips table

    out : (o : Option FeedFault) → first_fault (tests row) ≡ o → kept_in table (passing tests (rows ++ row ∷ [])) ≡ kept_in table (passing tests rows)
    out None e = ap (kept_in table) (passing-in tests rows row e) ∙ filtered_out (λ row. not (is_skipped table row)) (passing tests rows) row (ap not skipped)
    out (Some f) e = ap (kept_in table) (passing-out tests rows row f e)

-- ---- dates

pub date-new : (table : Table) (row : ℕ) (keys : List DateKey) (key : DateKey) → HasDates table (rows_to table (row - 1)) keys
    → ◌≡◌ {A = Parts} (key.0.now, key.1, key.2, key.3) (row_parts table row) → not (list_any (same_date_key key) keys) ≡ is_first_date table row
date-new table row keys key holds same =
    let before = passing (date_field_tests table) (rows_to table (row - 1)) in
    ap not (date-known keys key ∙ ap (list_any (same_parts (key.0.now, key.1, key.2, key.3))) holds
    ∙ has-once same_parts same-parts (map (row_parts table) before) (key.0.now, key.1, key.2, key.3)
    ∙ ap (λ (p : Parts). list_any (same_parts p) (map (row_parts table) before)) same
    ∙ ap (list_any (same_parts (row_parts table row))) (sym (map-map parts_of (service_date table) before))
    ∙ any_is (service_date table row) (map (service_date table) before))

pub date-joins : (table : Table) (rows : List ℕ) (row : ℕ) (keys : List DateKey) (key : DateKey) → HasDates table rows keys
    → ◌≡◌ {A = Parts} (key.0.now, key.1, key.2, key.3) (row_parts table row) → first_fault (date_field_tests table row) ≡ None
    → HasDates table (rows ++ row ∷ []) (insert_key same_date_key keys key)
date-joins table rows row keys key holds same passes =
    let fields = date_field_tests table in
    date-inserted keys key ∙ ap (λ (ps : List Parts). insert_key same_parts ps (key.0.now, key.1, key.2, key.3)) holds
    ∙ ap (λ (p : Parts). insert_key same_parts (once same_parts (map (row_parts table) (passing fields rows))) p) same
    ∙ sym (ap (λ (rs : List ℕ). once same_parts (map (row_parts table) rs)) (passing-in fields rows row passes)
    ∙ ap (once same_parts) (map_push (row_parts table) (passing fields rows) row) ∙ once-push same_parts (map (row_parts table) (passing fields rows)) (row_parts table row))

pub date-stays : (table : Table) (rows : List ℕ) (row : ℕ) (keys : List DateKey) (f : FeedFault) → HasDates table rows keys → first_fault (date_field_tests table row) ≡ Some f
    → HasDates table (rows ++ row ∷ []) keys
date-stays table rows row keys f holds fails =
    holds ∙ sym (ap (λ (rs : List ℕ). once same_parts (map (row_parts table) rs)) (passing-out (date_field_tests table) rows row f fails))

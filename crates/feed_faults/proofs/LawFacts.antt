-- The first fault of a feed's list, and that of its tests.
use Rattle.std.proofs.Common.{◌≡◌, ◌∙◌, sym, ap, subst, refl, cond, arith, ℕ, zero, suc, ◌+◌, ◌-◌, Bool, true, false, not, List, [], ◌∷◌, ◌++◌, map, filter, Option, None, Some, append_assoc}
use Rattle.std.specs.List.{cons_option, filter_map, flat_map, range_with_len}
use Rattle.std.proofs.lemmas.List.{append-nil}
use Rattle.std.proofs.lemmas.List.Elements.{filter-append, filter_map-append}
use Rattle.std.proofs.lemmas.Grind.{flat_map-append}
use Rattle.gtfs_text.specs.Sheets.{Table, is_blank}
use Rattle.gtfs_rows.specs.declared.fault.FeedFault.{FeedFault}
use Rattle.gtfs_rows.specs.declared.fault.FeedFile.{FeedFile}
use Rattle.gtfs_rows.specs.Faults.{Test, first_fault}
use Rattle.gtfs_rows.specs.Rows.{AreApart, has_new_key, has_text, opening_tests, optional_tests, rows_of, rows_to, table_in, table_tests}
use Rattle.gtfs_rows.proofs.RowFacts.{first_more, first_some, front_passes, range_split}
use Rattle.gtfs_rows.proofs.TextFacts.{apart_push}
use Rattle.feed_faults.specs.Files.{file_faults, optional_faults}
use Rattle.feed_faults.specs.Laws.{first_of}
use Rattle.file_faults.specs.Tables.{columns_test, or_else, row_faults, size_test, table_faults}

-- ---- tests and faults, one after the other

-- the first of these faults is that of these tests
abbrev pub Agree : List Test → List FeedFault → Type 0
Agree tests faults = first_of faults ≡ first_fault tests

pub agree-append : (ts us : List Test) (fs gs : List FeedFault) → Agree ts fs → (first_fault ts ≡ None → Agree us gs) → Agree (ts ++ us) (fs ++ gs)
agree-append ts us [] gs front rest = rest (sym front) ∙ sym (first_more ts us (sym front))
agree-append ts us (f ∷ fs) gs front rest = sym (first_some ts us f (sym front))

pub agree-else : (ts us : List Test) (gs : List FeedFault) → (first_fault ts ≡ None → Agree us gs) → Agree (ts ++ us) (or_else (first_fault ts) gs)
agree-else ts us gs rest =
    elim (first_fault ts) as (λ o. first_fault ts ≡ o → first_of (or_else o gs) ≡ first_fault (ts ++ us)) [
      | None ↦ λ e. rest e ∙ sym (first_more ts us e)
      | Some f ↦ λ e. sym (first_some ts us f e)
    ] refl

agree-one : (ts : List Test) → Agree ts (cons_option (first_fault ts) [])
agree-one ts = elim (first_fault ts) as (λ o. first_of (cons_option o []) ≡ o) [ None ↦ refl | Some f ↦ refl ]

-- ---- rows, up to one of them

rows_to-suc : (table : Table) (n : ℕ) → rows_to table (suc n) ≡ rows_to table n ++ cond (not (is_blank table (suc n))) (suc n ∷ []) []
rows_to-suc table n =
    let e : suc n ≡ n + 1 = omega arith in
    let f : 1 + n ≡ suc n = omega arith in
    ap (rows_to table) e
    ∙ ap (filter (λ row. not (is_blank table row))) (range_split 1 n 1)
    ∙ filter-append (λ row. not (is_blank table row)) (range_with_len 1 n) (range_with_len (1 + n) 1)
    ∙ ap (λ (m : ℕ). rows_to table n ++ cond (not (is_blank table m)) (m ∷ []) []) f

-- rows whose tests are the same as soon as the rows before them pass
module _ (table : Table) (tests listed : ℕ → List Test)
    (same : (n : ℕ) → first_fault (flat_map tests (rows_to table n)) ≡ None → is_blank table (suc n) ≡ false → listed (suc n) ≡ tests (suc n)) where
  next : (n : ℕ) → first_fault (flat_map tests (rows_to table n)) ≡ None
      → Agree (flat_map tests (cond (not (is_blank table (suc n))) (suc n ∷ []) [])) (row_faults listed (cond (not (is_blank table (suc n))) (suc n ∷ []) []))
  next n passed =
      elim (is_blank table (suc n)) as (λ b. is_blank table (suc n) ≡ b
      → Agree (flat_map tests (cond (not b) (suc n ∷ []) [])) (row_faults listed (cond (not b) (suc n ∷ []) []))) [
        | true ↦ λ _. refl
        | false ↦ λ e.
            rw (same n passed e) (agree-one (tests (suc n)) ∙ sym (ap first_fault (append-nil (tests (suc n)))))
      ] refl

  pub agree-rows : (n : ℕ) → Agree (flat_map tests (rows_to table n)) (row_faults listed (rows_to table n))
  agree-rows zero = refl
  agree-rows (suc n) =
      let row = cond (not (is_blank table (suc n))) (suc n ∷ []) [] in
      rw (rows_to-suc table n, flat_map-append tests (rows_to table n) row, filter_map-append (λ row. first_fault (listed row)) (rows_to table n) row)
      (agree-append (flat_map tests (rows_to table n)) (flat_map tests row) (row_faults listed (rows_to table n)) (row_faults listed row) (agree-rows n) (next n))

-- ---- tables and files

-- a table's tests, and others after them
pub agree-table : (file : FeedFile) (columns : List (List ℕ)) (tests : Table → ℕ → List Test) (small : Table → Bool) (table : Table) (after : List Test)
    (is_small : Bool) (rows last : List FeedFault) → Agree (flat_map (tests table) (rows_of table)) rows
    → (first_fault (flat_map (tests table) (rows_of table)) ≡ None → small table ≡ is_small)
    → (first_fault (flat_map (tests table) (rows_of table)) ≡ None → Agree after last)
    → Agree (table_tests file columns tests small table ++ after) (table_faults file columns is_small rows last table)
agree-table file columns tests small table after is_small rows last of_rows of_size of_last =
    let flat = flat_map (tests table) (rows_of table) in
    let size = size_test file (small table) table in
    agree-else (columns_test file columns table ∷ []) ((flat ++ size ∷ []) ++ after) (rows ++ or_else (first_fault (size_test file is_small table ∷ [])) last)
    (λ _. rw (append_assoc flat (size ∷ []) after)
    (agree-append flat (size ∷ after) rows (or_else (first_fault (size_test file is_small table ∷ [])) last) of_rows
    (λ passed. rw (← of_size passed) (agree-else (size ∷ []) after last (λ _. of_last passed)))))

pub agree-plain : (file : FeedFile) (columns : List (List ℕ)) (tests : Table → ℕ → List Test) (small : Table → Bool) (table : Table)
    (is_small : Bool) (rows : List FeedFault) → Agree (flat_map (tests table) (rows_of table)) rows
    → (first_fault (flat_map (tests table) (rows_of table)) ≡ None → small table ≡ is_small)
    → Agree (table_tests file columns tests small table) (table_faults file columns is_small rows [] table)
agree-plain file columns tests small table is_small rows of_rows of_size =
    agree-table file columns tests small table [] is_small rows [] of_rows of_size (λ _. refl) ∙ ap first_fault (append-nil (table_tests file columns tests small table))

pub agree-file : (file : FeedFile) (tests : Table → List Test) (faults : Table → List FeedFault) (bytes : Option (List ℕ)) → Agree (tests (table_in bytes)) (faults (table_in bytes))
    → Agree (opening_tests file bytes ++ tests (table_in bytes)) (file_faults file faults bytes)
agree-file file tests faults bytes of_table = agree-else (opening_tests file bytes) (tests (table_in bytes)) (faults (table_in bytes)) (λ _. of_table)

pub agree-optional : (file : FeedFile) (tests : Table → List Test) (faults : Table → List FeedFault) (bytes : Option (List ℕ)) → ((table : Table) → Agree (tests table) (faults table))
    → Agree (optional_tests file tests bytes) (optional_faults file faults bytes)
agree-optional file tests faults None of_table = refl
agree-optional file tests faults (Some bytes) of_table = agree-file file tests faults (Some bytes) (of_table (table_in (Some bytes)))

-- ---- keys that come once

-- rows that pass tests of which one is that of a new key stand apart
pub apart-to : (table : Table) (key : ℕ → List ℕ) (tests : ℕ → List Test) → ((row : ℕ) → first_fault (tests row) ≡ None → has_new_key table key row ≡ true)
    → (n : ℕ) → first_fault (flat_map tests (rows_to table n)) ≡ None → AreApart key (rows_to table n)
apart-to table key tests new zero passed = λ i j d lt h. absurd (omega arith)
apart-to table key tests new (suc n) passed =
    let row = cond (not (is_blank table (suc n))) (suc n ∷ []) [] in
    let split : first_fault (flat_map tests (rows_to table n) ++ flat_map tests row) ≡ None =
    ap first_fault (sym (ap (flat_map tests) (rows_to-suc table n) ∙ flat_map-append tests (rows_to table n) row)) ∙ passed in
    let front : first_fault (flat_map tests (rows_to table n)) ≡ None = front_passes (flat_map tests (rows_to table n)) (flat_map tests row) split in
    let here : first_fault (flat_map tests row) ≡ None = sym (first_more (flat_map tests (rows_to table n)) (flat_map tests row) front) ∙ split in
    let before = apart-to table key tests new n front in
    subst (AreApart key) (sym (rows_to-suc table n)) (joined (is_blank table (suc n)) refl here before)
  where
    isnt : (b : Bool) → not b ≡ true → b ≡ false
    isnt true h = cc h
    isnt false h = refl

    joined : (b : Bool) → is_blank table (suc n) ≡ b → first_fault (flat_map tests (cond (not b) (suc n ∷ []) [])) ≡ None → AreApart key (rows_to table n)
        → AreApart key (rows_to table n ++ cond (not b) (suc n ∷ []) [])
    joined true e here before = subst (AreApart key) (sym (append-nil (rows_to table n))) before
    joined false e here before =
        let passes : first_fault (tests (suc n)) ≡ None = sym (ap first_fault (append-nil (tests (suc n)))) ∙ here in
        let z : suc n - 1 ≡ n = omega arith in
        let lacks : has_text (map key (rows_to table n)) (key (suc n)) ≡ false =
        ap (λ (m : ℕ). has_text (map key (rows_to table m)) (key (suc n))) (sym z) ∙ isnt (has_text (map key (rows_to table (suc n - 1))) (key (suc n))) (new (suc n) passes) in
        apart_push key (rows_to table n) (suc n) before lacks

-- each of some lists
pub agree-each : {X : Type 0} (tests : X → List Test) (xs : List X) → Agree (flat_map tests xs) (filter_map (λ x. first_fault (tests x)) xs)
agree-each tests [] = refl
agree-each tests (x ∷ xs) =
    elim (first_fault (tests x)) as (λ o. first_fault (tests x) ≡ o → first_of (cons_option o (filter_map (λ x. first_fault (tests x)) xs)) ≡ first_fault (tests x ++ flat_map tests xs)) [
      | None ↦ λ e. agree-each tests xs ∙ sym (first_more (tests x) (flat_map tests xs) e)
      | Some f ↦ λ e. sym (first_some (tests x) (flat_map tests xs) f e)
    ] refl

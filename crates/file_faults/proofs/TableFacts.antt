-- The faults of a table, by stages.
use Rattle.std.proofs.Common.{◌≡◌, ◌∙◌, sym, ap, subst, refl, cond, arith, ℕ, ◌≤◌, Bool, true, false, ◌&&◌, List, [], ◌∷◌, ◌++◌, Option, None, Some, nat_le, length, map, Bor}
use Rattle.std.specs.Prelude.{is_some, option_map, option_to_list, IfSome}
use Rattle.std.specs.Bool.{then_some}
use Rattle.std.specs.List.{list_all}
use Rattle.std.proofs.lemmas.Bool.{leb-true}
use Rattle.std.proofs.lemmas.List.{length-map}
use Rattle.gtfs_text.specs.Sheets.{Table, column_of, row_count}
use Rattle.gtfs_rows.specs.declared.fault.FaultKind.TheVariants as kinds
use Rattle.gtfs_rows.specs.declared.fault.FeedFault.{FeedFault}
use Rattle.gtfs_rows.specs.declared.fault.FeedFile.{FeedFile}
use Rattle.gtfs_rows.specs.Faults.{Test, fault_at, first_fault}
use Rattle.gtfs_rows.specs.Rows.{distinct, texts_in}
use Rattle.gtfs_rows.proofs.TextFacts.{length-distinct, length-texts_in}
use Rattle.gtfs_rows.proofs.RowFacts.{first_more}
use Rattle.file_faults.specs.Lists.{Adds}
use Rattle.file_faults.specs.Tables.{fits, is_readable, or_else, size_test, table_faults}
use Rattle.file_faults.specs.declared.list.FaultList.{FaultList}
use Rattle.file_faults.proofs.ListFacts.{adds-is, adds-then}

-- a file that lacks a column has that fault
pub lacking-added : {a b : FaultList} (file : FeedFile) (columns : List (List ℕ)) (is_small : Bool) (rows last : List FeedFault) (table : Table)
    → list_all (λ name. is_some (column_of table name)) columns ≡ false → Adds a b (fault_at kinds.MissingColumn file 0 ∷ [])
    → Adds a b (table_faults file columns is_small rows last table)
lacking-added file columns is_small rows last table lacks added = rw lacks added

pub or-nothing : (o : Option FeedFault) → or_else o [] ≡ option_to_list o
or-nothing None = refl
or-nothing (Some f) = refl

-- another has those of its rows, and then that of its size
pub sized-added : {a b : FaultList} (file : FeedFile) (columns : List (List ℕ)) (is_small : Bool) (rows : List FeedFault) (table : Table)
    → list_all (λ name. is_some (column_of table name)) columns ≡ true
    → Adds a b (rows ++ option_to_list (first_fault (size_test file is_small table ∷ []))) → Adds a b (table_faults file columns is_small rows [] table)
sized-added file columns is_small rows table there added =
    rw there (adds-is (ap (λ (zs : List FeedFault). rows ++ zs) (sym (or-nothing (first_fault (size_test file is_small table ∷ []))))) added)

pub plain-added : {a b c : FaultList} (file : FeedFile) (columns : List (List ℕ)) (is_small : Bool) (rows : List FeedFault) (table : Table)
    → list_all (λ name. is_some (column_of table name)) columns ≡ true → Adds a b rows
    → Adds b c (option_to_list (first_fault (size_test file is_small table ∷ []))) → Adds a c (table_faults file columns is_small rows [] table)
plain-added file columns is_small rows table there before after = sized-added file columns is_small rows table there (adds-then before after)

-- ---- what is known of a table

pub fits-rows : (is_small : Bool) (table : Table) → fits is_small table ≡ true → row_count table ≤ 999_999_999
fits-rows is_small table =
    elim (nat_le (row_count table) 999_999_999) as (λ b. nat_le (row_count table) 999_999_999 ≡ b → (b && is_small) ≡ true → row_count table ≤ 999_999_999) [
      | true ↦ λ e _. leb-true (row_count table) 999_999_999 e
      | false ↦ λ _ h. absurd (cc h)
    ] refl

pub fits-small : (is_small : Bool) (table : Table) → fits is_small table ≡ true → is_small ≡ true
fits-small is_small table = elim (nat_le (row_count table) 999_999_999) as (λ b. (b && is_small) ≡ true → is_small ≡ true) [ true ↦ λ h. h | false ↦ λ h. absurd (cc h) ]

-- of a table with its columns the ids are known exactly if it fits
pub known-if : {X Y : Type 0} (view : X → Y) (b : Bool) (x : X) (o : Option X) (file : FeedFile) (columns : List (List ℕ)) (is_small : Bool) (table : Table) (y : Y)
    → list_all (λ name. is_some (column_of table name)) columns ≡ true → o ≡ then_some b x → b ≡ fits is_small table → view x ≡ y
    → option_map view o ≡ cond (is_readable file columns is_small table) (Some y) None
known-if {X} {Y} view b x o file columns is_small table y there is small same =
    rw (there, is, small) (elim (fits is_small table) as (λ t. option_map view (then_some t x) ≡ cond t (Some y) None) [ true ↦ ap (λ (z : Y). Some z) same | false ↦ refl ])

pub unknown-if : {X : Type 0} (file : FeedFile) (columns : List (List ℕ)) (is_small : Bool) (table : Table) (x : X)
    → list_all (λ name. is_some (column_of table name)) columns ≡ false → None ≡ cond (is_readable file columns is_small table) (Some x) None
unknown-if file columns is_small table x lacks = rw lacks refl

pub if-then-some : {X : Type 0} (P : X → Type 0) (b : Bool) (x : X) (o : Option X) → o ≡ then_some b x → (b ≡ true → P x) → IfSome o P
if-then-some {X} P b x o is holds = subst (λ (o : Option X). IfSome o P) (sym is) (elim b as (λ t. (t ≡ true → P x) → IfSome (then_some t x) P) [ true ↦ λ f. f refl | false ↦ λ f. tt ] holds)

-- what comes after the size: nothing, if the table is too large
pub size-then : {a b c : FaultList} (file : FeedFile) (is_small : Bool) (table : Table) (last : List FeedFault) → fits is_small table ≡ true
    → Adds a b (option_to_list (first_fault (size_test file is_small table ∷ []))) → Adds b c last
    → Adds a c (or_else (first_fault (size_test file is_small table ∷ [])) last)
size-then {a} {b} file is_small table last small size added =
    let nothing : Adds a b [] = adds-is (rw small refl) size in
    adds-is (rw small refl) (adds-then nothing added)

pub size-else : {a b : FaultList} (file : FeedFile) (is_small : Bool) (table : Table) (last : List FeedFault) → fits is_small table ≡ false
    → Adds a b (option_to_list (first_fault (size_test file is_small table ∷ []))) → Adds a b (or_else (first_fault (size_test file is_small table ∷ [])) last)
size-else file is_small table last large size = adds-is (rw large refl) size

-- few rows have few keys
pub few-keys : (keys : List (Bor (List ℕ))) (key : ℕ → List ℕ) (rows : List ℕ) (n : ℕ) → texts_in keys ≡ distinct (map key rows) → length rows ≤ n → length keys ≤ n
few-keys keys key rows n holds few =
    let a : length (texts_in keys) ≡ length (distinct (map key rows)) = ap (length {A = List ℕ}) holds in
    omega (arith, a, length-texts_in keys, length-distinct (map key rows), length-map rows key)

-- the last test of a list decides, if those before it hold
pub last-holds : (front : List Test) (t : Test) → first_fault front ≡ None → t.holds ≡ true → first_fault (front ++ t ∷ []) ≡ None
last-holds front t passes holds = first_more front (t ∷ []) passes ∙ rw holds refl

pub last-fails : (front : List Test) (t : Test) → first_fault front ≡ None → t.holds ≡ false → first_fault (front ++ t ∷ []) ≡ Some t.fault
last-fails front t passes fails = first_more front (t ∷ []) passes ∙ rw fails refl

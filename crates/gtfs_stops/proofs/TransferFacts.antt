-- What was found of a row of transfers.txt, as its tests say it.
use Rattle.std.proofs.Common.{◌≡◌, ◌∙◌, sym, ap, refl, ℕ, ◌+◌, ◌≤◌, arith, Bool, true, Option, Some, None, List, [], ◌∷◌, ◌++◌, length, filter, length-append, append-nil}
use Rattle.std.specs.List.{filter_map, cons_option}
use Rattle.std.proofs.lemmas.List.Elements.{filter_map-append}
use Rattle.gtfs_rows.proofs.RowFacts.{filtered_in}
use Rattle.gtfs_text.specs.Sheets.{Table}
use Rattle.gtfs_rows.specs.declared.values.Place.{Place}
use Rattle.gtfs_rows.specs.declared.values.TransferType.{TransferType}
use Rattle.gtfs_rows.specs.Faults.{first_fault}
use Rattle.gtfs_stops.specs.Stops.{IdLists}
use Rattle.gtfs_stops.specs.Transfers.{found_tests, from_id, to_id, time_text, type_text, type_of, place_of, short_time, is_between_places, transfer_between, kept_transfer}

pub same_faults : (row : ℕ) {a b c d e f : Bool} → a ≡ b → c ≡ d → e ≡ f → first_fault (found_tests row a c e) ≡ first_fault (found_tests row b d f)
same_faults row p q r = λ i. first_fault (found_tests row (p i) (q i) (r i))

pub same_between : (from to p q : Option Place) (kind : TransferType) (time t : Option ℕ) → from ≡ p → to ≡ q → time ≡ t → transfer_between from to (Some kind) time ≡ transfer_between p q (Some kind) t
same_between from to p q kind time t f g h = λ i. transfer_between (f i) (g i) (Some kind) (h i)

pub kept_between : (ids : IdLists) (table : Table) (row : ℕ) (kind : TransferType) → is_between_places table row ≡ true → type_of (type_text table row) ≡ Some kind
    → transfer_between (place_of ids (from_id table row)) (place_of ids (to_id table row)) (Some kind) (short_time (time_text table row)) ≡ kept_transfer ids table row
kept_between ids table row kind between is = rw (between, is) refl

-- one row more that is kept, or skipped
pub kept_more : {V : Type 0} (keep : ℕ → Option V) (values : List V) (rows : List ℕ) (row : ℕ) (v : V) → values ≡ filter_map keep rows → keep row ≡ Some v → values ++ v ∷ [] ≡ filter_map keep (rows ++ row ∷ [])
kept_more {V} keep values rows row v so_far one =
    ap (λ (vs : List V). vs ++ v ∷ []) so_far
    ∙ (let e : filter_map keep (row ∷ []) ≡ v ∷ [] = rw one refl in ap (λ (vs : List V). filter_map keep rows ++ vs) (sym e))
    ∙ sym (filter_map-append keep rows (row ∷ []))

pub kept_same : {V : Type 0} (keep : ℕ → Option V) (values : List V) (rows : List ℕ) (row : ℕ) → values ≡ filter_map keep rows → keep row ≡ None → values ≡ filter_map keep (rows ++ row ∷ [])
kept_same {V} keep values rows row so_far none =
    so_far ∙ sym (append-nil (filter_map keep rows))
    ∙ (let e : filter_map keep (row ∷ []) ≡ [] = rw none refl in ap (λ (vs : List V). filter_map keep rows ++ vs) (sym e))
    ∙ sym (filter_map-append keep rows (row ∷ []))

pub one_more : (p : ℕ → Bool) (count : ℕ) (rows : List ℕ) (row : ℕ) → count ≡ length (filter p rows) → p row ≡ true → count + 1 ≡ length (filter p (rows ++ row ∷ []))
one_more p count rows row so_far is = rw (filtered_in p rows row is, length-append (filter p rows) (row ∷ [])) (ap (λ (n : ℕ). n + 1) so_far)

-- no more is kept than there is
one_at_most : {V : Type 0} (o : Option V) (vs : List V) (n : ℕ) → length vs ≤ n → length (cons_option o vs) ≤ n + 1
one_at_most None vs n h = omega (arith, h)
one_at_most (Some v) vs n h = omega (arith, h)

pub kept_length : {V : Type 0} (keep : ℕ → Option V) (rows : List ℕ) → length (filter_map keep rows) ≤ length rows
kept_length keep [] = omega arith
kept_length keep (row ∷ rows) = omega (arith, one_at_most (keep row) (filter_map keep rows) (length rows) (kept_length keep rows))

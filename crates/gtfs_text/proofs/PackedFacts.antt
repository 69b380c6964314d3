-- Packed records.
use Rattle.std.proofs.Common.{◌≡◌, ℕ, zero, suc, ◌+◌, ◌-◌, ◌^◌, ◌<◌, ◌≤◌, Bool, true, false, List, [], ◌∷◌, ◌++◌, length, take, drop, get_or, flat_map, refl, cond, arith, ◌∙◌, ap, nat_eq, nat_lt, Some, None, append_assoc, length-append, map, add-one, lt-ltb}
use Rattle.std.specs.List.{list_all, position_from}
use Rattle.std.specs.Int.{w64, to_le_bytes}
use Rattle.std.proofs.lemmas.Nat.{from_le_bytes-to_le_bytes_8}
use Rattle.std.proofs.lemmas.List.{length-drop, append-nil, map-append}
use Rattle.std.proofs.lemmas.List.Folds.{list_all-append}
use Rattle.std.proofs.lemmas.List.Concat.{flat_map-cons, flat_map-append}
use Rattle.std.proofs.lemmas.Bool.{ltb-true}
use Rattle.std.proofs.Math.Seq.{take-append_seam, drop-append_seam, take-suc, take-length}
use Rattle.gtfs_text.specs.Sheets.{without_spaces}
use Rattle.gtfs_text.proofs.TestFacts.{both}
use Rattle.gtfs_text.specs.Packed.{length_bytes, packed_field, is_long, first_length, behind_length, first_field, next_fields, fields_within, unpacked}

-- a record, packed
abbrev pub packed_fields : List (List ℕ) → List ℕ
packed_fields fields = flat_map packed_field fields

-- a packed record is shorter after its first field
behind_shorter : (packed : List ℕ) → 0 < length packed → length (behind_length packed) < length packed
behind_shorter packed some =
    elim (is_long packed) as (λ t. length (cond t (drop 9 packed) (drop 1 packed)) < length packed)
    [ true ↦ omega (arith, length-drop 9 packed) | false ↦ omega (arith, length-drop 1 packed) ]

pub next_shorter : (packed : List ℕ) → 0 < length packed → length (next_fields packed) < length packed
next_shorter packed some =
    let behind = behind_shorter packed some in
    omega (arith, behind, length-drop (first_length packed) (behind_length packed))

-- as many fields as there are bytes are all the fields
within_same : (n m : ℕ) (packed : List ℕ) → length packed ≤ n → length packed ≤ m → fields_within n packed ≡ fields_within m packed
unfolding fields_within
within_same zero zero packed a b = refl
within_same zero (suc m) packed a b = let none : nat_eq (length packed) 0 ≡ true = grind (arith, a) in rw none refl
within_same (suc n) zero packed a b = let none : nat_eq (length packed) 0 ≡ true = grind (arith, b) in rw none refl
within_same (suc n) (suc m) packed a b =
    elim (nat_eq (length packed) 0) as (λ t. nat_eq (length packed) 0 ≡ t → cond t [] (first_field packed ∷ fields_within n (next_fields packed)) ≡ cond t [] (first_field packed ∷ fields_within m (next_fields packed))) [
      | true ↦ λ e. refl
      | false ↦ λ e.
          let some : 0 < length packed = grind (arith, e) in
          let less = next_shorter packed some in
          ap (λ (fields : List (List ℕ)). first_field packed ∷ fields) (within_same n m (next_fields packed) (omega (arith, less)) (omega (arith, less)))
    ] refl

-- nothing is packed in no bytes
pub unpacked_none : (packed : List ℕ) → length packed ≡ 0 → unpacked packed ≡ []
unfolding fields_within
unpacked_none packed none = rw none refl

within_step : (n : ℕ) (packed : List ℕ) → 0 < length packed → fields_within (suc n) packed ≡ first_field packed ∷ fields_within n (next_fields packed)
unfolding fields_within
within_step n packed some = let no : nat_eq (length packed) 0 ≡ false = grind (arith, some) in rw no refl

-- the fields of a packed record are its first, and those after it
pub unpacked_step : (packed : List ℕ) → 0 < length packed → unpacked packed ≡ first_field packed ∷ unpacked (next_fields packed)
unpacked_step packed some =
    let less = next_shorter packed some in
    let n : length packed ≡ suc (length packed - 1) = omega arith in
    within_same (length packed) (suc (length packed - 1)) packed (omega arith) (omega arith)
    ∙ within_step (length packed - 1) packed some
    ∙ ap (λ (fields : List (List ℕ)). first_field packed ∷ fields) (within_same (length packed - 1) (length (next_fields packed)) (next_fields packed) (omega (arith, less)) (omega arith))

-- a length comes back
short_front : (size : ℕ) (rest : List ℕ) → nat_lt size 255 ≡ true → (first_length (size ∷ rest) ≡ size) × (behind_length (size ∷ rest) ≡ rest)
short_front size rest e = let other : nat_eq size 255 ≡ false = grind (arith, e) in (rw other refl, rw other refl)

long_front : (size : ℕ) (rest : List ℕ) → size < 2 ^ 64 → (first_length ((255 ∷ to_le_bytes w64 size) ++ rest) ≡ size) × (behind_length ((255 ∷ to_le_bytes w64 size) ++ rest) ≡ rest)
long_front size rest e =
    let long : is_long ((255 ∷ to_le_bytes w64 size) ++ rest) ≡ true = grind arith in
    (rw long (from_le_bytes-to_le_bytes_8 size e), rw long refl)

front : (size : ℕ) (rest : List ℕ) → size < 2 ^ 64 → (first_length (length_bytes size ++ rest) ≡ size) × (behind_length (length_bytes size ++ rest) ≡ rest)
front size rest e =
    elim (nat_lt size 255) as (λ t. nat_lt size 255 ≡ t → (first_length (cond t (size ∷ []) (255 ∷ to_le_bytes w64 size) ++ rest) ≡ size) × (behind_length (cond t (size ∷ []) (255 ∷ to_le_bytes w64 size) ++ rest) ≡ rest))
    [ true ↦ λ k. short_front size rest k | false ↦ λ k. long_front size rest e ] refl

-- a length that eight bytes hold
abbrev pub fits : List ℕ → Bool
fits field = nat_lt (length field) (2 ^ 64)

-- a field comes back, and what stands after it
field_back : (field : List ℕ) (rest : List ℕ) → fits field ≡ true → (first_field (packed_field field ++ rest) ≡ field) × (next_fields (packed_field field ++ rest) ≡ rest)
field_back field rest small =
    let some : length field < 2 ^ 64 = ltb-true (length field) (2 ^ 64) small in
    let at = front (length field) (field ++ rest) some in
    rw (append_assoc (length_bytes (length field)) field rest, at.0, at.1) (take-append_seam field rest, drop-append_seam field rest)

-- a length has a byte at least
some_bytes : (size : ℕ) → 0 < length (length_bytes size)
some_bytes size = elim (nat_lt size 255) as (λ t. 0 < length (cond t (size ∷ []) (255 ∷ to_le_bytes w64 size))) [ true ↦ omega arith | false ↦ omega arith ]

-- fields that were packed come back
pub unpacked-packed : (fields : List (List ℕ)) → list_all fits fields ≡ true → unpacked (packed_fields fields) ≡ fields
unpacked-packed [] small = unpacked_none [] refl
unpacked-packed (field ∷ fields) small =
    let each = both (fits field) (list_all fits fields) small in
    let whole : packed_fields (field ∷ fields) ≡ packed_field field ++ packed_fields fields = flat_map-cons packed_field field fields in
    let first = some_bytes (length field) in
    let some : 0 < length (packed_field field ++ packed_fields fields) = omega (arith, first, length-append (packed_field field) (packed_fields fields), length-append (length_bytes (length field)) field) in
    let back = field_back field (packed_fields fields) each.0 in
    rw whole (unpacked_step (packed_field field ++ packed_fields fields) some ∙ rw (back.0, back.1, unpacked-packed fields each.1) refl)

-- fields are no more than bytes
pub few_fields : (n : ℕ) (packed : List ℕ) → length packed ≤ n → length (unpacked packed) ≤ length packed
few_fields zero packed small = rw (unpacked_none packed (omega arith)) (omega arith)
few_fields (suc n) packed small =
    elim (nat_eq (length packed) 0) as (λ t. nat_eq (length packed) 0 ≡ t → length (unpacked packed) ≤ length packed) [
      | true ↦ λ e. rw (unpacked_none packed (grind (arith, e))) (omega arith)
      | false ↦ λ e.
          let some : 0 < length packed = grind (arith, e) in
          let less = next_shorter packed some in
          let deeper = few_fields n (next_fields packed) (omega (arith, less)) in
          rw (unpacked_step packed some) (omega (arith, less, deeper))
    ] refl

-- the field that is looked for is the first one
pub field_here : (rest : List ℕ) (before : ℕ) → 0 < length rest → before ≡ 0 → first_field rest ≡ get_or (unpacked rest) before []
field_here rest before some none = rw (none, unpacked_step rest some) refl

-- it comes later
pub field_later : (rest : List ℕ) (before : ℕ) → 0 < length rest → 0 < before → get_or (unpacked (next_fields rest)) (before - 1) [] ≡ get_or (unpacked rest) before []
field_later rest before some more = let n : before ≡ suc (before - 1) = omega arith in rw (n, unpacked_step rest some) (let m : suc (before - 1) - 1 ≡ before - 1 = omega arith in rw m refl)

-- it doesn't come
pub field_nowhere : (rest : List ℕ) (before : ℕ) → length rest ≡ 0 → [] ≡ get_or (unpacked rest) before []
field_nowhere rest before none = rw (unpacked_none rest none) refl

-- one more field is counted
pub one_more : (rest : List ℕ) → 0 < length rest → length (unpacked rest) ≡ 1 + length (unpacked (next_fields rest))
one_more rest some = rw (unpacked_step rest some) (omega arith)

pub no_more : (rest : List ℕ) → length rest ≡ 0 → length (unpacked rest) ≡ 0
no_more rest none = rw (unpacked_none rest none) refl

-- a position is that of the first field, or is after it
pub position_here : (p : List ℕ → Bool) (rest : List ℕ) (column : ℕ) → 0 < length rest → p (first_field rest) ≡ true → position_from p column (unpacked rest) ≡ Some column
position_here p rest column some is = rw (unpacked_step rest some, is) refl

pub position_later : (p : List ℕ → Bool) (rest : List ℕ) (column : ℕ) → 0 < length rest → p (first_field rest) ≡ false → position_from p (column + 1) (unpacked (next_fields rest)) ≡ position_from p column (unpacked rest)
position_later p rest column some is = rw (unpacked_step rest some, is) refl

pub position_nowhere : (p : List ℕ → Bool) (rest : List ℕ) (column : ℕ) → length rest ≡ 0 → position_from p column (unpacked rest) ≡ None
position_nowhere p rest column none = rw (unpacked_none rest none) refl

-- a test of the first fields
pub first_fails : (p : List ℕ → Bool) (rest : List ℕ) (n : ℕ) → 0 < length rest → 0 < n → p (first_field rest) ≡ false → list_all p (take n (unpacked rest)) ≡ false
first_fails p rest n some more is = let m : n ≡ suc (n - 1) = omega arith in rw (m, unpacked_step rest some, is) refl

pub first_passes : (p : List ℕ → Bool) (rest : List ℕ) (n : ℕ) → 0 < length rest → 0 < n → p (first_field rest) ≡ true → list_all p (take (n - 1) (unpacked (next_fields rest))) ≡ list_all p (take n (unpacked rest))
first_passes p rest n some more is = let m : n ≡ suc (n - 1) = omega arith in rw (m, unpacked_step rest some, is) (let k : suc (n - 1) - 1 ≡ n - 1 = omega arith in rw k refl)

pub take_nothing : (n : ℕ) → take n (let none : List (List ℕ) = [] in none) ≡ []
take_nothing zero = refl
take_nothing (suc n) = refl

pub all_pass : (p : List ℕ → Bool) (rest : List ℕ) (n : ℕ) → length rest ≡ 0 → list_all p (take n (unpacked rest)) ≡ true
all_pass p rest n none = rw (unpacked_none rest none) (rw (take_nothing n) refl)

pub position_past : (p : List ℕ → Bool) (fields : List (List ℕ)) (column : ℕ) → length fields ≡ 0 → position_from p column fields ≡ None
position_past p [] column none = refl
position_past p (f ∷ fs) column none = absurd (omega arith)

-- a field more is packed
pub packed_more : (fields : List (List ℕ)) (field : List ℕ) → packed_fields (fields ++ field ∷ []) ≡ packed_fields fields ++ packed_field field
packed_more fields field = flat_map-append packed_field fields (field ∷ []) ∙ ap (λ (xs : List ℕ). packed_fields fields ++ xs) (append-nil (packed_field field))

pub all_more : (p : List ℕ → Bool) (fields : List (List ℕ)) (field : List ℕ) → list_all p fields ≡ true → p field ≡ true → list_all p (fields ++ field ∷ []) ≡ true
all_more p fields field all one = rw (list_all-append p fields (field ∷ []), all, one) refl

pub kept_more : (fields : List (List ℕ)) (column : ℕ) (field : List ℕ) → column < length fields → field ≡ get_or fields column []
    → map without_spaces (take (column + 1) fields) ≡ map without_spaces (take column fields) ++ without_spaces field ∷ []
kept_more fields column field within is =
    rw (add-one, take-suc fields column [] within, is) (map-append without_spaces (take column fields) (get_or fields column [] ∷ []))

pub take_whole : (fields : List (List ℕ)) (n : ℕ) → length fields ≡ n → take n fields ≡ fields
take_whole fields n all = rw (← all) (take-length fields)

pub fits_below : (field : List ℕ) → length field < 2 ^ 64 → fits field ≡ true
fits_below field small = lt-ltb (length field) (2 ^ 64) small

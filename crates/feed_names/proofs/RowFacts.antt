-- Ids that are asked for, and the first rows that have them.
use Rattle.std.proofs.Math.ListN.{drop_of_length-le}
use Rattle.std.proofs.Common.{inl, inr, ◌≡◌, ◌∙◌, sym, ap, refl, ℕ, zero, suc, ◌+◌, ◌<◌, ◌≤◌, ◌||◌, arith, Bool, true, false, List, [], ◌∷◌, length, drop, get_or, Option, None, Some, cond, add-one, drop-cons}
use Rattle.std.specs.List.{position_from}
use Rattle.std.specs.Str.{bytes_eq}
use Rattle.std.specs.Ordering.{nat_cmp}
use Rattle.std.specs.Cmp.Lexicographic.{slice_cmp, nat_list_eq_equiv}
use Rattle.std.specs.BTreeMap.{BTreeMap, UpdatesBy}
use Rattle.std.specs.BTreeSet.{BTreeSet}
use Rattle.std.specs.BTreeSet as sorted
use Rattle.std.proofs.lemmas.Map.Text.{is_eq-slice_cmp, btree_map_updates_str}
use Rattle.gtfs_text.specs.Sheets.{Table, row_count}
use Rattle.feed_names.specs.Rows.{first_row_in, is_among, is_member, row_of}
use Rattle.std.proofs.lemmas.Bool.{cases_Bool}
use Rattle.std.proofs.lemmas.Slice.Eq.{bytes_eq-Decides}
use denote.Ref.{Bor}

or_by : (b c : Bool) → cond b true c ≡ (c || b)
or_by true true = refl
or_by true false = refl
or_by false true = refl
or_by false false = refl

or_true : (b : Bool) → (b || true) ≡ true
or_true true = refl
or_true false = refl

-- a set with one id more
pub joined : (key : Bor (List ℕ)) (old new : BTreeSet (Bor (List ℕ))) → sorted.UpdatesBy (λ x y. slice_cmp nat_cmp x.now y.now) (λ k. slice_cmp nat_cmp key.now k.now) old new true
    → (q : List ℕ) → is_member new q ≡ (is_member old q || bytes_eq q key.now)
joined key old new h q =
    let at : is_member new q ≡ cond (bytes_eq key.now q) true (is_member old q) = h.0 (record key { now = q }) ∙ ap (λ (b : Bool). cond b true (is_member old q)) (is_eq-slice_cmp key.now q) in
    at ∙ or_by (bytes_eq key.now q) (is_member old q) ∙ ap (λ (b : Bool). is_member old q || b) (nat_list_eq_equiv.symm key.now q)

-- the first row from this one on that has the id
abbrev pub row_from : Table → ℕ → ℕ → List ℕ → Option ℕ
row_from table column row id = position_from (λ fields. bytes_eq id (get_or fields column [])) row (drop row table)

pub row_before : (table : Table) (column row : ℕ) (id : List ℕ) → row < length table
    → row_from table column row id ≡ cond (bytes_eq id (get_or (get_or table row []) column [])) (Some row) (row_from table column (row + 1) id)
row_before table column row id below =
    let e : drop row table ≡ get_or table row [] ∷ drop (row + 1) table = drop-cons table row [] below ∙ ap (λ n. get_or table row [] ∷ drop n table) (sym (add-one row)) in
    ap (position_from (λ fields. bytes_eq id (get_or fields column [])) row) e

-- after the last row
pub row_behind : (table : Table) (column : ℕ) (id : List ℕ) → row_from table column (row_count table + 1) id ≡ None
row_behind table column id =
    let far : length table ≤ row_count table + 1 = omega arith in
    let e : drop (row_count table + 1) table ≡ [] = drop_of_length-le table far in
    ap (position_from (λ fields. bytes_eq id (get_or fields column [])) (row_count table + 1)) e

-- the row is kept for its own id, if that is asked for
pub kept : (key : Bor (List ℕ)) (old new : BTreeMap (Bor (List ℕ)) ℕ) (row : ℕ)
    → UpdatesBy (λ x y. slice_cmp nat_cmp x.now y.now) (λ k. slice_cmp nat_cmp key.now k.now) old new (Some row)
    → (q : List ℕ) → row_of new q ≡ cond (bytes_eq q key.now) (Some row) (row_of old q)
kept key old new row h q =
    btree_map_updates_str key.now old new (Some row) h q ∙ ap (λ (b : Bool). cond b (Some row) (row_of old q)) (nat_list_eq_equiv.symm key.now q)

-- a row whose id isn't asked for is the first of no id that is
pub passed : (table : Table) (column row : ℕ) (ids : List (Bor (List ℕ))) (id q : List ℕ) → id ≡ get_or (get_or table row []) column []
    → row < length table → is_among ids id ≡ false → is_among ids q ≡ true → row_from table column (row + 1) q ≡ row_from table column row q
passed table column row ids id q is below unasked asked =
    elim (cases_Bool (bytes_eq q id)) [
      | inl same ↦ absurd (let there : q ≡ id = (bytes_eq-Decides q id).0 same in let bad : true ≡ false = sym asked ∙ ap (is_among ids) there ∙ unasked in cc)
      | inr other ↦ sym (row_before table column row q below ∙ ap (λ (t : List ℕ). cond (bytes_eq q t) (Some row) (row_from table column (row + 1) q)) (sym is) ∙ ap (λ (b : Bool). cond b (Some row) (row_from table column (row + 1) q)) other)
    ]

found_within : {X : Type 0} (p : X → Bool) (i : ℕ) (xs : List X) (n : ℕ) → position_from p i xs ≡ Some n → n < i + length xs
found_within p i [] n e = absurd (cc)
found_within p i (x ∷ xs) n e =
    elim (cases_Bool (p x)) [
      | inl here ↦ let is : Some i ≡ Some n = sym (ap (λ (b : Bool). cond b (Some i) (position_from p (i + 1) xs)) here) ∙ e in let same : i ≡ n = cc in omega (arith, same)
      | inr past ↦
          let is : position_from p (i + 1) xs ≡ Some n = sym (ap (λ (b : Bool). cond b (Some i) (position_from p (i + 1) xs)) past) ∙ e in
          let below : n < i + 1 + length xs = found_within p (i + 1) xs n is in omega (arith, below)
    ]

-- a row that is found is one of the sheet
pub is_row : (table : Table) (column : Option ℕ) (id : List ℕ) (row : ℕ) → first_row_in table column id ≡ Some row → row < length table
is_row table None id row e = absurd (cc)
is_row [] (Some column) id row e = absurd (cc)
is_row (header ∷ rows) (Some column) id row e =
    let below : row < 1 + length rows = found_within (λ fields. bytes_eq id (get_or fields column [])) 1 rows row e in omega (arith, below)

-- an id of a list is among its ids
pub among : (ids : List (Bor (List ℕ))) (n : ℕ) (d : Bor (List ℕ)) → n < length ids → is_among ids (get_or ids n d).now ≡ true
among [] n d below = absurd (let bad : ⊥ = omega (arith, below) in bad)
among (id ∷ ids) zero d below = ap (λ (b : Bool). b || is_among ids id.now) (nat_list_eq_equiv.refl id.now)
among (id ∷ ids) (suc n) d below =
    let rest : is_among ids (get_or ids n d).now ≡ true = among ids n d (omega (arith, below)) in
    ap (λ (b : Bool). bytes_eq (get_or ids n d).now id.now || b) rest ∙ or_true (bytes_eq (get_or ids n d).now id.now)

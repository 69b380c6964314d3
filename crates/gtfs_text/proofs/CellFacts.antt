-- Cells of a table.
use Rattle.std.proofs.Common.{◌≡◌, ℕ, zero, suc, ◌+◌, ◌<◌, ◌==◌, Bool, true, List, [], ◌∷◌, length, get_or, take, map, refl, arith, sym, ◌∙◌, ap, None, ◌&&◌, add-one}
use Rattle.std.specs.Prelude.{unwrap_or}
use Rattle.std.specs.List.{list_all, range_with_len}
use Rattle.std.specs.Str.{is_utf8}
use Rattle.std.proofs.lemmas.Str.{is_utf8-from_IsUtf8, IsUtf8-nil}
use Rattle.csv.specs.Records.{field_at}
use Rattle.gtfs_text.specs.Packed.{unpacked}
use Rattle.gtfs_text.specs.Sheets.{Table, is_text}
use Rattle.gtfs_text.proofs.TestFacts.{both}
use Rattle.gtfs_text.proofs.PackedFacts.{take_nothing, unpacked_none}

at_map : {X Y : Type 0} (f : X → Y) (xs : List X) (i : ℕ) (d : X) → get_or (map f xs) i (f d) ≡ f (get_or xs i d)
at_map f [] i d = refl
at_map f (x ∷ xs) zero d = refl
at_map f (x ∷ xs) (suc i) d = at_map f xs i d

-- csv's word for a field, and this one
pub field_is : (fields : List (List ℕ)) (i : ℕ) → unwrap_or (field_at fields i) [] ≡ get_or fields i []
unfolding field_at
field_is [] i = refl
field_is (f ∷ fs) zero = refl
field_is (f ∷ fs) (suc i) = field_is fs i

-- csv's word has a field if the record reaches it
pub field_reached : (fields : List (List ℕ)) (i : ℕ) → i < length fields → field_at fields i ≡ None → ⊥
unfolding field_at
field_reached [] i within none = absurd (omega arith)
field_reached (f ∷ fs) zero within none = cc none
field_reached (f ∷ fs) (suc i) within none = field_reached fs i (omega arith) none

-- a row of packed records
pub row_is : (records : List (List ℕ)) (row : ℕ) (packed : List ℕ) → packed ≡ get_or records row [] → unpacked packed ≡ get_or (map unpacked records) row []
row_is records row packed is = ap unpacked is ∙ rw (unpacked_none [] refl) at (sym (at_map unpacked records row []))

-- a test of the first fields is a test by columns, if it holds of nothing
shifted : (p : List ℕ → Bool) (f : List ℕ) (fs : List (List ℕ)) (from n : ℕ) → list_all (λ column. p (get_or (f ∷ fs) column [])) (range_with_len (from + 1) n) ≡ list_all (λ column. p (get_or fs column [])) (range_with_len from n)
shifted p f fs from zero = refl
shifted p f fs from (suc n) = let here : get_or (f ∷ fs) (from + 1) [] ≡ get_or fs from [] = rw add-one refl in rw (here, shifted p f fs (from + 1) n) refl

past_end : (p : List ℕ → Bool) (from n : ℕ) → p [] ≡ true → list_all (λ column. p (get_or [] column [])) (range_with_len from n) ≡ true
past_end p from zero none = refl
past_end p from (suc n) none = rw (none, past_end p (from + 1) n none) refl

by_columns : (p : List ℕ → Bool) (fields : List (List ℕ)) (n : ℕ) → p [] ≡ true → list_all p (take n fields) ≡ list_all (λ column. p (get_or fields column [])) (range_with_len 0 n)
by_columns p [] n none = rw (take_nothing n) (sym (past_end p 0 n none))
by_columns p (f ∷ fs) zero none = refl
by_columns p (f ∷ fs) (suc n) none = ap (λ (b : Bool). p f && b) (by_columns p fs n none ∙ sym (shifted p f fs 0 n))

pub blank_is : (fields : List (List ℕ)) (n : ℕ) → list_all (λ field. length field == 0) (take n fields) ≡ list_all (λ column. length (get_or fields column []) == 0) (range_with_len 0 n)
blank_is fields n = by_columns (λ field. length field == 0) fields n refl

-- a field of a row of text is text, and so is a row of a table of text
pub utf8_in : (fields : List (List ℕ)) (column : ℕ) → is_text fields ≡ true → is_utf8 (get_or fields column []) ≡ true
utf8_in [] column all = is_utf8-from_IsUtf8 [] IsUtf8-nil
utf8_in (f ∷ fs) zero all = (both (is_utf8 f) (is_text fs) all).0
utf8_in (f ∷ fs) (suc column) all = utf8_in fs column (both (is_utf8 f) (is_text fs) all).1

pub text_in : (table : Table) (row : ℕ) → list_all is_text table ≡ true → is_text (get_or table row []) ≡ true
text_in [] row all = refl
text_in (r ∷ rs) zero all = (both (is_text r) (list_all is_text rs) all).0
text_in (r ∷ rs) (suc row) all = text_in rs row (both (is_text r) (list_all is_text rs) all).1

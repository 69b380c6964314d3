-- Which row of a file is about an id.
-- GTFS Schedule reference: an id is unique in its file. A feed may break that in a file that no answer is read from: the first row counts.
use Rattle.std.specs.Prelude.{ℕ, Bool, List, [], drop, get_or, Option, None, Some}
use Rattle.std.specs.List.{list_any, position_from}
use Rattle.std.specs.Str.{bytes_eq}
use Rattle.std.specs.Ordering.{nat_cmp}
use Rattle.std.specs.Cmp.Lexicographic.{slice_cmp}
use Rattle.std.specs.BTreeMap.{BTreeMap, get_by}
use Rattle.std.specs.BTreeSet.{BTreeSet, contains_by}
use Rattle.gtfs_text.specs.Sheets.{Table, cell, column_of}
use denote.Ref.{Bor}

-- the first row that has the id in the column; rows are numbered from 1
abbrev pub first_row : Table → ℕ → List ℕ → Option ℕ
first_row table column id = position_from (λ fields. bytes_eq id (get_or fields column [])) 1 (drop 1 table)

-- the same in the column of a name: none if there is no such column
abbrev pub first_row_in : Table → Option ℕ → List ℕ → Option ℕ
first_row_in table None id = None
first_row_in table (Some column) id = first_row table column id

-- what a row has in the column of a name: nothing if there is no such column
abbrev pub text_in : Table → ℕ → Option ℕ → List ℕ
text_in table row None = []
text_in table row (Some column) = cell table row column

abbrev pub text_at : Table → ℕ → List ℕ → List ℕ
text_at table row name = text_in table row (column_of table name)

-- the id is one of these
abbrev pub is_among : List (Bor (List ℕ)) → List ℕ → Bool
is_among ids id = list_any (λ other. bytes_eq id other.now) ids

-- the row that is kept for an id
abbrev pub row_of : BTreeMap (Bor (List ℕ)) ℕ → List ℕ → Option ℕ
row_of rows id = get_by (λ k. slice_cmp nat_cmp id k.now) rows

-- the id is in the set
abbrev pub is_member : BTreeSet (Bor (List ℕ)) → List ℕ → Bool
is_member set id = contains_by (λ k. slice_cmp nat_cmp id k.now) set

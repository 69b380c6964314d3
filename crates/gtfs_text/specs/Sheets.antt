-- What a file of a feed is: records, as the crate csv states them, and cells by row and column (GTFS Schedule reference, "File
-- requirements").
use Rattle.std.specs.Prelude.{Bool, true, not, ℕ, ◌-◌, ◌^◌, ◌<◌, ◌≡◌, List, [], ◌∷◌, map, length, get_or, Option, Some, if◌then◌else◌, ◌==◌, ◌&&◌}
use Rattle.std.specs.List.{list_all, position_from, range_with_len}
use Rattle.std.specs.Str.{is_utf8, bytes_eq}
use Rattle.csv.specs.Reading.{records, default_config, is_bom}
use Rattle.gtfs_text.specs.declared.fault.SheetFault.{SheetFault}
use Rattle.gtfs_text.specs.declared.fault.SheetFault.TheVariants as fault

-- a file's bytes after every byte order mark at the front ("File requirements": a file may begin with one)
unfoldable pub without_marks : List ℕ → List ℕ
without_marks [] = []
without_marks (a ∷ []) = a ∷ []
without_marks (a ∷ b ∷ []) = a ∷ b ∷ []
without_marks (a ∷ b ∷ c ∷ rest) = if is_bom a b c then without_marks rest else a ∷ b ∷ c ∷ rest

-- the records of a file, each a list of fields: only by commas, quotes and line ends, in records of any length, the header among
-- them ("File requirements", after RFC 4180)
abbrev pub records_of : List ℕ → List (List (List ℕ))
records_of bytes = records default_config (without_marks bytes)

-- every field of a record is UTF-8 ("File requirements": files are encoded in UTF-8)
abbrev pub is_text : List (List ℕ) → Bool
is_text fields = list_all is_utf8 fields

-- the number of the first record that isn't UTF-8; the header is record 0
abbrev pub bad_record : List (List (List ℕ)) → Option ℕ
bad_record records = position_from (λ fields. not (is_text fields)) 0 records

-- a field from its first byte that isn't a space
unfoldable pub without_front_spaces : List ℕ → List ℕ
without_front_spaces [] = []
without_front_spaces (c ∷ rest) = if c == 32 then without_front_spaces rest else c ∷ rest

-- a field up to its last byte that isn't a space
unfoldable pub without_end_spaces : List ℕ → List ℕ
without_end_spaces [] = []
without_end_spaces (c ∷ rest) = if (c == 32) && (length (without_end_spaces rest) == 0) then [] else c ∷ without_end_spaces rest

-- a field without the spaces at both ends ("File requirements": there should be none)
abbrev pub without_spaces : List ℕ → List ℕ
without_spaces field = without_end_spaces (without_front_spaces field)

-- a sheet: records of fields, the header first, so that record n is row n
abbrev pub Table : Type 0
Table = List (List (List ℕ))

-- the sheet of a file's records: their fields without the spaces round them
abbrev pub table_of : List (List (List ℕ)) → Table
table_of records = map (map without_spaces) records

-- the names of the columns: the first record, if there is one
abbrev pub header_of : Table → List (List ℕ)
header_of table = get_or table 0 []

-- the number of rows, which is that of the last one
abbrev pub row_count : Table → ℕ
row_count table = length table - 1

-- the first column of a name
abbrev pub column_of : Table → List ℕ → Option ℕ
column_of table name = position_from (λ field. bytes_eq field name) 0 (header_of table)

-- what a row has in a column: nothing if its record doesn't reach the column
abbrev pub cell : Table → ℕ → ℕ → List ℕ
cell table row column = get_or (get_or table row []) column []

-- a row has nothing in any column of the header, whatever stands past the header
abbrev pub is_blank : Table → ℕ → Bool
is_blank table row = list_all (λ column. length (cell table row column) == 0) (range_with_len 0 (length (header_of table)))

-- what a sheet keeps: every field of a record is UTF-8, this is the number of its columns, and its rows can be counted
pub record IsTextTable (table : Table) (columns : ℕ) : Type 0 where
  pub text : list_all is_text table ≡ true
  pub few : length table < 2 ^ 64
  pub width : columns ≡ length (header_of table)

-- what a fault says of the records: which is the first that isn't UTF-8, and nothing if memory was refused
abbrev pub Explains : List (List (List ℕ)) → SheetFault → Type 0
Explains records (fault.BadRecord row) = bad_record records ≡ Some row
Explains records fault.Memory = Unit {0}

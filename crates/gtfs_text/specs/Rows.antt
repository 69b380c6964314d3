-- How a sheet keeps its records: a line without quotes as it stands in the file, and any other record packed.
use Rattle.std.specs.Prelude.{ℕ, List, ◌++◌, map}
use Rattle.gtfs_text.specs.Lines.{between_commas, rows_at}
use Rattle.gtfs_text.specs.Packed.{unpacked}
use Rattle.gtfs_text.specs.Sheets.{Table, table_of, without_spaces}
use Rattle.gtfs_text.specs.declared.lines.Place.{Place}
use Rattle.gtfs_text.specs.declared.row.Row.{Row}
use Rattle.gtfs_text.specs.declared.row.Row.TheVariants as kept

-- the fields of a row, without the spaces round them
abbrev pub fields_in : Row → List (List ℕ)
fields_in (kept.Line line) = map without_spaces (between_commas line.now)
fields_in (kept.Packed packed) = unpacked packed.now

-- the table of the lines at these places of a file, and of the packed records after them
abbrev pub kept_table : List ℕ → List Place → List (List ℕ) → Table
kept_table file lines packed = table_of (rows_at file lines) ++ map unpacked packed

-- What is said of the stops that are stored.
use Rattle.std.specs.Prelude.{◌≡◌, ℕ, List, count_by, map}
use Rattle.std.specs.List.{range_with_len}
use Rattle.timetable.specs.Table.{stops_of}
use Rattle.stop_parts.specs.Parts.{Share, is_of}
use Rattle.precomputing.specs.Missing.{missing_of}
use Rattle.answer_lines.specs.declared.report.Built.{Built}
use Rattle.answer_lines.specs.declared.report.Report.{Report}
use Rattle.answer_lines.specs.declared.report.Report.TheVariants as reports
use Rattle.feed_basis.specs.Basis.{BasisData}
use Rattle.store_terms.specs.Stores.{ids_of}

-- it is said how many stops of the part are stored, of how many, and the ids of those that aren't, in the order of their numbers
pub record CountsStored (basis : BasisData) (part : Share) (list : List ℕ) (built : Built) : Type 0 where
  pub stored : built.stored ≡ count_by (is_of part) list
  pub of : built.of ≡ count_by (is_of part) (range_with_len 0 (stops_of basis.timetable))
  pub missing : map (λ id. id.now) built.missing.items ≡ ids_of basis.names (missing_of part (stops_of basis.timetable) list)

-- the report is that of a build, of which this is right
abbrev pub ReportsBuilt : (Built → Type 0) → Report → Type 0
ReportsBuilt Right report = (built : Built) × (report ≡ reports.Built built) × Right built

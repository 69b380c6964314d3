-- The lines of a feed's faults.
use Rattle.std.specs.Prelude.{ℕ, List, [], ◌∷◌, ◌++◌, Option, None, Some, String, codes, flat_map, string_bytes, if◌then◌else◌, ◌==◌}
use Rattle.std.specs.Global.{Global}
use Rattle.std.specs.Fmt.{decimal}
use Rattle.faults.specs.Lines.{fault_lines}
use Rattle.faults.specs.declared.fault.Fault.TheVariants as faults
use Rattle.printing.specs.declared.report.FaultReport.{FaultReport}
use Rattle.printing.specs.declared.report.ListedFault.{ListedFault}

-- lines that are added, if there are any
abbrev pub beneath_text : Option (String Global) → List ℕ
beneath_text None = []
beneath_text (Some text) = string_bytes text

-- a fault's lines, as standard error has those of one fault, and what is added to them
abbrev pub listed_text : ListedFault → List ℕ
listed_text listed = fault_lines (faults.Feed listed.fault) ++ beneath_text listed.beneath

-- how many more there are, if there are any
abbrev pub more_text : ℕ → List ℕ
more_text more = if more == 0 then [] else codes "more " ++ (decimal more ++ 10 ∷ [])

-- all lines, each with its end
abbrev pub report_text : FaultReport → List ℕ
report_text report = flat_map listed_text report.faults.items ++ more_text report.more

-- What is printed of a list of faults.
use Rattle.std.specs.Prelude.{◌≡◌, map, string_bytes}
use Rattle.std.specs.Option.{IfSome}
use Rattle.std.specs.List.{All}
use Rattle.faults.specs.declared.fault.Fault.TheVariants as faults
use Rattle.file_faults.specs.declared.list.FaultList.{FaultList}
use Rattle.printing.specs.Tellings.{Telling}
use Rattle.command_line.specs.declared.given.Given.{Given}
use Rattle.printing.specs.declared.report.FaultReport.{FaultReport}
use Rattle.printing.specs.declared.report.ListedFault.{ListedFault}

-- the lines that are added to a fault's own are ones that the teller may add to those of that fault
abbrev pub IsHinted : Telling → Given → ListedFault → Type 0
IsHinted t given listed = IfSome listed.beneath (λ text. t.hints given (faults.Feed listed.fault) (string_bytes text))

-- exactly the faults of the list, and how many more there are
pub record IsReportOf (t : Telling) (given : Given) (list : FaultList) (report : FaultReport) : Type 0 where
  pub faults : map (λ listed. listed.fault) report.faults.items ≡ list.faults.items
  pub hinted : All (IsHinted t given) report.faults.items
  pub more : report.more ≡ list.more

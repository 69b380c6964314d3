use Rattle.std.proofs.Common.{◌≡◌, map, take}
use Rattle.std.specs.List.{All}
use Rattle.printing.specs.Listed.{IsHinted}
use Rattle.printing.proofs.listing.fault_report.Given as goal

abbrev pub invariant-loop-at : goal.invariant-loop-at
invariant-loop-at g l = record {
  faults : map (λ listed. listed.fault) l.faults.items ≡ take l.at l.list.faults.items;
  hinted : All (IsHinted g.T.Teller.telling l.given) l.faults.items;
}

use Rattle.std.proofs.Common.{◌≡◌, ℕ, List, take}
use Rattle.std.specs.List.{list_any}
use Rattle.jiff_core.specs.declared.civil.date.Date.{Date}
use Rattle.service_days.specs.Runs.{removes}
use Rattle.service_span.specs.Looked.{is_removed}
use Rattle.service_span.proofs.looked.removed_dates.Given as goal

abbrev pub invariant-loop-row : goal.invariant-loop-row
invariant-loop-row l = (service : List ℕ) (date : Date) → is_removed l.removed service date ≡ list_any (removes service date) (take l.row-index l.exceptions)

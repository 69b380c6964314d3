use Rattle.std.proofs.Common.{take}
use Rattle.std.specs.List.{list_any}
use Rattle.service_span.specs.Looked.{is_planned}
use Rattle.service_span.specs.Spans.{IsSpanWhere}
use Rattle.service_span.proofs.span.planned_span.Given as goal

abbrev pub invariant-loop-row : goal.invariant-loop-row
invariant-loop-row l = IsSpanWhere (λ date. list_any (is_planned l.names l.removed date) (take l.row-index l.calendar)) l.span

use Rattle.std.proofs.Common.{◌||◌}
use Rattle.std.specs.List.{list_any}
use Rattle.service_span.specs.Days.{is_service_day}
use Rattle.service_span.specs.Looked.{is_extra, is_planned}
use Rattle.service_span.proofs.RowFacts.{by_rows}
use Rattle.service_span.proofs.SpanFacts.{same_span}
use Rattle.service_span.proofs.span.span_of.Goals as goal

pub returns : goal.returns
returns c =
    let t = c.args.tables.now in
    let names = c.in_ok-names.names in
    let removed = c.in_ok-removed.removed in
    let gone = rw c.calendar_dates-exceptions.ensures.value at c.in_ok-removed.ensures in
    let planned = rw c.calendar.ensures.value at c.planned_span-planned.ensures in
    let added = rw c.calendar_dates-exceptions.ensures.value at c.added_span.ensures in
    same_span (λ date. list_any (is_planned names removed date) t.calendar || list_any (is_extra names date) t.calendar_dates) (is_service_day t) c.joined.result
    (by_rows t names removed c.in_ok-names.ensures gone)
    (c.joined.ensures (λ date. list_any (is_planned names removed date) t.calendar) (λ date. list_any (is_extra names date) t.calendar_dates) planned added)

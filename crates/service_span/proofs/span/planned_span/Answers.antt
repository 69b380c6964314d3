use Rattle.std.proofs.Common.{◌||◌, List, refl, subst, take, ◌+◌}
use Rattle.std.specs.List.{list_any}
use Rattle.std.proofs.lemmas.List.{take_all}
use Rattle.gtfs_rows.specs.declared.values.CalendarRow.{CalendarRow}
use Rattle.service_span.specs.Looked.{is_planned}
use Rattle.service_span.specs.Spans.{IsSpanWhere}
use Rattle.service_span.proofs.Bools.{any_step}
use Rattle.service_span.proofs.SpanFacts.{same_span}
use Rattle.service_span.proofs.span.planned_span.Goals as goal

pub loop-row-preserved : goal.loop-row-preserved
loop-row-preserved c =
    let test = is_planned c.args.names.now c.args.removed.now in
    let rows = c.args.calendar.now in
    let i = c.loop-row.row-index in
    let row = c.row-item.result in
    same_span (λ date. list_any (test date) (take i rows) || test date row) (λ date. list_any (test date) (take (i + 1) rows)) c.joined-span.result
    (λ date. any_step (test date) rows i row (list_any (test date) (take i rows)) (list_any (test date) (take i rows) || test date row) c.loop-row-test.true c.row-item.is refl refl)
    (c.joined-span.ensures (λ date. list_any (test date) (take i rows)) (λ date. test date row) c.loop-row.invariant c.planned_by.ensures)

pub returns : goal.returns
returns c =
    subst (λ (rows : List CalendarRow). IsSpanWhere (λ date. list_any (is_planned c.args.names.now c.args.removed.now date) rows) c.loop-row.span) (take_all c.loop-row.row-index c.args.calendar.now c.loop-row-test.false) c.loop-row.invariant

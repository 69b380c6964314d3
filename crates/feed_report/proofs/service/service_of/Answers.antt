use Rattle.std.proofs.Common.{Option, subst}
use Rattle.service_span.specs.Spans.{IsSpan}
use Rattle.service_span.specs.declared.span.Span.{Span}
use Rattle.feed_report.proofs.service.service_of.Goals as goal

pub returns : goal.returns
returns c = record {
  span = subst (λ (span : Option Span). IsSpan c.args.tables.now span) c.in-Some.is c.in_ok-span.ensures;
  first = c.week-first.result.0;
  days = c.week-first.result.1;
  week_is = c.week-first.ensures;
  week = c.in_ok-week.ensures;
}

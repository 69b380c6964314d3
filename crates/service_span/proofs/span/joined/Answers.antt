use Rattle.service_span.specs.Spans.{IsSpanOf}
use Rattle.service_span.proofs.SpanFacts.{both}
use Rattle.service_span.proofs.span.joined.Goals as goal

pub returns : goal.returns
returns c = λ p q h k.
    let ha : IsSpanOf p c.in-Some.a = rw c.in-Some.is at h in
    let hb : IsSpanOf q c.in-Some-b.b = rw c.in-Some-b.is at k in
    both p q c.in-Some.a c.in-Some-b.b c.earlier.result c.later.result ha hb c.earlier.ensures.one c.earlier.ensures.first c.earlier.ensures.second
    c.later.ensures.one c.later.ensures.first c.later.ensures.second

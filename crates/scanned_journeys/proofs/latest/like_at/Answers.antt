use Rattle.std.proofs.Common.{Option, ◌≡◌, Some, None, IfNone}
use Rattle.std.specs.List.{Contains}
use Rattle.std.proofs.lemmas.List.Elements.{Contains-get_or}
use Rattle.timetable.specs.Journeys.{Reaches, Unbeaten}
use Rattle.rounds.specs.Scratch.{rides_of}
use Rattle.pattern_query.specs.Answer.{PointData, numbers}
use Rattle.pattern_query.proofs.Best.{contains_point}
use Rattle.scanned_journeys.proofs.latest.like_at.Goals as goal

none_then : {P Q : Type 0} (o : Option PointData) → (P → Q) → IfNone o P → IfNone o Q
none_then None f h = f h
none_then (Some x) f h = tt

pub returns-clause-none : goal.returns-clause-none
returns-clause-none c =
    let points = c.points.result.now in
    let n = numbers c.args.point.now in
    let front = c.in_ok-answer.ensures.best in
    none_then c.with_numbers.result
    (λ (none : (q : PointData) → Contains points q → ¬ (numbers q ≡ n)) (best : Unbeaten
    (Reaches c.args.network.now 0 (rides_of c.args.scratch.now) c.args.from c.args.to c.args.event) n).
    let k = contains_point c.in_ok-answer.answer n (front.all n best) (λ q. Contains c.in_ok-answer.answer q) (λ i d lt. Contains-get_or c.in_ok-answer.answer i d lt) in
    none k.0 (rw c.points.ensures k.1) k.2)
    c.with_numbers.ensures.none

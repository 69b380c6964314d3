use Rattle.std.proofs.Common.{ℕ, List, map, subst}
use Rattle.std.specs.List.{All}
use Rattle.std.specs.Prelude.{IfOk}
use Rattle.pattern_query.specs.Answer.{PointData, numbers}
use Rattle.pattern_query.specs.Leaving.{IsLatest}
use Rattle.timetable.specs.Front.{AreFront}
use Rattle.timetable.specs.Journeys.{Reaches}
use Rattle.scanned_journeys.proofs.scanning.scan_journeys.Goals as goal

pub returns-clause-best : goal.returns-clause-best
returns-clause-best c =
    subst (λ (k : ℕ). IfOk c.last_journeys.result (λ (answer : List PointData).
    AreFront c.args.network.now k c.args.from c.args.to c.args.depart (map numbers answer))) c.in_ok-scratch.ensures.rides c.last_journeys.ensures.best

pub returns-clause-latest : goal.returns-clause-latest
returns-clause-latest c =
    subst (λ (k : ℕ). IfOk c.last_journeys.result (All (IsLatest (Reaches c.args.network.now 0 k c.args.from c.args.to))))
    c.in_ok-scratch.ensures.rides c.last_journeys.ensures.latest

use Rattle.std.proofs.Common.{ℕ, subst, map}
use Rattle.std.proofs.lemmas.List.Elements.{All-weaker}
use Rattle.rounds.specs.Scratch.{rounds_of}
use Rattle.pattern_query.specs.Answer.{PointData, numbers, IsJourney, IsPoint}
use Rattle.scanned_journeys.proofs.ScanFacts.{counted, front_of}
use Rattle.scanned_journeys.proofs.scanning.journeys_of.Goals as goal

pub patterns_to-requires-clause-counted : goal.patterns_to-requires-clause-counted
patterns_to-requires-clause-counted c =
    counted c.args.network.now c.args.from c.args.to c.args.depart c.args.rides (rounds_of c.args.view.now) c.requires.rounds c.requires.to

pub patterns_to-requires-clause-count : goal.patterns_to-requires-clause-count
patterns_to-requires-clause-count c = c.requires.rounds.count

pub returns-clause-journeys : goal.returns-clause-journeys
returns-clause-journeys c =
    let table = c.args.network.now in
    let tree = c.in_ok-patterns.patterns in
    All-weaker (IsPoint table tree c.args.to c.args.depart) (IsJourney table c.args.from c.args.to c.args.depart)
    (λ (p : PointData) (is : IsPoint table tree c.args.to c.args.depart p).
    subst (λ (s : ℕ). IsJourney table s c.args.to c.args.depart p) c.in_ok-patterns.ensures.source is.is) c.ask.result c.ask.ensures.points

pub returns-clause-best : goal.returns-clause-best
returns-clause-best c =
    front_of c.args.network.now c.args.from c.args.to c.args.depart c.args.rides (rounds_of c.args.view.now) c.requires.rounds c.requires.to
    c.in_ok-patterns.patterns c.in_ok-patterns.ensures.source c.in_ok-patterns.ensures.patterns (map numbers c.ask.result) c.ask.ensures.best

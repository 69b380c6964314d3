use Rattle.rounds.specs.Scratch.{rides_of}
use Rattle.connections.proofs.LeastFacts.{own_journey, own_best, own_early, least_for}
use Rattle.connections.proofs.least.with_least.Goals as goal

pub least_walk-requires-clause-from : goal.least_walk-requires-clause-from
least_walk-requires-clause-from c = c.requires.is.from

pub least_walk-requires-clause-early : goal.least_walk-requires-clause-early
least_walk-requires-clause-early c = own_early c.args.network.now (rides_of c.args.scratch.now) c.args.connection.now c.requires.is

pub least_walk-requires-clause-is : goal.least_walk-requires-clause-is
least_walk-requires-clause-is c = own_journey c.args.network.now (rides_of c.args.scratch.now) c.args.connection.now c.requires.is

pub least_walk-requires-clause-best : goal.least_walk-requires-clause-best
least_walk-requires-clause-best c = own_best c.args.network.now (rides_of c.args.scratch.now) c.args.connection.now c.requires.is

pub returns-clause-least : goal.returns-clause-least
returns-clause-least c =
    least_for c.args.network.now (rides_of c.args.scratch.now) c.args.connection.now c.requires.is c.in_ok-least.least
    c.in_ok-least.ensures.least

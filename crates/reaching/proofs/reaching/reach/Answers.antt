use Rattle.std.proofs.Common.{subst, sym}
use Rattle.rounds.specs.Answers.{AreRounds}
use Rattle.reaching.proofs.ListFacts.{all_reached}
use Rattle.reaching.proofs.reaching.reach.Goals as goal

pub returns : goal.returns
returns c =
    all_reached c.args.table.now c.args.rides c.args.from c.args.depart c.args.last c.in_ok-list.list.items c.sort_stops.new.list.items
    c.in_ok-list.ensures c.sort_stops.ensures.kept (c.in_ok-sort_stops.ensures.sorted c.in_ok-list.ensures.rising)

pub list_stops-requires-clause-rounds : goal.list_stops-requires-clause-rounds
list_stops-requires-clause-rounds c =
    subst (AreRounds c.args.table.now c.args.from c.args.depart c.args.rides) (sym c.view.ensures) c.in_ok-rounds.ensures

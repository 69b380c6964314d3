use Rattle.pattern_query.proofs.TreeSteps.{points_are, best_are}
use Rattle.pattern_query.proofs.asking.ask_any.Goals as goal

pub returns-clause-points : goal.returns-clause-points
returns-clause-points g c =
    points_are c.args.network.now c.args.patterns.now c.args.to c.args.depart c.new-best.result c.search.new.self c.answer.result c.new-best.ensures
    c.search.ensures c.answer.ensures

pub returns-clause-best : goal.returns-clause-best
returns-clause-best g c =
    best_are c.args.network.now c.args.patterns.now c.args.to c.args.depart c.new-best.result c.search.new.self c.answer.result c.new-best.ensures
    c.search.ensures c.answer.ensures

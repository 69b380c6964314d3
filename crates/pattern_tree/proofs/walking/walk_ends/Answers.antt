use Rattle.pattern_tree.proofs.WalkFacts.{shown_end}
use Rattle.pattern_tree.proofs.walking.walk_ends.Goals as goal

pub loop-end-preserved : goal.loop-end-preserved
loop-end-preserved g c =
    shown_end g.V.Visitor.shows c.args.visitor.now c.loop-end.visitor c.visit.new.self c.args.path.now c.args.ends.now c.loop-end.end-index c.end-item.result c.end-item.is c.loop-end-test.true c.loop-end.invariant c.visit.ensures

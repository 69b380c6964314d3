use Rattle.std.proofs.Common.{ℕ, subst, sym}
use Rattle.pattern_query.specs.BestSoFar.{AreThere, IsSearched, IsAlong}
use Rattle.packed_patterns.specs.Patterns.{paths_of}
use Rattle.pattern_query.specs.Way.{EmptyOrIn}
use Rattle.pattern_query.specs.Leaving.{LeaveLast}
use Rattle.pattern_query.proofs.LeaveSteps.{counted_same}
use Rattle.pattern_query.proofs.AlongSteps.{tree_there, tree_leaves}
use Rattle.pattern_query.proofs.best_so_far.BestSoFar.leave_last.Goals as goal

pub leave_last-requires-clause-least : goal.leave_last-requires-clause-least
leave_last-requires-clause-least g c =
    let T = c.args.network.now in
    let tree = c.args.patterns.now in
    let paths = paths_of c.ending_at.result.beginnings.now c.ending_at.result.patterns.now in
    let searched : IsSearched T tree c.args.to c.args.depart c.self.inside.points = rw c.self.view_is c.requires.searched in
    subst (λ (s : ℕ). AreThere T s c.args.to c.args.depart (EmptyOrIn paths) c.self.inside.points) (sym c.source.ensures)
    (tree_there T tree c.args.to c.args.depart paths c.ending_at.ensures c.self.inside.points searched)

pub invariant_of-self : goal.invariant_of-self
invariant_of-self g c = counted_same c.self.inside.points c.leave_last.new.points c.leave_last.ensures.same c.self.invariant c.leave_last.auto.points

pub returns : goal.returns
returns g c =
    let T = c.args.network.now in
    let tree = c.args.patterns.now in
    let paths = paths_of c.ending_at.result.beginnings.now c.ending_at.result.patterns.now in
    let old = c.self.inside.points in
    let new = c.leave_last.new.points in
    let leaves : LeaveLast T (IsAlong T tree.source c.args.to c.args.depart (EmptyOrIn paths)) old new =
    subst (λ (s : ℕ). LeaveLast T (IsAlong T s c.args.to c.args.depart (EmptyOrIn paths)) old new) c.source.ensures c.leave_last.ensures in
    rw (← c.self.view_is) (tree_leaves T tree c.args.to c.args.depart paths c.ending_at.ensures old new
    (counted_same old new c.leave_last.ensures.same c.self.invariant c.leave_last.auto.points) leaves)

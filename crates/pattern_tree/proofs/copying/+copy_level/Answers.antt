use Rattle.std.proofs.Common.{ap, ◌∙◌, refl, arith, ◌≤◌, ◌+◌, subst, rules}
use Rattle.pattern_tree.specs.Branch.{branches, branch}
use Rattle.pattern_tree.proofs.GrowthFacts.{copied, copied_more}
use Rattle.std.proofs.lemmas.List.{take_all, length-map}
use Rattle.pattern_tree.specs.Forest.{Forest, forest, levels}
use Rattle.pattern_tree.proofs.NodeFacts.{next_out}
use Rattle.pattern_tree.proofs.WalkFacts.{levels_at}
use Rattle.pattern_tree.proofs.copying.+copy_level.Goals as goal

pub loop-node-preserved : goal.loop-node-preserved
loop-node-preserved g t c =
    let n = c.node-item.result in
    copied_more c.args.level.now c.loop-node.copies.items c.push.new.self.items c.loop-node.node-index n _ c.loop-node.invariant c.in_ok-push.ensures.items c.node-item.is c.loop-node-test.true (copied _ _ n _ refl refl (c.in_ok-ends.ensures.items ∙ c.deref.ensures.value) (c.in_ok-next.ensures ∙ ap branches c.deref-in-loop-node.ensures.value))

pub offset_bounds-level-node-index : goal.offset_bounds-level-node-index
offset_bounds-level-node-index g t c = omega (arith, c.loop-node-test.true)

pub bounds-level-node-index : goal.bounds-level-node-index
bounds-level-node-index g t c = omega (arith, c.loop-node-test.true)

pub loop-node-smaller : goal.loop-node-smaller
loop-node-smaller g t c = omega (arith, c.loop-node-test.true)

pub returns : goal.returns
returns g t c =
    c.loop-node.invariant ∙ take_all c.loop-node.node-index (branches c.args.level.now) (omega (arith, c.loop-node-test.false, length-map c.args.level.now branch))

pub copy_level-requires : goal.copy_level-requires
copy_level-requires g t c κs within =
    let n = c.node-item.result in
    let all = levels (forest (branches c.args.level.now)) in
    let deep : levels (branch n).next + 1 ≤ all = levels_at c.args.level.now c.loop-node.node-index n c.node-item.is c.loop-node-test.true in
    let below : levels (forest (branches c.deref-in-loop-node.result.now)) + 1 ≤ all = rw c.deref-in-loop-node.ensures.value (subst (λ (f : Forest). levels f + 1 ≤ levels (forest (branches c.args.level.now))) (next_out _ n) deep) in
    (search rules, within)

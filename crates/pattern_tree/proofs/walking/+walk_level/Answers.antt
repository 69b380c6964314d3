use Rattle.std.proofs.Common.{◌≡◌, ◌≤◌, ◌+◌, ◌++◌, ◌∷◌, ◌∙◌, [], List, length, map, arith, ap, subst, rules, lit<, ◌<◌}
use Rattle.pattern_tree.specs.Forest.{Forest, forest, levels, pairs, step_of, Branch}
use Rattle.pattern_tree.specs.Branch.{branch, branches}
use Rattle.pattern_tree.specs.Walks.{ShownAll, ending, after}
use Rattle.pattern_tree.proofs.NodeFacts.{ends_out, next_out}
use Rattle.pattern_tree.proofs.WalkFacts.{levels_at, shown_more, length_pushed, popped, pushed_step}
use Rattle.std.proofs.lemmas.List.{take_all, length-map}
use Rattle.pattern_tree.proofs.walking.+walk_level.Goals as goal

pub walk_level-requires : goal.walk_level-requires
walk_level-requires g t c κs within =
    let n = c.node-item.result in
    let deep : levels (branch n).next + 1 ≤ levels (forest (branches c.args.level.now)) = levels_at c.args.level.now c.loop-node.node-index n c.node-item.is c.loop-node-test.true in
    let below : levels (forest (branches c.deref-in-loop-node.result.now)) + 1 ≤ levels (forest (branches c.args.level.now)) = rw c.deref-in-loop-node.ensures.value (subst (λ (f : Forest). levels f + 1 ≤ levels (forest (branches c.args.level.now))) (next_out _ n) deep) in
    let longer = length_pushed c.loop-node.path.items c.push.new.self.items _ c.push.ensures.items in
    (search rules, (within.0, (within.1, omega (arith, below, longer, ap length c.loop-node.invariant.path, c.requires))))

pub loop-node-preserved : goal.loop-node-preserved
loop-node-preserved g t c =
    let n = c.node-item.result in
    let path = c.args.path.now.items in
    let pushed : c.push.new.self.items ≡ path ++ (step_of (branch n) ∷ []) = pushed_step n path c.loop-node.path.items c.push.new.self.items c.push.ensures.items c.loop-node.invariant.path in
    let ends_shown : ShownAll g.V.Visitor.shows c.loop-node.visitor (map (ending (path ++ step_of (branch n) ∷ [])) (branch n).ends) c.walk_ends.new.visitor =
    rw (ends_out _ n, ← c.deref.ensures.value, ← pushed, ← c.as_slice.ensures.value) c.walk_ends.ensures in
    let next_shown : ShownAll g.V.Visitor.shows c.walk_ends.new.visitor (map (after (path ++ step_of (branch n) ∷ [])) (pairs (branch n).next)) c.walk_level.new.visitor =
    rw (next_out _ n, ← c.deref-in-loop-node.ensures.value, ← pushed) c.walk_level.ensures.shown in
    record {
      path = popped path c.walk_level.new.path.items c.pop.new.self.items (step_of (branch n)) (c.walk_level.ensures.path ∙ pushed) c.pop.ensures.rest;
      shown = shown_more g.V.Visitor.shows c.args.visitor.now c.loop-node.visitor c.walk_ends.new.visitor c.walk_level.new.visitor path c.args.level.now c.loop-node.node-index n c.node-item.is c.loop-node-test.true c.loop-node.invariant.shown ends_shown next_shown;
    }

pub offset_bounds-level-node-index : goal.offset_bounds-level-node-index
offset_bounds-level-node-index g t c = omega (arith, c.loop-node-test.true)

pub bounds-level-node-index : goal.bounds-level-node-index
bounds-level-node-index g t c = omega (arith, c.loop-node-test.true)

pub walk_ends-requires : goal.walk_ends-requires
walk_ends-requires g t c =
    let n = c.node-item.result in
    let deep : levels (branch n).next + 1 ≤ levels (forest (branches c.args.level.now)) = levels_at c.args.level.now c.loop-node.node-index n c.node-item.is c.loop-node-test.true in
    let longer = length_pushed c.loop-node.path.items c.push.new.self.items _ c.push.ensures.items in
    omega (arith, deep, longer, ap length c.loop-node.invariant.path, ap length c.as_slice.ensures.value, c.requires)

pub loop-node-smaller : goal.loop-node-smaller
loop-node-smaller g t c = omega (arith, c.loop-node-test.true)

pub returns-clause-path : goal.returns-clause-path
returns-clause-path g t c = c.loop-node.invariant.path

pub returns-clause-shown : goal.returns-clause-shown
returns-clause-shown g t c =
    let all = take_all c.loop-node.node-index (branches c.args.level.now) (omega (arith, c.loop-node-test.false, length-map c.args.level.now branch)) in
    subst (λ (bs : List Branch). ShownAll g.V.Visitor.shows c.args.visitor.now (map (after c.args.path.now.items) (pairs (forest bs))) c.loop-node.visitor) all c.loop-node.invariant.shown

pub push-requires : goal.push-requires
push-requires g t c =
    let n = c.node-item.result in
    let deep : levels (branch n).next + 1 ≤ levels (forest (branches c.args.level.now)) = levels_at c.args.level.now c.loop-node.node-index n c.node-item.is c.loop-node-test.true in
    let few : length c.loop-node.path.items < 8 = omega (arith, deep, ap length c.loop-node.invariant.path, c.requires) in
    (lit< tt, few)

use Rattle.std.proofs.Common.{◌≡◌, ◌≤◌, ◌+◌, max, List, [], ◌∷◌, length, arith, subst, rules, ap, sym, ◌∙◌, refl}
use Rattle.std.specs.Vec.{vec_len}
use Rattle.std.proofs.lemmas.Bool.{eqb-true}
use Rattle.std.proofs.lemmas.List.{take_all, length-map}
use Rattle.pattern_tree.specs.Forest.{Forest, forest, levels, Branch}
use Rattle.pattern_tree.specs.Branch.{branch, branches}
use Rattle.pattern_tree.specs.declared.node.Node.{Node}
use Rattle.pattern_tree.specs.declared.node.Node.TheViews.{out-Node}
use Rattle.pattern_tree.proofs.NodeFacts.{next_out}
use Rattle.pattern_tree.proofs.WalkFacts.{levels_at, levels_more}
use Rattle.pattern_tree.proofs.measure.+depth_of.Goals as goal
use Rattle.pattern_tree.proofs.measure.+depth_of.Goals.{then-not-is_empty, else-not-is_empty}

no_levels : {A : Type 0} (ns : List (Node A)) → length ns ≡ 0 → levels (forest (branches ns)) ≡ 0
no_levels [] e = refl
no_levels (n ∷ ns) e = absurd (omega (arith, e))

leaf : {A : Type 0} (n : Node A) → length (out-Node A n).next.items ≡ 0 → levels (branch n).next ≡ 0
leaf {A} n e = ap levels (next_out A n) ∙ no_levels (out-Node A n).next.items e

pub depth_of-below-requires : goal.depth_of-below-requires
depth_of-below-requires g t c κs within =
    let n = c.node-item.result in
    let all = levels (forest (branches c.args.level.now)) in
    let deep : levels (branch n).next + 1 ≤ all = levels_at c.args.level.now c.loop-node.node-index n c.node-item.is c.loop-node-test.true in
    let below : levels (forest (branches c.deref.result.now)) + 1 ≤ all = rw c.deref.ensures.value (subst (λ (f : Forest). levels f + 1 ≤ levels (forest (branches c.args.level.now))) (next_out _ n) deep) in
    (search rules, (within, omega (arith, below, c.requires)))

pub overflow_add-below : goal.overflow_add-below
overflow_add-below g t c =
    let n = c.node-item.result in
    let low : levels (branch n).next ≤ 8 = omega (arith, levels_at c.args.level.now c.loop-node.node-index n c.node-item.is c.loop-node-test.true, c.requires) in
    let is : c.if-not-is_empty.below ≡ levels (branch n).next = elim c.if-not-is_empty.branch [
      | then-not-is_empty w ↦ w.below-is ∙ rw (next_out _ n, ← w.deref.ensures.value) w.depth_of-below.ensures
      | else-not-is_empty w ↦
          let empty : length (out-Node _ n).next.items ≡ 0 =
          omega (arith, (out-Node _ n).next.ok.0, eqb-true (vec_len (out-Node _ n).next) 0 (sym w.if-not-is_empty.ensures)) in
          omega (arith, w.below-is, leaf n empty)
    ] in
    let bound : c.if-not-is_empty.below ≤ 8 = omega (arith, low, is) in
    search rules

pub loop-node-preserved : goal.loop-node-preserved
loop-node-preserved g t c =
    let n = c.node-item.result in
    let i = c.loop-node.node-index in
    let is : c.if-not-is_empty.below ≡ levels (branch n).next = elim c.if-not-is_empty.branch [
      | then-not-is_empty w ↦ w.below-is ∙ rw (next_out _ n, ← w.deref.ensures.value) w.depth_of-below.ensures
      | else-not-is_empty w ↦
          let empty : length (out-Node _ n).next.items ≡ 0 =
          omega (arith, (out-Node _ n).next.ok.0, eqb-true (vec_len (out-Node _ n).next) 0 (sym w.if-not-is_empty.ensures)) in
          omega (arith, w.below-is, leaf n empty)
    ] in
    let more = levels_more c.args.level.now i n c.node-item.is c.loop-node-test.true in
    let deepest : c.max-deepest.result ≡ max c.loop-node.deepest (c.if-not-is_empty.below + 1) = grind arith in
    omega (arith, deepest, is, more, c.loop-node.invariant)

pub offset_bounds-level-node-index : goal.offset_bounds-level-node-index
offset_bounds-level-node-index g t c = omega (arith, c.loop-node-test.true)

pub bounds-level-node-index : goal.bounds-level-node-index
bounds-level-node-index g t c = omega (arith, c.loop-node-test.true)

pub loop-node-smaller : goal.loop-node-smaller
loop-node-smaller g t c = omega (arith, c.loop-node-test.true)

pub returns : goal.returns
returns g t c =
    let all = take_all c.loop-node.node-index (branches c.args.level.now) (omega (arith, c.loop-node-test.false, length-map c.args.level.now branch)) in
    c.loop-node.invariant ∙ ap (λ (bs : List Branch). levels (forest bs)) all

use Rattle.std.proofs.Common.{◌<◌, ◌+◌, ◌-◌, ◌/◌, length, arith, sym, subst, ◌≡◌}
use Rattle.std.proofs.lemmas.List.{length-map}
use Rattle.pattern_tree.specs.Forest.{Branch, IsBefore, step_of, Step}
use Rattle.pattern_tree.specs.Branch.{branch, branches}
use Rattle.pattern_tree.proofs.NodeFacts.{branch_at}
use Rattle.pattern_tree.proofs.StepFacts.{below_middle, above_middle}
use Rattle.pattern_tree.proofs.siblings.index_of.Goals as goal

pub loop-low-preserved-in-Less : goal.loop-low-preserved-in-Less
loop-low-preserved-in-Less g c =
    let bs = branches c.args.level.now in
    let n = c.index-level-middle.result in
    let at = branch_at c.args.level.now _ n in
    let len = length-map c.args.level.now branch in
    let s : Step = c.args.step.now in
    let m = c.loop-low.low + (c.loop-low.high - c.loop-low.low) / 2 in
    let lt : m < length bs = omega (arith, c.loop-low-test.true, c.loop-low.invariant.in_range) in
    record {
      ordered = omega (arith, c.loop-low-test.true);
      in_range = c.loop-low.invariant.in_range;
      below = below_middle bs s m c.requires lt (λ d. subst (λ (b : Branch). IsBefore (step_of b) s) (sym (at d c.index-level-middle.is (omega (arith, lt, len)))) c.in-Less.ensures);
      above = c.loop-low.invariant.above;
    }

pub loop-low-preserved : goal.loop-low-preserved
loop-low-preserved g c =
    let bs = branches c.args.level.now in
    let n = c.index-level-middle.result in
    let at = branch_at c.args.level.now _ n in
    let len = length-map c.args.level.now branch in
    let s : Step = c.args.step.now in
    let m = c.loop-low.low + (c.loop-low.high - c.loop-low.low) / 2 in
    let lt : m < length bs = omega (arith, c.loop-low-test.true, c.loop-low.invariant.in_range) in
    record {
      ordered = omega (arith, c.loop-low-test.true);
      in_range = omega (arith, lt);
      below = c.loop-low.invariant.below;
      above = above_middle bs s m c.requires (λ d. subst (λ (b : Branch). IsBefore s (step_of b)) (sym (at d c.index-level-middle.is (omega (arith, lt, len)))) c.in-Greater.ensures);
    }

pub loop-low-init : goal.loop-low-init
loop-low-init g c =
    let len = length-map c.args.level.now branch in
    record {
      ordered = omega arith;
      in_range = omega (arith, len);
      below = λ k d lt. absurd (omega (arith, lt));
      above = λ k d le lt. absurd (omega (arith, le, lt, len));
    }

pub overflow_sub-middle : goal.overflow_sub-middle
overflow_sub-middle g c = omega (arith, c.loop-low-test.true)

pub offset_bounds-level-middle : goal.offset_bounds-level-middle
offset_bounds-level-middle g c = omega (arith, c.loop-low-test.true, c.loop-low.invariant.in_range, length-map c.args.level.now branch)

pub bounds-level-middle : goal.bounds-level-middle
bounds-level-middle g c = omega (arith, c.loop-low-test.true, c.loop-low.invariant.in_range, length-map c.args.level.now branch)

pub loop-low-smaller-in-Less : goal.loop-low-smaller-in-Less
loop-low-smaller-in-Less g c = omega (arith, c.loop-low-test.true)

pub loop-low-smaller : goal.loop-low-smaller
loop-low-smaller g c = omega (arith, c.loop-low-test.true)

pub returns-in-Equal : goal.returns-in-Equal
returns-in-Equal g c =
    let bs = branches c.args.level.now in
    let n = c.index-level-middle.result in
    let len = length-map c.args.level.now branch in
    let m = c.loop-low.low + (c.loop-low.high - c.loop-low.low) / 2 in
    let lt : m < length bs = omega (arith, c.loop-low-test.true, c.loop-low.invariant.in_range) in
    let s : Step = c.args.step.now in
    (lt, λ d. subst (λ (b : Branch). step_of b ≡ s) (sym (branch_at c.args.level.now m n d c.index-level-middle.is (omega (arith, lt, len)))) c.in-Equal.ensures)

pub returns : goal.returns
returns g c = (
  omega (arith, c.loop-low.invariant.ordered, c.loop-low.invariant.in_range),
  c.loop-low.invariant.below,
  λ k d le lt. c.loop-low.invariant.above k d (omega (arith, c.loop-low-test.false, le)) lt,
)

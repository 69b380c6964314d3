use Rattle.std.proofs.Common.{rules, ◌≡◌, arith, sym, ap, subst, List, ◌∙◌}
use Rattle.std.proofs.lemmas.List.{length-map}
use Rattle.pattern_tree.specs.Forest.{Branch, Step, IsOrdered}
use Rattle.pattern_tree.specs.Added.{missing_count}
use Rattle.pattern_tree.specs.Branch.{branch, branches}
use Rattle.pattern_tree.proofs.SiblingFacts.{OrderedAt, steps_rise, ordered_at}
use Rattle.pattern_tree.proofs.NodeFacts.{branch_at, next_out}
use Rattle.pattern_tree.proofs.GrowthFacts.{empty_list}
use Rattle.pattern_tree.proofs.KeptFacts.{missing_gap, missing_end_at, missing_at}
use Rattle.pattern_tree.proofs.search.+missing.Goals as goal

pub index_of-requires : goal.index_of-requires
index_of-requires g t c = steps_rise (branches c.args.level.now) c.requires.ordered

pub returns-in_default-clause-count : goal.returns-in_default-clause-count
returns-in_default-clause-count g t c = omega (arith, missing_gap (branches c.args.level.now) c.args.step.now c.args.later.now c.in_default.field-0 c.in_default.ensures)

pub returns-in_default-split_first-clause-count : goal.returns-in_default-split_first-clause-count
returns-in_default-split_first-clause-count g t c =
    let bs = branches c.args.level.now in
    rw (empty_list c.args.later.now c.in_default-split_first.ensures.cases) (sym (missing_end_at bs c.args.step.now c.in-Ok.at (steps_rise bs c.requires.ordered) c.in-Ok.ensures))

pub missing-requires : goal.missing-requires
missing-requires g t c κs within =
    let n = c.index-level-at.result in
    let bs = branches c.args.level.now in
    let same = branch_at c.args.level.now c.in-Ok.at n (branch n) c.index-level-at.is (omega (arith, c.in-Ok.ensures.0, length-map c.args.level.now branch)) in
    let o = subst OrderedAt same (ordered_at bs c.requires.ordered c.in-Ok.at (branch n) c.in-Ok.ensures.0) in
    (search rules, (within, (rw (c.deref.ensures.value, ← c.index-level-at.is) (subst IsOrdered (next_out _ n) o.next), omega (arith, c.requires.short, c.in-Some.ensures.cases.1))))

pub returns-clause-count : goal.returns-clause-count
returns-clause-count g t c =
    let n = c.index-level-at.result in
    let bs = branches c.args.level.now in
    let q : List Step = c.in-Some.rest.now in
    let same = branch_at c.args.level.now c.in-Ok.at n (branch n) c.index-level-at.is (omega (arith, c.in-Ok.ensures.0, length-map c.args.level.now branch)) in
    let found = missing_at bs c.args.step.now c.in-Some.below.now q c.in-Ok.at (branch n) (steps_rise bs c.requires.ordered) c.in-Ok.ensures in
    let below : c.missing.result ≡ missing_count c.in-Some.below.now q (branch n).next = rw (next_out _ n, c.index-level-at.is, ← c.deref.ensures.value) c.missing.ensures.count in
    rw c.in-Some.ensures.cases.0 (below ∙ ap (λ (b : Branch). missing_count c.in-Some.below.now q b.next) (sym same) ∙ sym found)

pub returns-in_default-clause-bound : goal.returns-in_default-clause-bound
returns-in_default-clause-bound g t c = omega arith

pub returns-in_default-split_first-clause-bound : goal.returns-in_default-split_first-clause-bound
returns-in_default-split_first-clause-bound g t c = omega arith

pub offset_bounds-level-at : goal.offset_bounds-level-at
offset_bounds-level-at g t c = omega (arith, c.in-Ok.ensures.0, length-map c.args.level.now branch)

pub bounds-level-at : goal.bounds-level-at
bounds-level-at g t c = omega (arith, c.in-Ok.ensures.0, length-map c.args.level.now branch)

pub returns-clause-bound : goal.returns-clause-bound
returns-clause-bound g t c = omega (arith, c.missing.ensures.bound, c.in-Some.ensures.cases.1)

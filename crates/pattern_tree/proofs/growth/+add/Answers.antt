use Rattle.std.proofs.Common.{rules, ◌<◌, length, arith, sym, ap, subst, List, ◌∷◌, [], ◌∙◌}
use Rattle.std.proofs.lemmas.List.{length-map}
use Rattle.pattern_tree.specs.Forest.{forest, Step, IsOrdered, Rises}
use Rattle.pattern_tree.specs.Added.{with_end, with_pair}
use Rattle.pattern_tree.specs.Branch.{branch, branches}
use Rattle.pattern_tree.specs.Siblings.{IsStepAt, IsGapAt}
use Rattle.pattern_tree.proofs.SiblingFacts.{OrderedAt, steps_rise, ordered_at}
use Rattle.pattern_tree.proofs.NodeFacts.{branch_at, ends_out, next_out}
use Rattle.pattern_tree.proofs.GrowthFacts.{empty_list, chained_level, grown_level, same_level, with_ends, with_next, on_err_always}
use Rattle.pattern_tree.proofs.growth.+add.Goals as goal

pub index_of-requires : goal.index_of-requires
index_of-requires g t c = rw c.deref.ensures.value (steps_rise (branches c.args.level.now.items) c.requires)

pub add_end-requires : goal.add_end-requires
add_end-requires g t c =
    let ns = c.args.level.now.items in
    let bs = branches ns in
    let n = c.index_mut-node.result.now in
    let at : IsStepAt bs c.args.step.now c.in-Ok.at = rw (← c.deref.ensures.value) c.in-Ok.ensures in
    let same = branch_at ns c.in-Ok.at n (branch n) c.index_mut-node.ensures.value (omega (arith, at.0, length-map ns branch)) in
    let o = subst OrderedAt same (ordered_at bs c.requires c.in-Ok.at (branch n) at.0) in
    subst Rises (ends_out _ n) o.ends

pub add-requires : goal.add-requires
add-requires g t c κs within =
    let ns = c.args.level.now.items in
    let bs = branches ns in
    let n = c.index_mut-node.result.now in
    let at : IsStepAt bs c.args.step.now c.in-Ok.at = rw (← c.deref.ensures.value) c.in-Ok.ensures in
    let same = branch_at ns c.in-Ok.at n (branch n) c.index_mut-node.ensures.value (omega (arith, at.0, length-map ns branch)) in
    let o = subst OrderedAt same (ordered_at bs c.requires c.in-Ok.at (branch n) at.0) in
    (search rules, (within, subst IsOrdered (next_out _ n) o.next))

pub returns-in_err-add_end-in-None-clause-err : goal.returns-in_err-add_end-in-None-clause-err
returns-in_err-add_end-in-None-clause-err g t c =
    let ns = c.args.level.now.items in
    let bs = branches ns in
    let n = c.index_mut-node.result.now in
    let at : IsStepAt bs c.args.step.now c.in-Ok.at = rw (← c.deref.ensures.value) c.in-Ok.ensures in
    let lt : c.in-Ok.at < length ns = omega (arith, at.0, length-map ns branch) in
    let e = same_level ns c.in-Ok.at n _ c.index_mut-node.ensures.value lt (with_ends _ n c.add_end.new.ends (branch n).ends (c.in_err-add_end-in-None.ensures.err ∙ sym (ends_out _ n))) in
    on_err_always _ e

pub returns-in_ok-insert-in-Err-clause-ok : goal.returns-in_ok-insert-in-Err-clause-ok
returns-in_ok-insert-in-Err-clause-ok g t c =
    let ns = c.args.level.now.items in
    let gap : IsGapAt (branches ns) c.args.step.now c.in-Err.at = rw (← c.deref.ensures.value) c.in-Err.ensures in
    rw c.in_ok-insert-in-Err.ensures.items (chained_level ns c.in-Err.at c.in_ok-node-in-Err.node c.args.step.now c.args.later.now c.args.end gap c.in_ok-node-in-Err.ensures)

pub returns-in_ok-add_end-in-None-clause-ok : goal.returns-in_ok-add_end-in-None-clause-ok
returns-in_ok-add_end-in-None-clause-ok g t c =
    let ns = c.args.level.now.items in
    let bs = branches ns in
    let n = c.index_mut-node.result.now in
    let at : IsStepAt bs c.args.step.now c.in-Ok.at = rw (← c.deref.ensures.value) c.in-Ok.ensures in
    let e = grown_level ns c.in-Ok.at n _ c.args.step.now [] c.args.end c.requires at c.index_mut-node.ensures.value (with_ends _ n c.add_end.new.ends (with_end c.args.end (branch n).ends) (c.in_ok-add_end-in-None.ensures.ok ∙ ap (with_end c.args.end) (sym (ends_out _ n)))) in
    rw (empty_list c.args.later.now c.in-None.ensures.cases) e

pub returns-in_ok-add-in-Some-clause-ok : goal.returns-in_ok-add-in-Some-clause-ok
returns-in_ok-add-in-Some-clause-ok g t c =
    let ns = c.args.level.now.items in
    let bs = branches ns in
    let n = c.index_mut-node.result.now in
    let at : IsStepAt bs c.args.step.now c.in-Ok.at = rw (← c.deref.ensures.value) c.in-Ok.ensures in
    let q : List Step = c.in-Some.rest.now in
    let e = grown_level ns c.in-Ok.at n _ c.args.step.now (c.in-Some.below.now ∷ q) c.args.end c.requires at c.index_mut-node.ensures.value (with_next _ n c.add.new.level (with_pair c.in-Some.below.now q c.args.end (branch n).next) (c.in_ok-add-in-Some.ensures.ok ∙ ap (with_pair c.in-Some.below.now q c.args.end) (sym (next_out _ n)))) in
    rw c.in-Some.ensures.cases.0 e

pub returns-in_err-add-in-Some-clause-err : goal.returns-in_err-add-in-Some-clause-err
returns-in_err-add-in-Some-clause-err g t c =
    let ns = c.args.level.now.items in
    let bs = branches ns in
    let n = c.index_mut-node.result.now in
    let at : IsStepAt bs c.args.step.now c.in-Ok.at = rw (← c.deref.ensures.value) c.in-Ok.ensures in
    let lt : c.in-Ok.at < length ns = omega (arith, at.0, length-map ns branch) in
    let e = same_level ns c.in-Ok.at n _ c.index_mut-node.ensures.value lt (with_next _ n c.add.new.level (branch n).next (ap forest c.in_err-add-in-Some.ensures.err ∙ sym (next_out _ n))) in
    on_err_always _ e

pub insert-requires : goal.insert-requires
insert-requires g t c =
    let ns = c.args.level.now.items in
    let gap : IsGapAt (branches ns) c.args.step.now c.in-Err.at = rw (← c.deref.ensures.value) c.in-Err.ensures in
    omega (arith, gap.0, length-map ns branch)

pub index_mut-node-requires : goal.index_mut-node-requires
index_mut-node-requires g t c =
    let ns = c.args.level.now.items in
    let at : IsStepAt (branches ns) c.args.step.now c.in-Ok.at = rw (← c.deref.ensures.value) c.in-Ok.ensures in
    omega (arith, at.0, length-map ns branch)

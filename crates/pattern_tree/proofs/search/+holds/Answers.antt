use Rattle.std.proofs.Common.{rules, ◌<◌, length, ℕ, arith, sym, subst, IsTrue, ◌↔◌, List, ◌∙◌}
use Rattle.std.proofs.lemmas.Bool.{eqb-true, eqb-false}
use Rattle.std.proofs.lemmas.List.{length-map}
use Rattle.pattern_tree.specs.Forest.{IsOrdered, Rises, forest, Step}
use Rattle.pattern_tree.specs.Paths.{IsIn, Has}
use Rattle.pattern_tree.specs.Branch.{branch, branches}
use Rattle.pattern_tree.proofs.NodeFacts.{branch_at, ends_out, next_out}
use Rattle.pattern_tree.proofs.SiblingFacts.{OrderedAt, steps_rise, ordered_at, no_index, at_index, from_end, from_next}
use Rattle.pattern_tree.proofs.GrowthFacts.{empty_list}
use Rattle.pattern_tree.proofs.search.+holds.Goals as goal

pub index_of-requires : goal.index_of-requires
index_of-requires g t c = steps_rise (branches c.args.level.now) c.requires

pub returns-in_default-index_of : goal.returns-in_default-index_of
returns-in_default-index_of g t c =
    no_index (branches c.args.level.now) c.args.path.now c.in-Some.later.now _ c.args.end _ c.in-Some.ensures.cases.0 c.in_default-index_of.ensures

pub has_end-requires : goal.has_end-requires
has_end-requires g t c =
    let n = c.index-level-at.result in
    let bs = branches c.args.level.now in
    let same = branch_at c.args.level.now c.in-Ok.at n (branch n) c.index-level-at.is (omega (arith, c.in-Ok.ensures.0, length-map c.args.level.now branch)) in
    let o = subst OrderedAt same (ordered_at bs c.requires c.in-Ok.at (branch n) c.in-Ok.ensures.0) in
    subst Rises (ends_out _ n ∙ sym c.deref.ensures.value) o.ends

pub returns-then-is_empty : goal.returns-then-is_empty
returns-then-is_empty g t c =
    let n = c.index-level-at.result in
    let lt : c.in-Ok.at < length c.args.level.now = omega (arith, c.in-Ok.ensures.0, length-map c.args.level.now branch) in
    at_index (branches c.args.level.now) c.args.path.now c.in-Some.later.now _ c.args.end _ (branch n) c.has_end.result c.requires c.in-Some.ensures.cases.0 c.in-Ok.ensures (λ d. branch_at c.args.level.now _ n d c.index-level-at.is lt)
    (from_end c.in-Some.later.now c.args.end (branch n).ends (branch n).next c.has_end.result (eqb-true (length c.in-Some.later.now) 0 (sym c.if-is_empty.ensures)) (subst (λ (es : List ℕ). IsTrue c.has_end.result ↔ IsIn c.args.end es) (c.deref.ensures.value ∙ sym (ends_out _ n)) c.has_end.ensures))

pub holds-requires : goal.holds-requires
holds-requires g t c κs within =
    let n = c.index-level-at.result in
    let bs = branches c.args.level.now in
    let same = branch_at c.args.level.now c.in-Ok.at n (branch n) c.index-level-at.is (omega (arith, c.in-Ok.ensures.0, length-map c.args.level.now branch)) in
    let o = subst OrderedAt same (ordered_at bs c.requires c.in-Ok.at (branch n) c.in-Ok.ensures.0) in
    (search rules, (within, rw c.deref-else-is_empty.ensures.value (subst IsOrdered (next_out _ n) o.next)))

pub returns-else-is_empty : goal.returns-else-is_empty
returns-else-is_empty g t c =
    let n = c.index-level-at.result in
    let lt : c.in-Ok.at < length c.args.level.now = omega (arith, c.in-Ok.ensures.0, length-map c.args.level.now branch) in
    at_index (branches c.args.level.now) c.args.path.now c.in-Some.later.now _ c.args.end _ (branch n) c.holds.result c.requires c.in-Some.ensures.cases.0 c.in-Ok.ensures (λ d. branch_at c.args.level.now _ n d c.index-level-at.is lt)
    (from_next c.in-Some.later.now c.args.end (branch n).ends (branch n).next c.holds.result (omega (arith, eqb-false (length c.in-Some.later.now) 0 (sym c.if-is_empty.ensures))) (rw (next_out _ n, ← c.deref-else-is_empty.ensures.value) c.holds.ensures))

pub returns-in_default : goal.returns-in_default
returns-in_default g t c =
    let f = forest (branches c.args.level.now) in
    (λ false_is. absurd (search rules), λ has. absurd (subst (λ (p : List Step). Has p c.args.end f) (empty_list c.args.path.now c.in_default.ensures.cases) has))

pub offset_bounds-level-at : goal.offset_bounds-level-at
offset_bounds-level-at g t c = omega (arith, c.in-Ok.ensures.0, length-map c.args.level.now branch)

pub bounds-level-at : goal.bounds-level-at
bounds-level-at g t c = omega (arith, c.in-Ok.ensures.0, length-map c.args.level.now branch)

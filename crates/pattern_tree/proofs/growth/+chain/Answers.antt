use Rattle.std.proofs.Common.{refl, List, [], ◌∷◌, ◌++◌, ap, ◌∙◌}
use Rattle.pattern_tree.specs.Forest.{Step}
use Rattle.pattern_tree.proofs.GrowthFacts.{empty_list, chained_end, chained_step}
use Rattle.pattern_tree.proofs.growth.+chain.Goals as goal
use Rattle.pattern_tree.proofs.growth.+chain.Goals.{in-None+in_ok-push-in-None, in-Some+in_ok-chain-in-Some+in_ok-push-in-Some}

pub returns : goal.returns
returns g t c = elim c.match-split_first.branch [
  | in-None+in_ok-push-in-None w ↦
      chained_end g.row.A.Denot _ c.args.step.now c.args.later.now c.args.end (empty_list c.args.later.now w.in-None.ensures.cases) refl refl
      (ap (λ v. v.items) w.ends-is ∙ w.in_ok-push-in-None.ensures.items ∙ ap (λ (es : List _). es ++ c.args.end ∷ []) c.new-ends.ensures.items)
      (ap (λ v. v.items) w.next-is ∙ c.new-next.ensures.items)
  | in-Some+in_ok-chain-in-Some+in_ok-push-in-Some w ↦
      let q : List Step = w.in-Some.rest.now in
      chained_step g.row.A.Denot _ w.in_ok-chain-in-Some.field-0 c.args.step.now w.in-Some.below.now c.args.later.now q c.args.end w.in-Some.ensures.cases.0 refl refl
      (ap (λ v. v.items) w.ends-is ∙ c.new-ends.ensures.items)
      (ap (λ v. v.items) w.next-is ∙ w.in_ok-push-in-Some.ensures.items ∙ ap (λ (ns : List _). ns ++ w.in_ok-chain-in-Some.field-0 ∷ []) c.new-next.ensures.items)
      w.in_ok-chain-in-Some.ensures
]

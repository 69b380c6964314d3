use Rattle.std.proofs.Common.{◌≡◌, ◌∙◌, ap, sym, arith}
use Rattle.pattern_tree.specs.Forest.{pairs, forest, levels}
use Rattle.pattern_tree.specs.Branch.{branches}
use Rattle.pattern_tree.specs.Content.{Content, longest}
use Rattle.pattern_tree.proofs.CountFacts.{longest_levels}
use Rattle.pattern_tree.proofs.tree.PatternTree.depth.Goals as goal

pub returns-clause-rides : goal.returns-clause-rides
returns-clause-rides g c =
    let f = forest (branches c.self.inside.first.items) in
    let seen : pairs f ≡ c.args.self.now.pairs = ap (λ (v : Content). v.pairs) c.self.view_is in
    let deep : c.depth_of.result ≡ levels f = rw (← c.deref.ensures.value) c.depth_of.ensures in
    deep ∙ sym (longest_levels f c.self.invariant.ordered) ∙ ap longest seen

pub returns-clause-few : goal.returns-clause-few
returns-clause-few g c =
    let deep : c.depth_of.result ≡ levels (forest (branches c.self.inside.first.items)) = rw (← c.deref.ensures.value) c.depth_of.ensures in
    omega (arith, deep, c.self.invariant.not_deep)

use Rattle.std.proofs.Common.{◌≡◌, ◌∙◌, ap, sym}
use Rattle.pattern_tree.specs.Forest.{pairs, forest}
use Rattle.pattern_tree.specs.Branch.{branches}
use Rattle.pattern_tree.specs.Content.{Content, beginnings}
use Rattle.pattern_tree.proofs.CountFacts.{beginnings_nodes}
use Rattle.pattern_tree.proofs.tree.PatternTree.nodes.Goals as goal

pub returns : goal.returns
returns g c =
    let f = forest (branches c.self.inside.first.items) in
    let seen : pairs f ≡ c.args.self.now.pairs = ap (λ (v : Content). v.pairs) c.self.view_is in
    c.self.invariant.nodes_counted ∙ sym (beginnings_nodes f c.self.invariant.ordered) ∙ ap beginnings seen

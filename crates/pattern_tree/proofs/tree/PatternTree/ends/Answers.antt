use Rattle.std.proofs.Common.{List, ◌≡◌, ◌∙◌, ap, sym, length}
use Rattle.pattern_tree.specs.Forest.{Pair, pairs, forest}
use Rattle.pattern_tree.specs.Branch.{branches}
use Rattle.pattern_tree.specs.Content.{Content}
use Rattle.pattern_tree.proofs.CountFacts.{length_pairs}
use Rattle.pattern_tree.proofs.tree.PatternTree.ends.Goals as goal

pub returns : goal.returns
returns g c =
    let f = forest (branches c.self.inside.first.items) in
    let seen : pairs f ≡ c.args.self.now.pairs = ap (λ (v : Content). v.pairs) c.self.view_is in
    c.self.invariant.ends_counted ∙ sym (length_pairs f) ∙ ap (λ (ps : List Pair). length ps) seen

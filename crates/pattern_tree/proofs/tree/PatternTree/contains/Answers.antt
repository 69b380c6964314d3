use Rattle.std.proofs.Common.{◌≡◌, ap}
use Rattle.pattern_tree.specs.Forest.{pairs, forest}
use Rattle.pattern_tree.specs.Branch.{branches}
use Rattle.pattern_tree.specs.Content.{Content}
use Rattle.pattern_tree.proofs.InsertionFacts.{found_pairs}
use Rattle.pattern_tree.proofs.tree.PatternTree.contains.Goals as goal

pub returns : goal.returns
returns g c =
    let f = forest (branches c.self.inside.first.items) in
    let seen : pairs f ≡ c.args.self.now.pairs = ap (λ (v : Content). v.pairs) c.self.view_is in
    found_pairs c.args.path.now c.args.end f c.args.self.now.pairs c.holds.result seen (rw (← c.deref.ensures.value) c.holds.ensures)

use Rattle.std.proofs.Common.{◌≡◌, ◌∙◌, List, ap, map, subst}
use Rattle.std.specs.List.{AllPairs}
use Rattle.pattern_tree.specs.Forest.{Pair, Step, pairs, forest}
use Rattle.pattern_tree.specs.Branch.{branches}
use Rattle.pattern_tree.specs.Content.{Content}
use Rattle.pattern_tree.specs.Walks.{ShownAll, after}
use Rattle.pattern_tree.proofs.WalkFacts.{after_nil}
use Rattle.pattern_tree.proofs.PairOrderFacts.{pairs_differ}
use Rattle.pattern_tree.proofs.tree.PatternTree.walk.Goals as goal

pub returns-clause-shown : goal.returns-clause-shown
returns-clause-shown g c =
    let f = forest (branches c.self.inside.first.items) in
    let seen : pairs f ≡ c.args.self.now.pairs = ap (λ (v : Content). v.pairs) c.self.view_is in
    let shown : ShownAll g.V.Visitor.shows c.args.visitor.now (map (after c.new-path.result.items) (pairs f)) c.walk_level.new.visitor = rw (← c.deref.ensures.value) c.walk_level.ensures.shown in
    let all : map (after c.new-path.result.items) (pairs f) ≡ c.args.self.now.pairs = ap (λ (path : List Step). map (after path) (pairs f)) c.new-path.ensures ∙ after_nil (pairs f) ∙ seen in
    subst (λ (ps : List Pair). ShownAll g.V.Visitor.shows c.args.visitor.now ps c.walk_level.new.visitor) all shown

pub returns-clause-once : goal.returns-clause-once
returns-clause-once g c =
    let f = forest (branches c.self.inside.first.items) in
    let seen : pairs f ≡ c.args.self.now.pairs = ap (λ (v : Content). v.pairs) c.self.view_is in
    subst (λ (ps : List Pair). AllPairs (λ p q. p ≡ q → ⊥) ps) seen (pairs_differ f c.self.invariant.ordered)

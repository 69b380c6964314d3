use Rattle.std.proofs.Common.{◌≡◌, ◌∙◌, ℕ, List, Some, Contains, subst, sym, take, take_all}
use Rattle.std.proofs.lemmas.List.Elements.{Contains-get_or}
use Rattle.pattern_tree.specs.Content.{Content}
use Rattle.pattern_query.specs.Leaving.{LeaveLast}
use Rattle.pattern_query.specs.Questions.{Held, IsAskedPoint}
use Rattle.pattern_query.proofs.LastAsked.{asked_still_journeys, searched_still, source_last, source_none}
use Rattle.pattern_query.proofs.last.leave_last.Goals as goal

pub loop-source-preserved-in_default : goal.loop-source-preserved-in_default
loop-source-preserved-in_default g c =
    let held : Held = g.T.Trees.held c.args.trees.now in
    source_none c.args.network.now c.args.depart held c.args.froms.now c.args.tos.now c.loop-source.source-index c.source-item.result c.loop-source-test.true c.source-item.is
    c.args.best.now c.loop-source.best (sym c.in_default.ensures.value) c.loop-source.invariant

pub loop-source-preserved : goal.loop-source-preserved
loop-source-preserved g c =
    let held : Held = g.T.Trees.held c.args.trees.now in
    let tree : Content = c.in-Some.patterns.now in
    let holds : held c.source-item.result ≡ Some tree = sym c.in-Some.ensures.value in
    source_last c.args.network.now c.args.depart held c.args.froms.now c.args.tos.now c.loop-source.source-index c.source-item.result c.loop-source-test.true c.source-item.is
    tree c.args.best.now c.loop-source.best c.leave_last_to.new.best holds c.in-Some.ensures.source c.loop-source.invariant c.leave_last_to.ensures

pub leave_last_to-requires-clause-each : goal.leave_last_to-requires-clause-each
leave_last_to-requires-clause-each g c =
    let held : Held = g.T.Trees.held c.args.trees.now in
    asked_still_journeys c.args.network.now c.args.depart held (take c.loop-source.source-index c.args.froms.now) c.args.tos.now c.args.best.now
    c.loop-source.best c.loop-source.invariant c.requires.each

pub leave_last_to-requires-clause-searched : goal.leave_last_to-requires-clause-searched
leave_last_to-requires-clause-searched g c = λ t in'.
    let held : Held = g.T.Trees.held c.args.trees.now in
    let froms = c.args.froms.now in
    let i = c.loop-source.source-index in
    let tree : Content = c.in-Some.patterns.now in
    let source = c.in-Some.ensures.source in
    let is : held tree.source ≡ Some tree = subst (λ (s : ℕ). held s ≡ Some tree) (sym source) (sym c.in-Some.ensures.value) in
    let among : Contains froms tree.source = subst (Contains froms) (sym (source ∙ c.source-item.is)) (Contains-get_or froms i c.source-item.result c.loop-source-test.true) in
    searched_still c.args.network.now c.args.depart (IsAskedPoint c.args.network.now held (take i froms) c.args.tos.now c.args.depart) tree t
    c.args.best.now c.loop-source.best c.loop-source.invariant (c.requires.searched tree t (among, is, in'))

pub returns : goal.returns
returns g c =
    let held : Held = g.T.Trees.held c.args.trees.now in
    subst (λ (froms : List ℕ). LeaveLast c.args.network.now (IsAskedPoint c.args.network.now held froms c.args.tos.now c.args.depart) c.args.best.now c.loop-source.best)
    (take_all c.loop-source.source-index c.args.froms.now c.loop-source-test.false) c.loop-source.invariant

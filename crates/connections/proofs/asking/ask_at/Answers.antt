use Rattle.std.proofs.Common.{Option, Some, None, ◌≡◌, ℕ, List, map, take, All, IsSomeAnd, sym, subst}
use Rattle.std.proofs.lemmas.List.{take_all}
use Rattle.timetable.specs.declared.parts.Numbers.{Numbers}
use Rattle.timetable.specs.Front.{AreBest}
use Rattle.timetable.specs.Table.{Table}
use Rattle.pattern_tree.specs.Content.{Content}
use Rattle.pattern_query.specs.Answer.{numbers}
use Rattle.pattern_query.specs.Gathered.{AddsAsked}
use Rattle.pattern_query.specs.Questions.{AskedReaches, Held, IsAsked, IsAskedPoint, IsStored}
use Rattle.pattern_query.proofs.AnswerSteps.{best_are, exact_are, points_are}
use Rattle.pattern_query.proofs.GatherSteps.{source_more}
use Rattle.pattern_query.proofs.LastSteps.{chosen_last}
use Rattle.pattern_query.proofs.LastAsked.{found_journeys, asked_still}
use Rattle.connections.specs.Found.{IsScope, Scope}
use Rattle.connections.proofs.asking.ask_at.Goals.{in-Some, in_default}
use Rattle.connections.proofs.asking.ask_at.Goals as goal

-- the answer is the best for each scope
best_of_scope : (table : Table) (held : Held) (froms tos : List ℕ) (d : ℕ) (points : List Numbers) → AreBest (AskedReaches table held froms tos d) points
    → All (IsStored held) froms → (scope : Option ℕ) → IsScope table held froms scope → AreBest (Scope table held froms tos scope d) points
best_of_scope table held froms tos d points best stored None is = best
best_of_scope table held froms tos d points best stored (Some k) complete = exact_are table held froms tos d stored k complete points best

-- a stored tree is there
there : (s : ℕ) (o : Option Content) → o ≡ None → IsSomeAnd o (λ (tree : Content). tree.source ≡ s) → ⊥
there s None e h = h
there s (Some tree) e h = cc

pub loop-source-preserved : goal.loop-source-preserved
loop-source-preserved g c =
    let held : Held = g.T.Trees.held c.args.trees.now in
    let table = c.args.network.now in
    let froms = c.args.froms.now in
    let tos = c.args.tos.now in
    let i = c.loop-source.source-index in
    let s = c.source-item.result in
    let within = c.loop-source-test.true in
    elim c.match-patterns.branch [
      | in-Some w ↦
          let tree : Content = w.in-Some.patterns.now in
          let holds : held s ≡ Some tree = sym w.in-Some.ensures.value in
          rw w.best-is (source_more table c.args.depart held froms tos i s tree c.new-best.result c.loop-source.best w.search_to.new.best
          within c.source-item.is holds w.in-Some.ensures.source c.loop-source.invariant w.search_to.ensures)
      | in_default w ↦
          let none : held s ≡ None = sym w.in_default.ensures.value in
          absurd (there s (held s) none (subst (IsStored held) (sym c.source-item.is) (c.requires.stored i s within)))
    ]

pub leave_last-requires-clause-each : goal.leave_last-requires-clause-each
leave_last-requires-clause-each g c =
    let held : Held = g.T.Trees.held c.args.trees.now in
    let table = c.args.network.now in
    let froms = c.args.froms.now in
    let tos = c.args.tos.now in
    let d = c.args.depart in
    let start = c.new-best.result in
    let found = c.loop-source.best in
    let all : take c.loop-source.source-index froms ≡ froms = take_all c.loop-source.source-index froms c.loop-source-test.false in
    let added : AddsAsked table (IsAsked held froms tos) d start found =
    subst (λ l. AddsAsked table (IsAsked held l tos) d start found) all c.loop-source.invariant in
    found_journeys table d held froms tos start found c.new-best.ensures added

pub leave_last-requires-clause-searched : goal.leave_last-requires-clause-searched
leave_last-requires-clause-searched g c =
    let held : Held = g.T.Trees.held c.args.trees.now in
    let table = c.args.network.now in
    let froms = c.args.froms.now in
    let tos = c.args.tos.now in
    let d = c.args.depart in
    let start = c.new-best.result in
    let found = c.loop-source.best in
    let all : take c.loop-source.source-index froms ≡ froms = take_all c.loop-source.source-index froms c.loop-source-test.false in
    let added : AddsAsked table (IsAsked held froms tos) d start found =
    subst (λ l. AddsAsked table (IsAsked held l tos) d start found) all c.loop-source.invariant in
    λ tree t asked legs z j. added.least tree t legs z asked j

pub returns-clause-points : goal.returns-clause-points
returns-clause-points g c =
    let held : Held = g.T.Trees.held c.args.trees.now in
    let table = c.args.network.now in
    let froms = c.args.froms.now in
    let tos = c.args.tos.now in
    let d = c.args.depart in
    let start = c.new-best.result in
    let found = c.loop-source.best in
    let all : take c.loop-source.source-index froms ≡ froms = take_all c.loop-source.source-index froms c.loop-source-test.false in
    let added : AddsAsked table (IsAsked held froms tos) d start found =
    subst (λ l. AddsAsked table (IsAsked held l tos) d start found) all c.loop-source.invariant in
    let new = c.leave_last.new.best in
    let still = asked_still table d held froms tos start found new c.new-best.ensures added c.leave_last.ensures in
    points_are table held froms tos d start new c.answer.result c.new-best.ensures still c.answer.ensures

pub returns-clause-best : goal.returns-clause-best
returns-clause-best g c =
    let held : Held = g.T.Trees.held c.args.trees.now in
    let table = c.args.network.now in
    let froms = c.args.froms.now in
    let tos = c.args.tos.now in
    let d = c.args.depart in
    let start = c.new-best.result in
    let found = c.loop-source.best in
    let all : take c.loop-source.source-index froms ≡ froms = take_all c.loop-source.source-index froms c.loop-source-test.false in
    let added : AddsAsked table (IsAsked held froms tos) d start found =
    subst (λ l. AddsAsked table (IsAsked held l tos) d start found) all c.loop-source.invariant in
    let new = c.leave_last.new.best in
    let still = asked_still table d held froms tos start found new c.new-best.ensures added c.leave_last.ensures in
    best_of_scope table held froms tos d (map numbers c.answer.result)
    (best_are table held froms tos d start new c.answer.result c.new-best.ensures still c.answer.ensures)
    c.requires.stored

pub returns-clause-last : goal.returns-clause-last
returns-clause-last g c =
    chosen_last c.args.network.now (IsAskedPoint c.args.network.now (g.T.Trees.held c.args.trees.now) c.args.froms.now c.args.tos.now c.args.depart)
    c.loop-source.best c.leave_last.new.best c.answer.result c.leave_last.ensures c.answer.ensures

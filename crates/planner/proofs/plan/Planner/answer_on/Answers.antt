use Rattle.std.proofs.Common.{rules, MatchResult, subst}
use Rattle.pattern_query.specs.Questions.{IsAnswer, IsRefusal}
use Rattle.section_store.specs.Sections.{Form}
use Rattle.board.specs.Trees.{GoesOn}
use Rattle.planner.specs.Asking.{held_by}
use Rattle.planner.proofs.Exactness.{shown_complete, answer_exact}
use Rattle.planner.proofs.plan.Planner.answer_on.Goals as goal

pub returns-clause-exact : goal.returns-clause-exact
returns-clause-exact c = λ right.
    let p = c.args.self.now in
    let look = c.args.look.now.view in
    let from = c.args.from.now in
    let to = c.args.to.now in
    let d = c.args.depart in
    let goes : GoesOn p.form look.origin.opened.list look.told.list =
    subst (λ (f : Form). GoesOn f look.origin.opened.list look.told.list) c.requires.own c.told-shown.ensures.goes in
    let answer : MatchResult c.ask_on.result (IsAnswer p.form.table p.names (held_by p look) from to d) (IsRefusal p.form.table p.names (held_by p look) from to d) =
    search rules in
    answer_exact p (held_by p look) from to d (IsRefusal p.form.table p.names (held_by p look) from to d) c.ask_on.result answer
    (λ froms. shown_complete p.form look.origin.opened.list look.told.list froms goes right)

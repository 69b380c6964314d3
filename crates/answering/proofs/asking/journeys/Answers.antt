use Rattle.std.proofs.Common.{ℕ, Option, subst₂}
use Rattle.feed_ids.specs.NameLists.{NameLists}
use Rattle.timetable.specs.Table.{Table}
use Rattle.pattern_tree.specs.Content.{Content}
use Rattle.pattern_query.specs.Questions as questions
use Rattle.answering.proofs.AnswerFacts.{last_asked}
use Rattle.answering.proofs.RefusalFacts.{refused}
use Rattle.answering.proofs.asking.journeys.Goals as goal

pub returns-in-Ok-clause-found : goal.returns-in-Ok-clause-found
returns-in-Ok-clause-found g c =
    let table = c.args.basis.now.timetable in
    let held : ℕ → Option Content = g.T.Trees.held c.args.trees.now in
    let question = c.args.question.now in
    let depart = c.unwrap_or-depart.result in
    let found =
    subst₂ (λ (t : Table) (names : NameLists). questions.IsAnswer t names held question.from.now question.to.now depart c.in-Ok.journeys)
    c.requires.network c.names.ensures.value c.in-Ok.ensures in
    record {
      froms = found.froms;
      tos = found.tos;
      leaves = found.leaves;
      reaches = found.arrives;
      stored = found.stored;
      each = last_asked table held found.froms found.tos depart c.in-Ok.journeys found.points_are found.last found.latest;
      best = found.best;
      exact = found.exact;
    }

pub returns-in-Err-clause-refusal : goal.returns-in-Err-clause-refusal
returns-in-Err-clause-refusal g c =
    let basis = c.args.basis.now in
    let held : ℕ → Option Content = g.T.Trees.held c.args.trees.now in
    let question = c.args.question.now in
    let depart = c.unwrap_or-depart.result in
    let why =
    subst₂ (λ (t : Table) (names : NameLists). questions.IsRefusal t names held question.from.now question.to.now depart c.in-Err.refusal)
    c.requires.network c.names.ensures.value c.in-Err.ensures in
    refused basis held c.args.moment question depart c.in-Err.refusal c.unwrap_or-depart.ensures c.names.ensures.sound.valid.horizon why

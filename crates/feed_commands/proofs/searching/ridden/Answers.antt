use Rattle.answering.specs.Answers.{IsAnswered, IsDirect}
use Rattle.answering.specs.Refusals.{IsUnanswered, NoneMissing}
use Rattle.feed_basis.specs.Ids.{stop_alone}
use Rattle.feed_commands.proofs.FoundFacts.{answer_found, matched}
use Rattle.feed_commands.proofs.searching.ridden.Goals as goal

pub returns : goal.returns
returns c =
    let basis = c.args.basis.now in
    let moment = c.moment-moment.result in
    let question = c.args.question.now in
    let right = IsAnswered (stop_alone basis.names) (IsDirect basis) basis.timetable moment question in
    let wrong = IsUnanswered (stop_alone basis.names) NoneMissing basis.timetable moment question in
    let found = answer_found question c.direct-answer.result c.found_answer.result right wrong c.found_answer.ensures
    (matched c.direct-answer.result right wrong c.direct-answer.ensures.answer c.direct-answer.ensures.refusal) in
    (moment, c.moment-moment.ensures, found)

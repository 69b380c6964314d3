use Rattle.answering.specs.Answers.{ArePoints, IsAnswered}
use Rattle.answering.specs.Refusals.{IsUnanswered, NoneMissing}
use Rattle.feed_basis.specs.Ids.{stop_alone}
use Rattle.told_connections.specs.Windows.{IsAnsweredWithin, IsUnansweredWithin}
use Rattle.feed_commands.proofs.FoundFacts.{answer_found, connections_found, matched}
use Rattle.feed_commands.proofs.searching.scanned.Goals as goal

pub returns-in-None : goal.returns-in-None
returns-in-None c =
    let basis = c.args.basis.now in
    let moment = c.moment-moment.result in
    let question = c.args.question.now in
    let right = IsAnswered (stop_alone basis.names) (ArePoints basis c.args.rides c.args.legs) basis.timetable moment question in
    let wrong = IsUnanswered (stop_alone basis.names) NoneMissing basis.timetable moment question in
    let found = answer_found question c.scan-answer.result c.found_answer.result right wrong c.found_answer.ensures
    (matched c.scan-answer.result right wrong c.scan-answer.ensures.answer c.scan-answer.ensures.refusal) in
    rw c.in-None.is (moment, c.moment-moment.ensures, found)

pub returns-in-Some : goal.returns-in-Some
returns-in-Some c =
    let basis = c.args.basis.now in
    let times = c.times_of-times.result in
    let question = c.args.question.now in
    let right = IsAnsweredWithin basis c.args.rides c.args.legs times question in
    let wrong = IsUnansweredWithin basis times question in
    let found = connections_found question c.scan_within-found.result c.found_connections.result right wrong c.found_connections.ensures
    (matched c.scan_within-found.result right wrong c.scan_within-found.ensures.answer c.scan_within-found.ensures.refusal) in
    rw c.in-Some.is (times, c.times_of-times.ensures, found)

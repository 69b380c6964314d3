use Rattle.store_answers.specs.Asked.{IsStoredAnswer, IsStoredRefusal}
use Rattle.store_answers.specs.Windowed.{IsStoredRefusalWithin, IsStoredWindow}
use Rattle.feed_commands.proofs.FoundFacts.{answer_found, connections_found}
use Rattle.store_commands.proofs.storing.ask_on.Goals as goal

pub returns-in-None-clause-found : goal.returns-in-None-clause-found
returns-in-None-clause-found g c = λ honest.
    let basis = c.args.file.now.basis.now in
    let k = c.args.file.now.rides in
    let old = g.D.Disk.state c.args.disk in
    let new = g.D.Disk.state c.ask_stored-answer.result.1 in
    let q = c.args.question.now in
    let moment = c.moment-moment.result in
    let found = answer_found q c.ask_stored-answer.result.0 c.found_answer.result
    (IsStoredAnswer basis k moment q c.args.legs old new) (IsStoredRefusal basis k moment q old new)
    c.found_answer.ensures (c.ask_stored-answer.ensures.answered honest) in
    rw c.in-None.is (moment, c.moment-moment.ensures, found)

pub returns-in-Some-clause-found : goal.returns-in-Some-clause-found
returns-in-Some-clause-found g c = λ honest.
    let basis = c.args.file.now.basis.now in
    let k = c.args.file.now.rides in
    let old = g.D.Disk.state c.args.disk in
    let new = g.D.Disk.state c.ask_stored_within-connections.result.1 in
    let q = c.args.question.now in
    let times = c.times_of-times.result in
    let found = connections_found q c.ask_stored_within-connections.result.0 c.found_connections.result
    (IsStoredWindow basis k times q c.args.legs old new) (IsStoredRefusalWithin basis k times q old new)
    c.found_connections.ensures (c.ask_stored_within-connections.ensures.answered honest) in
    rw c.in-Some.is (times, c.times_of-times.ensures, found)

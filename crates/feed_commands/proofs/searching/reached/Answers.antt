use Rattle.told_reach.specs.Reaches.{IsReach, IsUnreached, ReportsReach}
use Rattle.told_reach.specs.Times.{AreTimes, IsUntimed, ReportsTimes}
use Rattle.feed_commands.proofs.FoundFacts.{matched, report_found}
use Rattle.feed_commands.proofs.searching.reached.Goals as goal

pub returns-in-None : goal.returns-in-None
returns-in-None c =
    let basis = c.args.basis.now in
    let moment = c.moment-moment.result in
    let from = c.args.question.now.from.now in
    let right = ReportsReach (IsReach basis c.args.rides from moment c.args.minutes) in
    let wrong = IsUnreached basis from moment in
    let found = report_found c.reach_from-reached.result c.found_report.result right wrong c.found_report.ensures
    (matched c.reach_from-reached.result right wrong c.reach_from-reached.ensures.reach c.reach_from-reached.ensures.refusal) in
    rw c.in-None.is (moment, c.moment-moment.ensures, found)

pub returns-in-Some : goal.returns-in-Some
returns-in-Some c =
    let basis = c.args.basis.now in
    let times = c.times_of-times.result in
    let from = c.args.question.now.from.now in
    let right = ReportsTimes (AreTimes basis c.args.rides from times.moment times.until c.args.minutes) in
    let wrong = IsUntimed basis from times.moment times.until in
    let found = report_found c.times_from-timed.result c.found_report-in-Some.result right wrong c.found_report-in-Some.ensures
    (matched c.times_from-timed.result right wrong c.times_from-timed.ensures.times c.times_from-timed.ensures.refusal) in
    rw c.in-Some.is (times, c.times_of-times.ensures, found)

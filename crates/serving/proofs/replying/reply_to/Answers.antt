use Rattle.std.proofs.Common.{◌≤◌, List, All, Result, IfOk, MatchResult, inl, subst, sym}
use Rattle.timetable.specs.declared.parts.TheConstants.{LATEST_MOMENT}
use Rattle.pattern_query.specs.Answer.{PointData}
use Rattle.planner.specs.Asking.{AreBestBetween, IsAnswered, IsUnanswered, held_by}
use Rattle.planner.specs.declared.fault.AskFault.{AskFault}
use Rattle.feed_basis.specs.Points.{IsKnownJourney}
use Rattle.serving.specs.Answers.{IsAsked, IsRefused, IsReply, IsTold}
use Rattle.serving.proofs.KnownFacts.{early, known}
use Rattle.serving.proofs.ReplyFacts.{refused_reply, told_reply}
use Rattle.serving.proofs.replying.reply_to.Goals.{in-Ok, in-Err}
use Rattle.serving.proofs.replying.reply_to.Goals as goal

pub returns : goal.returns
returns c = λ line is.
    let p = c.args.planner.now in
    let basis = c.args.basis.now in
    let legs = c.args.legs in
    let old = c.args.reader in
    let new = c.ask-reader.result.0 in
    let question = c.args.question.now in
    let depart = c.unwrap_or-depart.result in
    let asked : IsAsked basis.cover line question depart =
    record { is = is; alone = c.requires.alone; moment = c.moment.result; of_day = c.moment.ensures; leaves = c.unwrap_or-depart.ensures } in
    let Gives = λ (r : Result (List PointData) AskFault). MatchResult r (IsAnswered p old new question.from.now question.to.now depart)
    (IsUnanswered p old new question.from.now question.to.now depart) in
    let Exact = λ (r : Result (List PointData) AskFault). IfOk r (AreBestBetween p question.from.now question.to.now depart) in
    elim c.match-answer.branch [
      | in-Ok w ↦
          subst (IsReply p basis legs line old new) (sym w.reply-is)
          (told_reply p basis legs line old new question depart w.in-Ok.answer asked (subst Gives w.in-Ok.is c.ask-reader.ensures.answer)
          (λ right. subst Exact w.in-Ok.is (c.ask-reader.ensures.exact right)) w.answer_of-reply.result
          (subst (λ (journeys : List PointData). IsTold basis legs journeys w.answer_of-reply.result) w.points.ensures w.answer_of-reply.ensures))
      | in-Err w ↦
          subst (IsReply p basis legs line old new) (sym w.reply-is)
          (subst (IsRefused p basis line old new) (sym w.refused_by.ensures)
          (refused_reply p basis legs line old new w.in-Err.fault (inl (record {
            question = question;
            depart = depart;
            asked = asked;
            unanswered = subst Gives w.in-Err.is c.ask-reader.ensures.answer;
          }))))
    ]

pub answer_of-reply-requires-clause-known : goal.answer_of-reply-requires-clause-known
answer_of-reply-requires-clause-known c =
    let p = c.args.planner.now in
    let basis = c.args.basis.now in
    let new = c.ask-reader.result.0 in
    let from = c.args.question.now.from.now in
    let to = c.args.question.now.to.now in
    let depart = c.unwrap_or-depart.result in
    let Gives = λ (r : Result (List PointData) AskFault). MatchResult r (IsAnswered p c.args.reader new from to depart)
    (IsUnanswered p c.args.reader new from to depart) in
    let answered : IsAnswered p c.args.reader new from to depart c.in-Ok.answer = subst Gives c.in-Ok.is c.ask-reader.ensures.answer in
    subst (λ (journeys : List PointData). All (λ (x : PointData). IsKnownJourney basis x.departure x) journeys) (sym c.points.ensures)
    (known basis p (held_by p new) from to depart c.in-Ok.answer c.names-names.ensures.sound c.requires.over answered.1)

pub answer_of-reply-requires-clause-early : goal.answer_of-reply-requires-clause-early
answer_of-reply-requires-clause-early c =
    let p = c.args.planner.now in
    let basis = c.args.basis.now in
    let new = c.ask-reader.result.0 in
    let from = c.args.question.now.from.now in
    let to = c.args.question.now.to.now in
    let depart = c.unwrap_or-depart.result in
    let Gives = λ (r : Result (List PointData) AskFault). MatchResult r (IsAnswered p c.args.reader new from to depart)
    (IsUnanswered p c.args.reader new from to depart) in
    let answered : IsAnswered p c.args.reader new from to depart c.in-Ok.answer = subst Gives c.in-Ok.is c.ask-reader.ensures.answer in
    subst (λ (journeys : List PointData). All (λ (x : PointData). x.departure ≤ LATEST_MOMENT) journeys) (sym c.points.ensures)
    (early basis p (held_by p new) from to depart c.in-Ok.answer c.names-names.ensures.sound c.requires.over answered.1)

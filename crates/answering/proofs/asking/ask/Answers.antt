use Rattle.std.proofs.Common.{ℕ, Option, ◌<◌, ◌≤◌, length, All, map, subst, sym}
use Rattle.std.specs.List.{AllZip}
use Rattle.std.proofs.lemmas.List.Elements.{All-weaker}
use Rattle.timetable.specs.declared.parts.TheConstants.{LATEST_MOMENT}
use Rattle.timetable.specs.Journeys.{Journey}
use Rattle.pattern_query.specs.Answer.{PointData, numbers}
use Rattle.pattern_query.specs.Questions.{IsAskedPoint}
use Rattle.pattern_tree.specs.Content.{Content}
use Rattle.answering.specs.Answers.{IsLastAsked}
use Rattle.feed_basis.specs.Points.{IsKnownJourney, TellsLeaving}
use Rattle.feed_basis.proofs.StageFacts.{journey_known, leaves_early}
use Rattle.answering.proofs.AnswerFacts.{are_reached, one_of_all, shown_journeys}
use Rattle.answering.proofs.asking.ask.Goals as goal

pub told-requires-clause-early : goal.told-requires-clause-early
told-requires-clause-early g c =
    let basis = c.args.basis.now in
    let d = c.in_ok-found.field-0-1 in
    let found = c.in_ok-found.ensures.found in
    let held : ℕ → Option Content = g.T.Trees.held c.args.trees.now in
    subst (λ l. All (λ (x : PointData). x.departure ≤ LATEST_MOMENT) l) (sym c.points.ensures)
    (All-weaker (IsLastAsked basis.timetable held found.froms found.tos d) (λ (x : PointData). x.departure ≤ LATEST_MOMENT)
    (λ x h. leaves_early basis.timetable h.is.0.source x.to d x.departure x.arrival x.legs c.in_ok-found.ensures.sound.valid
    c.in_ok-found.ensures.early h.is.2.is.journey h.is.2.is.in_time)
    c.in_ok-found.found found.each)

pub told-requires-clause-known : goal.told-requires-clause-known
told-requires-clause-known g c =
    let basis = c.args.basis.now in
    let d = c.in_ok-found.field-0-1 in
    let found = c.in_ok-found.ensures.found in
    let held : ℕ → Option Content = g.T.Trees.held c.args.trees.now in
    let sound = c.in_ok-found.ensures.sound in
    let from_known = sound.names c.args.question.now.from.now found.froms found.leaves in
    let to_known = sound.names c.args.question.now.to.now found.tos found.reaches in
    let In = λ (s : ℕ). s < length basis.names.stops in
    let Known = λ (x : PointData). IsKnownJourney basis x.departure x in
    subst (λ l. All Known l) (sym c.points.ensures)
    (All-weaker (IsLastAsked basis.timetable held found.froms found.tos d) Known
    (λ x h. journey_known basis sound.valid sound x.from x.departure x.legs x.to x.arrival
    (subst In (sym h.is.2.is.starts) (one_of_all In found.froms h.is.0.source from_known h.is.1.0))
    (one_of_all In found.tos x.to to_known h.is.1.2)
    (subst (λ s. Journey basis.timetable s x.departure x.legs x.to x.arrival) (sym h.is.2.is.starts) h.is.2.is.in_time))
    c.in_ok-found.found found.each)

pub returns-clause-answer : goal.returns-clause-answer
returns-clause-answer g c =
    let basis = c.args.basis.now in
    let d = c.in_ok-found.field-0-1 in
    let found = c.in_ok-found.ensures.found in
    let held : ℕ → Option Content = g.T.Trees.held c.args.trees.now in
    let moment = c.in_ok-found.ensures.moment in
    let Asked = IsAskedPoint basis.timetable held found.froms found.tos d in
    let Last = IsLastAsked basis.timetable held found.froms found.tos d in (
      found.froms,
      found.tos,
      d,
      record { leaves = found.leaves; reaches = found.reaches; leaves_at = moment.0; covered = moment.1 },
      record {
        stored = found.stored;
        front = map numbers c.in_ok-found.found;
        journeys = are_reached Asked c.in_ok-found.found (All-weaker Last Asked (λ x h. h.is) c.in_ok-found.found found.each);
        best = found.best;
        shown = shown_journeys basis Last c.args.legs c.in_ok-found.found c.in_ok-points.points.items found.each
            (subst (λ l. AllZip (TellsLeaving basis c.args.legs) l c.in_ok-points.points.items) c.points.ensures c.in_ok-points.ensures);
        exact = found.exact;
      },
    )

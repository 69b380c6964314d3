use Rattle.std.proofs.Common.{◌≤◌, ap, subst, sym, ◌∙◌}
use Rattle.timetable.specs.Journeys.{Serves, arrives}
use Rattle.timetable.specs.Table.{Table}
use Rattle.answer_lines.specs.Moments.{TellsMoment}
use Rattle.answering.proofs.AnswerFacts.{ride_between, between_ride}
use Rattle.answering.proofs.asking.earliest_between.Goals as goal

pub returns-in-None : goal.returns-in-None
returns-in-None c = λ leg h.
    let asked = c.args.asked in
    c.in-None.ensures.none leg (subst (λ (t : Table). Serves t asked.from asked.to asked.depart leg) (sym c.requires.network)
    (between_ride c.args.basis.now asked.from asked.to asked.depart leg h))

pub returns-in-Some : goal.returns-in-Some
returns-in-Some c =
    let basis = c.args.basis.now in
    let p = c.args.asked.from in
    let q = c.args.asked.to in
    let d = c.args.asked.depart in
    let leg = c.in-Some.leg in (
      leg,
      ride_between basis p q d leg (subst (λ (t : Table). Serves t p q d leg) c.requires.network c.in-Some.ensures.ride),
      λ other h. subst (λ (t : Table). arrives t leg ≤ arrives t other) c.requires.network
          (c.in-Some.ensures.least other (subst (λ (t : Table). Serves t p q d other) (sym c.requires.network) (between_ride basis p q d other h))),
      subst (λ m. TellsMoment basis.cover m c.day_time.result) (c.arrival_of.ensures ∙ ap (λ (t : Table). arrives t leg) c.timetable.ensures.value)
          c.day_time.ensures,
    )

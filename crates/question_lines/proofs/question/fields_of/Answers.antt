use Rattle.std.proofs.Common.{◌∙◌, ◌∷◌, ap}
use Rattle.question_lines.proofs.Tabs.{front, six}
use Rattle.question_lines.proofs.question.fields_of.Goals as goal

pub returns-in-None : goal.returns-in-None
returns-in-None c =
    let from = c.in_ok-from.from.now in
    let to = c.in_ok-to.to.now in
    let day = c.in_ok-day.day.now in
    front c.args.text.now from c.in_ok-from.rest.now to c.in_ok-to.rest.now day c.in_ok-day.rest.now
    c.in_ok-from.ensures c.in_ok-to.ensures c.in_ok-day.ensures
    ∙ ap (λ l. from ∷ to ∷ day ∷ l) c.in-None.ensures

pub returns-in-None-cut : goal.returns-in-None-cut
returns-in-None-cut c =
    let from = c.in_ok-from.from.now in
    let to = c.in_ok-to.to.now in
    let day = c.in_ok-day.day.now in
    front c.args.text.now from c.in_ok-from.rest.now to c.in_ok-to.rest.now day c.in_ok-day.rest.now
    c.in_ok-from.ensures c.in_ok-to.ensures c.in_ok-day.ensures
    ∙ ap (λ l. from ∷ to ∷ day ∷ l) (c.in-Some.ensures ∙ ap (λ l. c.in-Some.time.now ∷ l) c.in-None-cut.ensures)

pub returns-in-Some-cut : goal.returns-in-Some-cut
returns-in-Some-cut c =
    six c.args.text.now c.in_ok-from.from.now c.in_ok-from.rest.now c.in_ok-to.to.now c.in_ok-to.rest.now c.in_ok-day.day.now c.in_ok-day.rest.now
    c.in_ok-from.ensures c.in_ok-to.ensures c.in_ok-day.ensures c.in-Some.time.now c.in-Some.last.now c.in-Some-cut.field-0.0.now
    c.in-Some-cut.field-0.1.now c.in-Some.ensures c.in-Some-cut.ensures

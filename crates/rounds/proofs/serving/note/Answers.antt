use Rattle.std.proofs.Common.{◌≡◌, ◌<◌, ◌≤◌, get_or, inl, sym, ◌∙◌, ap, subst}
use Rattle.std.proofs.lemmas.Option.{same_Some}
use Rattle.lines.specs.Lines.{last_at, positions_at}
use Rattle.rounds.specs.Mark.{arrival_of}
use Rattle.rounds.proofs.ServeSteps.{positions_within, positions_noted}
use Rattle.rounds.proofs.serving.note.Goals as goal

pub note_positions-requires : goal.note_positions-requires
note_positions-requires c = λ k d h.
    let lines = c.args.lines.now in
    subst (λ n. (get_or c.last_departures_at.result.now k d).at.line < n) (sym c.requires.size)
    (positions_within lines.lines c.args.stop (positions_at lines c.args.stop) c.last_departures_at.result.now c.requires.positions
    (c.last_departures_at.ensures ∙ c.requires.last) k d h)

pub returns-in-Some-clause-noted : goal.returns-in-Some-clause-noted
returns-in-Some-clause-noted c = λ b position e calls late.
    let lines = c.args.lines.now in
    let same : c.in-Some.moment ≡ b.arrival = same_Some c.in-Some.moment b.arrival (sym c.in-Some.is ∙ (c.arrival.ensures ∙ ap arrival_of e)) in
    inl (positions_noted lines.lines c.args.stop c.in-Some.moment (positions_at lines c.args.stop) c.last_departures_at.result.now c.note_positions.new.noted
    c.requires.positions (c.last_departures_at.ensures ∙ c.requires.last) c.note_positions.ensures.noted position calls
    (subst (λ moment. moment ≤ last_at lines.lines position) (sym same) late))

use Rattle.std.proofs.Common.{◌<◌, arith, ◌∙◌, ap, inl, inr, length}
use Rattle.stop_labels.specs.Row.{RowData}
use Rattle.rounds.specs.Moves.{gap}
use Rattle.rounds.proofs.WalkSteps.{Stays, stay_gap, stay_short, spread_here, spread_nowhere}
use Rattle.rounds.proofs.walking.stay_at.Goals as goal
use Rattle.rounds.proofs.walking.stay_at.Goals.{in-Free, in-Change}

pub lower_later-requires-clause-known : goal.lower_later-requires-clause-known
lower_later-requires-clause-known c = (let known = c.requires.known in let size = c.requires.size in omega (arith, known, size))

pub lower_later-requires-clause-early : goal.lower_later-requires-clause-early
lower_later-requires-clause-early c =
    let is : Stays c.args.table.now c.args.stay c.args.p c.match-stay.seconds =
    elim c.match-stay.branch [
      | in-Free w ↦ inl (w.in-Free.is, w.seconds-is)
      | in-Change w ↦ inr (w.in-Change.is, w.seconds-is ∙ w.change-seconds.ensures.value, w.change-seconds.ensures.valid)
    ] in
    let short = stay_short c.args.table.now c.args.stay c.args.p c.in-Some.seconds c.match-stay.seconds is c.in-Some.is in
    let early = c.requires.early in
    omega (arith, short, early)

pub returns-in-Some-clause-spread : goal.returns-in-Some-clause-spread
returns-in-Some-clause-spread c =
    let is : Stays c.args.table.now c.args.stay c.args.p c.match-stay.seconds =
    elim c.match-stay.branch [
      | in-Free w ↦ inl (w.in-Free.is, w.seconds-is)
      | in-Change w ↦ inr (w.in-Change.is, w.seconds-is ∙ w.change-seconds.ensures.value, w.change-seconds.ensures.valid)
    ] in
    let known : c.args.p < length c.args.row.now.marks = (let known = c.requires.known in let size = c.requires.size in omega (arith, known, size)) in
    spread_here (gap c.args.table.now c.args.stay c.args.p) c.args.label.now c.args.row.now.marks c.lower_later.new.self.marks c.args.p c.in-Some.seconds known
    (stay_gap c.args.table.now c.args.stay c.args.p c.match-stay.seconds is ∙ c.in-Some.is)
    (ap (λ (row : RowData). row.marks) c.lower_later.ensures)

pub returns-in_default-clause-spread : goal.returns-in_default-clause-spread
returns-in_default-clause-spread c =
    let is : Stays c.args.table.now c.args.stay c.args.p c.match-stay.seconds =
    elim c.match-stay.branch [
      | in-Free w ↦ inl (w.in-Free.is, w.seconds-is)
      | in-Change w ↦ inr (w.in-Change.is, w.seconds-is ∙ w.change-seconds.ensures.value, w.change-seconds.ensures.valid)
    ] in
    spread_nowhere (gap c.args.table.now c.args.stay c.args.p) c.args.label.now c.args.row.now.marks c.args.p
    (stay_gap c.args.table.now c.args.stay c.args.p c.match-stay.seconds is ∙ c.in_default.is)

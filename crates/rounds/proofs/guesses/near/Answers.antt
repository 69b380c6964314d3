use Rattle.std.proofs.Common.{◌≡◌, ◌<◌, ◌⊎◌, ◌-◌, get_or, arith, sym, ◌∙◌, inl, inr}
use Rattle.std.proofs.lemmas.Bool.{ltb-true}
use Rattle.lines.specs.declared.line.Times.{Times}
use Rattle.rounds.proofs.GuessSteps.{first_is}
use Rattle.rounds.proofs.guesses.near.Goals as goal
use Rattle.rounds.proofs.guesses.near.Goals.{then-place-eq0, else-place-eq0}

pub returns-then-times-place-2 : goal.returns-then-times-place-2
returns-then-times-place-2 c =
    let times = c.args.times.now in
    let k = c.loop.place in
    let d : Times = record { arrival = 0; departure = 0 } in
    let before : (k ≡ 0) ⊎ ((get_or times (k - 1) d).departure < c.args.ready) = elim c.if-place-eq0.branch [
      | then-place-eq0 w ↦ inl w.if-place-eq0.true
      | else-place-eq0 w ↦ inr (ltb-true (get_or times (k - 1) d).departure c.args.ready (sym w.value-is ∙ c.if-times-place-2.true))
    ] in
    first_is times c.args.ready k d c.requires (omega arith) (omega arith) before

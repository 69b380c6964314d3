use Rattle.std.proofs.Common.{◌≡◌, ℕ, ◌+◌, ◌-◌, true≢false, arith, sym, ◌∙◌, subst, inl, inr}
use Rattle.std.proofs.lemmas.Bool.{cases_eq}
use Rattle.timetable.specs.Front.{IsSooner}
use Rattle.rounds.specs.Mark.{arrival_in, moment_in}
use Rattle.rounds.specs.Scratch.{rounds_of, before_of}
use Rattle.connections.proofs.scanning.is_lowered.Goals as goal

pub loop-fewer-preserved : goal.loop-fewer-preserved
loop-fewer-preserved c = λ r lt sooner. elim (cases_eq r c.loop-fewer.fewer) [
  | inl e ↦
      let here = subst (λ (x : ℕ). IsSooner (arrival_in (rounds_of c.args.view.now) (x + 1) c.args.to) (moment_in (before_of c.args.view.now) (x + 1) c.args.to)) e sooner in
      true≢false (sym (c.changed.ensures.1 here) ∙ c.if-changed.false)
  | inr apart ↦ c.loop-fewer.invariant r (omega (arith, lt, apart)) sooner
]

pub returns : goal.returns
returns c = (
  λ t. absurd (true≢false (sym t)),
  λ low.
      let some = low.1 in
      let few = low.2 in
      let end = c.number-fewer-end.ensures.value in
      let past = c.loop-fewer-test.false in
      let same : low.0 ≡ low.0 - 1 + 1 = omega (arith, some) in
      absurd (c.loop-fewer.invariant (low.0 - 1) (omega (arith, some, few, end, past))
      (subst (λ (x : ℕ). IsSooner (arrival_in (rounds_of c.args.view.now) x c.args.to) (moment_in (before_of c.args.view.now) x c.args.to)) same low.3)),
)

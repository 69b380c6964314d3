use Rattle.std.proofs.Common.{ℕ, ◌-◌, Option, ◌∙◌, sym, ap, get_or, subst, inl, inr}
use Rattle.timetable.specs.Front.{IsSooner}
use Rattle.rounds.specs.Mark.{at, arrival_of, arrival_in, moment_in}
use Rattle.stop_labels.specs.Row.{RowData, arrivals_of, settled_of}
use Rattle.rounds.specs.Scratch.{rounds_of, before_of}
use Rattle.rounds.proofs.RoundSteps.{some_or_none}
use Rattle.stop_labels.proofs.RowSteps.{not_sooner}
use Rattle.rounds.proofs.view.RoundView.lowered.Goals as goal

pub returns : goal.returns
returns c = λ stop.
    let rounds = c.args.self.now.rounds.now in
    let both = some_or_none rounds c.args.rides c.index-self-rides.result c.if-rides-eq0.false c.requires c.index-self-rides.is stop in
    let now = ap arrival_of (both.0 ∙ ap (λ (x : RowData). at x.marks stop) c.index-self-rides.is) in
    let then = both.1 ∙ ap (λ (x : RowData). settled_of x stop) c.index-self-rides.is in (
      λ has. subst (λ (o : Option ℕ). IsSooner o (moment_in (before_of c.args.self.now) c.args.rides stop)) (sym now)
          (subst (λ (o : Option ℕ). IsSooner (arrivals_of (get_or rounds (c.args.rides - 1) c.index-self-rides.result) stop) o) (sym then) (c.lowered.ensures.sooner stop has)),
      λ sooner. elim (c.lowered.ensures.others stop) [
        | inl has ↦ has
        | inr same ↦ absurd (not_sooner (arrival_in (rounds_of c.args.self.now) c.args.rides stop) (moment_in (before_of c.args.self.now) c.args.rides stop) (now ∙ (same ∙ sym then)) sooner)
      ],
    )

use Rattle.std.proofs.Common.{ℕ, subst, sym}
use Rattle.timetable.specs.Table.{Table}
use Rattle.rounds.specs.Answers.{AreRounds}
use Rattle.rounds.specs.Scratch.{rides_of, rounds_of}
use Rattle.scanned_journeys.proofs.scanning.best_at.Goals as goal

pub journeys_of-requires-clause-rounds : goal.journeys_of-requires-clause-rounds
journeys_of-requires-clause-rounds c =
    let view = rounds_of c.in_ok-view.view in
    subst (λ (k : ℕ). AreRounds c.args.network.now c.args.from c.args.depart k view) (sym c.rides-rides.ensures)
    (subst (λ (t : Table). AreRounds t c.args.from c.args.depart (rides_of c.args.scratch.now) view) c.timetable.ensures.value c.in_ok-view.ensures.right)

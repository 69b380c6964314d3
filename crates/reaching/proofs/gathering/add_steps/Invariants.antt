use Rattle.std.proofs.Common.{◌≡◌, ℕ, length, take}
use Rattle.rounds.specs.Mark.{arrival_in, moment_in}
use Rattle.rounds.specs.Scratch.{rounds_of, before_of}
use Rattle.reaching.specs.Steps.{steps_at}
use Rattle.reaching.proofs.WindowFacts.{AddedSoFar}
use Rattle.reaching.proofs.gathering.add_steps.Given as goal

abbrev pub invariant-loop-stop : goal.invariant-loop-stop
invariant-loop-stop l = record {
  count : length l.all.items ≡ length l.fn.all.items;
  each : (t : ℕ) → AddedSoFar (take l.stop-index l.stop-items) t l.until
      (arrival_in (rounds_of l.view) l.rides t) (moment_in (before_of l.view) l.rides t)
      (steps_at l.fn.all.items t) (steps_at l.all.items t);
}

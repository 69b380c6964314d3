use Rattle.std.proofs.Common.{◌≡◌, ℕ, ◌<◌, ◌≤◌, length, get_or}
use Rattle.timetable.specs.Table.{stops_of}
use Rattle.rounds.specs.Mark.{arrival_in}
use Rattle.rounds.specs.Scratch.{IsAlike, MayGoOn, kept_of, rides_of, source_of}
use Rattle.reaching.specs.Steps.{steps_at}
use Rattle.reaching.proofs.EventFacts.{HasSteps}
use Rattle.reaching.proofs.gathering.gather_steps.Given as goal

-- the events from `index` on are done; the scratch has the rounds of the next of these
abbrev pub invariant-loop-index : goal.invariant-loop-index
invariant-loop-index l = record {
  same : IsAlike l.fn.scratch l.scratch;
  from : source_of l.scratch ≡ l.fn.from;
  low : l.start ≤ l.index;
  may : (i : ℕ) → i < l.index → MayGoOn l.table (get_or l.events.items i 0) l.scratch;
  count : length l.all.items ≡ stops_of l.table;
  each : (t : ℕ) → t < stops_of l.table
      → HasSteps l.table (rides_of l.fn.scratch) l.fn.from t l.last l.events.items l.index
      (arrival_in (kept_of l.scratch) (rides_of l.fn.scratch) t) (steps_at l.all.items t);
}

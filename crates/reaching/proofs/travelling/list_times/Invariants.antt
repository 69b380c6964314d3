use Rattle.std.proofs.Common.{ℕ, ◌<◌}
use Rattle.timetable.specs.Table.{stops_of}
use Rattle.reaching.specs.Steps.{AreTimesBelow, Covers, steps_at}
use Rattle.reaching.proofs.travelling.list_times.Given as goal

abbrev pub invariant-loop-number : goal.invariant-loop-number
invariant-loop-number l =
    (k : ℕ) → ((t : ℕ) → t < stops_of l.table → Covers l.table k l.from t l.first l.last (steps_at l.all t))
    → AreTimesBelow l.table k l.from l.first l.last l.number l.list.items

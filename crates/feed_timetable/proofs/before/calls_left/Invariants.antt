use Rattle.std.proofs.Common.{◌≡◌, take}
use Rattle.feed_timetable.specs.Instances.{calls_from, calls_left}
use Rattle.feed_timetable.proofs.before.calls_left.Given as goal

abbrev pub invariant-loop-position : goal.invariant-loop-position
invariant-loop-position l = l.calls.items ≡ calls_left l.before (take l.position (calls_from l.shift.time l.shift.from l.rows))

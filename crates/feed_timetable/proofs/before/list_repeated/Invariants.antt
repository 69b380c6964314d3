use Rattle.std.proofs.Common.{◌≡◌, ◌++◌, length, take}
use Rattle.std.specs.List.{All}
use Rattle.timetable.specs.Table.{IsRun}
use Rattle.feed_timetable.specs.Running.{repeated_before}
use Rattle.feed_timetable.proofs.before.list_repeated.Given as goal

abbrev pub invariant-loop-time : goal.invariant-loop-time
invariant-loop-time l = record {
  listed : l.instances.items ≡ l.initial.instances.items ++ repeated_before l.tables l.before l.trip (take l.time-index l.departures);
  runs : All (IsRun (length l.tables.stops)) l.instances.items;
}

use Rattle.std.proofs.Common.{◌≡◌, ◌++◌, length, take}
use Rattle.std.specs.List.{All}
use Rattle.timetable.specs.Table.{IsRun}
use Rattle.feed_timetable.specs.Running.{repeated_from}
use Rattle.feed_timetable.proofs.instances.list_repeated.Given as goal

abbrev pub invariant-loop-departure : goal.invariant-loop-departure
invariant-loop-departure l = record {
  listed : l.instances.items ≡ l.initial.instances.items ++ repeated_from l.tables l.day.start l.day.number l.trip (take l.departure-index l.departures);
  runs : All (IsRun (length l.tables.stops)) l.instances.items;
}

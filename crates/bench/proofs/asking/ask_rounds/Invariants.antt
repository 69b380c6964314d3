use Rattle.std.proofs.Common.{◌≡◌}
use Rattle.timetable.specs.Table.{stops_of}
use Rattle.rounds.specs.Scratch.{IsMadeFor}
use Rattle.bench.proofs.asking.ask_rounds.Given as goal

abbrev pub invariant-loop : goal.invariant-loop
invariant-loop l = record {
  stops : l.questions.stops ≡ stops_of l.timetable;
  made : IsMadeFor l.scratch l.timetable;
}

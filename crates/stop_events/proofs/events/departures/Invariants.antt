use Rattle.std.proofs.Common.{[]}
use Rattle.timetable.specs.Table.{walks_of}
use Rattle.timetable.specs.Journeys.{from}
use Rattle.stop_events.specs.Events.{Gathered}
use Rattle.stop_events.proofs.WalkFacts.{SeenOf}
use Rattle.stop_events.proofs.events.departures.Given as goal

abbrev pub invariant-loop-walk : goal.invariant-loop-walk
invariant-loop-walk l = Gathered l.table l.fn.source (λ leg. SeenOf l.fn.source (walks_of l.table l.fn.source) l.walk-index (from l.table leg)) [] l.moments.items

use Rattle.std.proofs.Common.{◌≡◌}
use Rattle.planner_tests.proofs.threads.meanwhile.ask_on.Given as goal

abbrev pub invariant-asks : goal.invariant-asks
invariant-asks l = l.reader.origin.form ≡ l.planner.form

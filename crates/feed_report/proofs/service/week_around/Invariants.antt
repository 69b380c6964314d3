use Rattle.service_days.specs.Noon.{IsDaysAfter}
use Rattle.feed_report.proofs.service.week_around.Given as goal

abbrev pub invariant-loop-before : goal.invariant-loop-before
invariant-loop-before l = IsDaysAfter l.before l.first l.fn.date

use Rattle.reaching.proofs.StepFacts.{HasCounted}
use Rattle.reaching.proofs.steps.Steps.ridden_within.Given as goal

abbrev pub invariant-loop-step : goal.invariant-loop-step
invariant-loop-step l = HasCounted l.self l.first l.last l.seconds l.step-index l.total l.end l.arrival

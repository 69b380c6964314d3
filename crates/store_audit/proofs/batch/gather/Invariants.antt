use Rattle.std.proofs.Common.{take}
use Rattle.store_audit.specs.Hands.{Gathers}
use Rattle.store_audit.proofs.batch.gather.Given as goal

abbrev pub invariant-loop-one : goal.invariant-loop-one
invariant-loop-one l = Gathers (take l.one-index l.due) l.initial.done.items l.done.items

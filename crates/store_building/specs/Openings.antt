-- What a build opens a store with.
use Rattle.std.specs.Prelude.{ℕ}
use Rattle.store_faults.specs.declared.fault.RecoverFault.{RecoverFault}
use Rattle.store_faults.specs.declared.fault.RecoverFault.TheVariants.{Memory}
use Rattle.planner.specs.PlannerView.{PlannerView}
use Rattle.planner.specs.declared.fault.OpenFault.{OpenFault}
use Rattle.planner.specs.declared.fault.OpenFault.TheVariants as opens
use Rattle.feed_basis.specs.Basis.{BasisData}
use Rattle.store_terms.specs.Stores.{form_over}

-- the planner over the basis's timetable and its ids
abbrev pub planner_over : BasisData → ℕ → PlannerView
planner_over basis k = record { form = form_over basis k; names = basis.names }

-- why a planner isn't opened, as a recovery reports it
abbrev pub cause_of : OpenFault → RecoverFault
cause_of (opens.Recover fault) = fault
cause_of opens.Memory = Memory

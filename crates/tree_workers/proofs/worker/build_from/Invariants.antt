use Rattle.std.proofs.Common.{◌≡◌}
use Rattle.section_store.specs.Sections.{form_of}
use Rattle.tree_workers.proofs.worker.build_from.Given as goal

abbrev pub invariant-loop : goal.invariant-loop
invariant-loop g l =
    (goal.iterator-loop g).can_next l.iterator' × (goal.iterator-loop g).is_finite l.iterator'
    × (l.bench ≡ form_of g.B.Basis.table g.B.Basis.rides)

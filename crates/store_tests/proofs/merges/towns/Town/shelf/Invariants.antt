use Rattle.std.proofs.Common.{◌≡◌}
use Rattle.std.specs.Arc.{arc_value}
use Rattle.part_shelf.specs.Shelves.{form_for}
use Rattle.section_store.specs.Sections.{form_of}
use Rattle.store_tests.proofs.merges.towns.Town.shelf.Given as goal

abbrev pub invariant-loop-disk : goal.invariant-loop-disk
invariant-loop-disk l = form_for l.shelf ≡ form_of (arc_value l.self.table) 2

-- Why a text isn't read. Only private clauses cite these words.
use Rattle.std.specs.Prelude.{ℕ}
use Rattle.merging.specs.declared.fault.ShelfFault.{ShelfFault}
use Rattle.merging.specs.declared.fault.ShelfFault.TheVariants as shelves
use Rattle.part_shelf.specs.declared.fault.TextFault.{TextFault}
use Rattle.part_shelf.specs.declared.fault.TextFault.TheVariants as texts

-- of a tree of that part
abbrev pub of_text : ℕ → TextFault → ShelfFault
of_text part texts.Device = shelves.Device part
of_text part texts.Memory = shelves.Memory
of_text part texts.Changed = shelves.Changed part

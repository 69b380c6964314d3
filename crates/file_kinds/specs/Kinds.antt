-- What a file is to a store that is to be opened in it.
use Rattle.std.specs.Prelude.{◌≡◌, ◌≢◌, ◌⊎◌, ℕ, List, take, drop, get_or}
use Rattle.section_store.specs.Beginnings.{CanBegin}
use Rattle.section_store.specs.Sections.{Form, IsFresh, open_gate, store_name}
use Rattle.file_kinds.specs.declared.kind.FileKind.{FileKind}
use Rattle.file_kinds.specs.declared.kind.FileKind.TheVariants as kinds

-- the name of a store, after a gate that isn't open
abbrev pub IsNamedAfterGate : List ℕ → Type 0
IsNamedAfterGate bytes = (take 7 (drop 1 bytes) ≡ store_name) × (get_or bytes 0 0 ≢ open_gate)

-- A store of that form may be opened in a file of these bytes: one may be begun there, or the bytes begin with an open gate.
abbrev pub CanOpen : Form → List ℕ → Type 0
CanOpen form bytes = CanBegin form bytes ⊎ (¬ IsFresh bytes)

abbrev pub IsOfKind : Form → List ℕ → FileKind → Type 0
IsOfKind form bytes kinds.New = CanBegin form bytes
IsOfKind form bytes kinds.Old = ¬ IsFresh bytes
IsOfKind form bytes kinds.GateDamaged = (¬ CanOpen form bytes) × IsNamedAfterGate bytes
IsOfKind form bytes kinds.Foreign = (¬ CanOpen form bytes) × (¬ IsNamedAfterGate bytes)

-- A theorem about stores that are opened, and go on.
use Rattle.std.specs.Prelude.{ℕ, List}
use Rattle.disk_model.specs.Disk.{State}
use mathlib.Core.List.{IsPrefix}
use Rattle.section_store.specs.Going.{IsKept, GoesOn}
use Rattle.section_store.specs.Sections.{Form}
use Rattle.recovery.specs.Moments.{IsLife}
use Rattle.recovery.specs.Opening.{IsOpening, StandsForSources}

-- an opening, and a store that goes on from there, are a life
abbrev pub OpeningGoesOn : Type 0
OpeningGoesOn =
    (form : Form) (old mid new : State) (place : ℕ) (list storing : List ℕ)
    → IsOpening form old mid → StandsForSources form list old.read → IsKept form place list mid
    → IsPrefix list storing → GoesOn form list storing mid new → IsLife form old new list storing

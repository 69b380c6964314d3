-- The walks from a stop, one after the other.
use Rattle.std.proofs.Common.{◌≡◌, ℕ, ◌<◌, ◌⊎◌, List, length, Some, slice_get, get_or, refl, subst}
use Rattle.std.proofs.lemmas.Option.{slice_get_read}
use Rattle.timetable.specs.declared.parts.Walk.{Walk}
use Rattle.timetable.specs.Table.{Table, walks_of}

-- the stop itself, or a walk of the row that was looked at
abbrev pub SeenOf : ℕ → List Walk → ℕ → ℕ → Type 0
SeenOf p row i q = (q ≡ p) ⊎ ((k : ℕ) × (w : Walk) × (k < i) × (slice_get row k ≡ Some w) × (w.to ≡ q))

pub row_read : (table : Table) (p : ℕ) (row : List Walk) (i : ℕ) (w : Walk) → row ≡ walks_of table p → i < length row → w ≡ get_or row i w
    → slice_get (walks_of table p) i ≡ Some w
row_read table p row i w same in' is = subst (λ r. slice_get r i ≡ Some w) same (slice_get_read row (length row) i w refl in' is)

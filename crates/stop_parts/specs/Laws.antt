-- What holds of all parts.
use Rattle.std.specs.Prelude.{◌≡◌, ◌<◌, ℕ}
use Rattle.stop_parts.specs.Parts.{IsOf, whole}

-- of `count` parts each stop is of exactly one
abbrev pub EachOnce : Type 0
EachOnce =
    (count stop : ℕ) → 0 < count
    → (index : ℕ) × (index < count) × IsOf (record { index = index; count = count }) stop
    × ((other : ℕ) → IsOf (record { index = other; count = count }) stop → other ≡ index)

-- the whole has each stop
abbrev pub HasAll : Type 0
HasAll = (stop : ℕ) → IsOf whole stop

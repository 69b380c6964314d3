-- Which lines a round scans. Only private clauses cite these words.
use Rattle.std.specs.Prelude.{◌≡◌, ℕ, ◌<◌, ◌≤◌, ◌⊎◌, eqb, List, length, slice_index}
use Rattle.std.specs.List.{Contains, IsDistinct}

-- more than any position of a line
abbrev pub no_position : ℕ
no_position = 65_535

-- each line is listed, once, or has no position; those that are listed have one. There is room for all
pub record IsNoted (earliest listed : List ℕ) (capacity : ℕ) : Type 0 where
  pub room : length earliest ≤ capacity
  pub others : (l : ℕ) → l < length earliest → Contains listed l ⊎ (slice_index earliest l ≡ no_position)
  pub within : (l : ℕ) → Contains listed l → l < length earliest
  pub placed : (l : ℕ) → Contains listed l → slice_index earliest l < no_position
  pub once : IsDistinct eqb listed

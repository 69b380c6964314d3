-- The fields of a line from a place on, and its commas as bits.
use Rattle.std.specs.Prelude.{◌≡◌, ◌+◌, ◌<◌, ◌≤◌, false, ℕ, List, drop, get_or, map, if◌then◌else◌}
use Rattle.std.specs.Int.{bit_at}
use Rattle.gtfs_text.specs.Lines.{between_commas, is_comma}
use Rattle.gtfs_text.specs.Sheets.{without_spaces}

-- the fields of a line from the one that begins at `start` on, without the spaces round them
abbrev pub fields_from : List ℕ → ℕ → List (List ℕ)
fields_from line start = map without_spaces (between_commas (drop start line))

-- no byte of a line from one place up to another is a comma
abbrev pub HasNoComma : List ℕ → ℕ → ℕ → Type 0
HasNoComma line from to = (k : ℕ) → from ≤ k → k < to → is_comma (get_or line k 0) ≡ false

-- of the 64 bytes of a line from `at` on, bit k is set exactly if byte at + k is a comma, and doesn't stand before `from`
pub record MarksCommas (line : List ℕ) (at from marks : ℕ) : Type 0 where
  pub gone : (k : ℕ) → k < 64 → at + k < from → bit_at marks k ≡ 0
  pub kept : (k : ℕ) → k < 64 → from ≤ at + k → bit_at marks k ≡ (if is_comma (get_or line (at + k) 0) then 1 else 0)

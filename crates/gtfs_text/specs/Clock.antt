-- Times of the form `HH:MM:SS`.
use Rattle.std.specs.Prelude.{ℕ, ◌≤◌, ◌<◌, List, codes, get_or}

pub record IsDigit (c : ℕ) : Type 0 where
  pub least : 48 ≤ c
  pub most : c ≤ 57

-- each of the first eight bytes of a text is within the range of its place in `HH:MM:SS`
pub record IsClock (text : List ℕ) : Type 0 where
  pub least : (k : ℕ) → k < 8 → get_or (codes "00:00:00") k 0 ≤ get_or text k 0
  pub most : (k : ℕ) → k < 8 → get_or text k 0 ≤ get_or (codes "99:59:59") k 0

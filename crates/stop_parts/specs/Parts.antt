-- The parts of a timetable's stops.
use Rattle.std.specs.Prelude.{◌==◌, ◌%◌, ℕ, Bool, IsTrue}

-- the part of number `index`, counted from 0, among `count` parts
pub record Share : Type 0 where
  pub index : ℕ
  pub count : ℕ

-- a stop is of a part if its number leaves the part's index after division by the count of the parts
abbrev pub is_of : Share → ℕ → Bool
is_of part stop = stop % part.count == part.index

abbrev pub IsOf : Share → ℕ → Type 0
IsOf part stop = IsTrue (is_of part stop)

-- all stops as one part
abbrev pub whole : Share
whole = record { index = 0; count = 1 }

-- The patterns of the best journeys to one stop, as the rounds from a source have them. Only private clauses cite these words.
use Rattle.std.specs.Prelude.{Option, ◌≡◌, ℕ, ◌-◌, ◌≤◌, List, length, Some, IsSomeAnd}
use Rattle.std.specs.List.{Contains}
use Rattle.timetable.specs.Front.{IsSooner}
use Rattle.rounds.specs.Mark.{Mark, mark_in, arrival_in}
use Rattle.pattern_tree.specs.Forest.{Pair}

-- one is at t sooner by r rides than by fewer
abbrev pub PaysOff : List (List (Option Mark)) → ℕ → ℕ → Type 0
PaysOff rounds t r = IsSooner (arrival_in rounds r t) (arrival_in rounds (r - 1) t)

-- if one is, the pattern has r rides
abbrev pub AreCounted : List (List (Option Mark)) → ℕ → ℕ → Type 0
AreCounted rounds t k =
    (r : ℕ) (m : Mark) → 1 ≤ r → r ≤ k → mark_in rounds r t ≡ Some m → PaysOff rounds t r → length m.path ≡ r

-- the pair is that of t and of the pattern of r rides by which one is there sooner
pub record IsPattern (rounds : List (List (Option Mark))) (t r : ℕ) (p : Pair) : Type 0 where
  pub ends : p.1 ≡ t
  pub counted : length p.0 ≡ r
  pub pays_off : PaysOff rounds t r
  pub path : IsSomeAnd (mark_in rounds r t) (λ m. p.0 ≡ m.path)

-- the pairs are those of one to n rides
pub record HasPatterns (rounds : List (List (Option Mark))) (t n : ℕ) (pairs : List Pair) : Type 0 where
  pub only : (p : Pair) → Contains pairs p → (r : ℕ) × (1 ≤ r) × (r ≤ n) × IsPattern rounds t r p
  pub all : (r : ℕ) (p : Pair) → 1 ≤ r → r ≤ n → IsPattern rounds t r p → Contains pairs p

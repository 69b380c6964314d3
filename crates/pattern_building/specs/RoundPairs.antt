-- What the rounds at one moment give a tree, and how far a content has it. Only private clauses cite these words.
use Rattle.std.specs.Prelude.{Option, ◌≡◌, ℕ, ◌-◌, ◌<◌, ◌≤◌, ◌⊎◌, List, IsSomeAnd}
use Rattle.std.specs.List.{Contains}
use Rattle.timetable.specs.declared.parts.Numbers.{Numbers}
use Rattle.timetable.specs.Table.{Table}
use Rattle.timetable.specs.Journeys.{Reaches, Unbeaten}
use Rattle.timetable.specs.Front.{IsSooner}
use Rattle.rounds.specs.Mark.{Mark, mark_in, arrival_in}
use Rattle.pattern_tree.specs.Forest.{Step, Pair}
use Rattle.pattern_tree.specs.Completeness.{IsPathOf}

-- the path is that of the mark of its end after r rides, which is sooner than that after one ride less
abbrev pub Gives : List (List (Option Mark)) → ℕ → Pair → Type 0
Gives rounds r p =
    IsSooner (arrival_in rounds r p.1) (arrival_in rounds (r - 1) p.1) × IsSomeAnd (mark_in rounds r p.1) (λ m. p.0 ≡ m.path)

-- `rides` rides, at a stop below n
abbrev pub InRound : ℕ → ℕ → ℕ → ℕ → Type 0
InRound rides n r t = (r ≡ rides) × (t < n)

-- one to `rides` rides, at a stop below n
abbrev pub UpToRound : ℕ → ℕ → ℕ → ℕ → Type 0
UpToRound rides n r t = (1 ≤ r) × (r ≤ rides) × (t < n)

-- it is so after some number of rides and at some stop that were seen
abbrev pub IsGiven : List (List (Option Mark)) → (ℕ → ℕ → Type 0) → Pair → Type 0
IsGiven rounds Seen p = (r : ℕ) × Seen r p.1 × Gives rounds r p

-- each pair of `new` was there or is given
abbrev pub AddsGiven : List (List (Option Mark)) → (ℕ → ℕ → Type 0) → List Pair → List Pair → Type 0
AddsGiven rounds Seen old new = (p : Pair) → Contains new p → Contains old p ⊎ IsGiven rounds Seen p

-- no pair is lost
abbrev pub Keeps : List Pair → List Pair → Type 0
Keeps old new = (p : Pair) → Contains old p → Contains new p

-- no pair that is given is missed
abbrev pub HasGiven : List (List (Option Mark)) → (ℕ → ℕ → Type 0) → List Pair → Type 0
HasGiven rounds Seen content = (p : Pair) → IsGiven rounds Seen p → Contains content p

-- complete for this one moment
abbrev pub CompleteAt : Table → ℕ → ℕ → ℕ → List Pair → Type 0
CompleteAt table k s d content =
    (t : ℕ) (n : Numbers) → Unbeaten (Reaches table 1 k s t d) n
    → (path : List Step) × IsPathOf table s t d n path × Contains content (path, t)

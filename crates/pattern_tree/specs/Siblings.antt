-- Steps among siblings, by index. Only private clauses cite these words.
use Rattle.std.specs.Prelude.{◌≡◌, ℕ, ◌<◌, ◌≤◌, List, length, slice_index_or, Result, MatchResult}
use Rattle.std.specs.declared.cmp.Ordering.{Ordering}
use Rattle.std.specs.declared.cmp.Ordering.TheVariants.{Less, Equal, Greater}
use Rattle.pattern_tree.specs.Forest.{Branch, Step, IsBefore, step_of}

-- each of the siblings comes before the later ones
abbrev pub StepsRise : List Branch → Type 0
StepsRise bs = (i j : ℕ) (d : Branch) → i < j → j < length bs → IsBefore (step_of (slice_index_or bs i d)) (step_of (slice_index_or bs j d))

-- the sibling at i has the step s
abbrev pub IsStepAt : List Branch → Step → ℕ → Type 0
IsStepAt bs s i = (i < length bs) × ((d : Branch) → step_of (slice_index_or bs i d) ≡ s)

-- the siblings below i come before s, and those from i on after it
abbrev pub IsGapAt : List Branch → Step → ℕ → Type 0
IsGapAt bs s i =
    (i ≤ length bs)
    × ((k : ℕ) (d : Branch) → k < i → IsBefore (step_of (slice_index_or bs k d)) s)
    × ((k : ℕ) (d : Branch) → i ≤ k → k < length bs → IsBefore s (step_of (slice_index_or bs k d)))

-- where the step s is, or where it would go
abbrev pub IsIndexOf : List Branch → Step → Result ℕ ℕ → Type 0
IsIndexOf bs s r = MatchResult r (IsStepAt bs s) (IsGapAt bs s)

-- how s compares with t
abbrev pub IsOrderOf : Step → Step → Ordering → Type 0
IsOrderOf s t Less = IsBefore s t
IsOrderOf s t Equal = s ≡ t
IsOrderOf s t Greater = IsBefore t s

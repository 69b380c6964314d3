-- Labels beside the moments at which one is at each stop. Only private clauses cite these words.
use Rattle.std.specs.Prelude.{Option, ◌≡◌, ℕ, List, [], ◌∷◌, length, Some, None, nat_lt, if◌then◌else◌}
use Rattle.stop_labels.specs.Mark.{Mark, at, arrival_of}
use Rattle.stop_labels.specs.Row.{when}

-- a label, if there is a moment
abbrev pub kept : Option ℕ → Mark → Option Mark
kept None label = None
kept (Some moment) label = Some label

-- the labels of the stops that have a moment
abbrev pub with_moments : List (Option ℕ) → List Mark → List (Option Mark)
with_moments [] labels = []
with_moments (moment ∷ moments) [] = []
with_moments (moment ∷ moments) (label ∷ labels) = kept moment label ∷ with_moments moments labels

-- each stop has a label's place, and its moment is the arrival of the label there
pub record AreAgreed (moments : List (Option ℕ)) (labels : List Mark) : Type 0 where
  pub size : length labels ≡ length moments
  pub same : (p : ℕ) → when moments p ≡ arrival_of (at (with_moments moments labels) p)

-- later than any moment
abbrev pub never : ℕ
never = 4_294_967_295

-- a number as a moment
abbrev pub moment_of : ℕ → Option ℕ
moment_of number = if nat_lt number never then Some number else None

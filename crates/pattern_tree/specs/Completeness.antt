-- Which contents answer each question about journeys, and which have nothing else.
-- Transfer Patterns (Bast and others, ESA 2010): the patterns of the best journeys. A journey's numbers are its
-- arrival and its rides, and a pattern is the stops of boarding and alighting, ride by ride.
use Rattle.std.specs.Prelude.{◌≡◌, ◌≢◌, ◌≤◌, ℕ, List, length}
use Rattle.std.specs.List.{AllPairs, Contains}
use Rattle.timetable.specs.declared.parts.Leg.{Leg}
use Rattle.timetable.specs.declared.parts.Numbers.{Numbers}
use Rattle.timetable.specs.Table.{Table}
use Rattle.timetable.specs.Journeys.{Journey, Reaches, Unbeaten, pattern}
use Rattle.pattern_tree.specs.Forest.{Step, Pair}
use Rattle.pattern_tree.specs.Content.{Content, longest, AreTooMany}

-- the path is the pattern of a journey from s to t at d with these numbers
abbrev pub IsPathOf : Table → ℕ → ℕ → ℕ → Numbers → List Step → Type 0
IsPathOf table s t d n path =
    (legs : List Leg) × Journey table s d legs t n.arrival × (length legs ≡ n.rides) × (pattern table legs ≡ path)

-- for each moment and stop, each of the best numbers of one to k rides has a path in the content
abbrev pub Complete : Table → ℕ → ℕ → List Pair → Type 0
Complete table k s content =
    (d t : ℕ) (n : Numbers) → Unbeaten (Reaches table 1 k s t d) n
    → (path : List Step) × IsPathOf table s t d n path × Contains content (path, t)

-- each path of the content is, at some moment, that of a journey to its end with some of the best numbers of one to k rides
abbrev pub Earned : Table → ℕ → ℕ → List Pair → Type 0
Earned table k s content =
    (path : List Step) (t : ℕ) → Contains content (path, t)
    → (d : ℕ) × (n : Numbers) × Unbeaten (Reaches table 1 k s t d) n × IsPathOf table s t d n path

-- the tree has a path of each of the best journeys of one to k rides from its source, maybe others too, and no path has more rides
pub record IsWhole (table : Table) (k : ℕ) (tree : Content) : Type 0 where
  pub complete : Complete table k tree.source tree.pairs
  pub short : longest tree.pairs ≤ k

-- the tree is that of the source s: it has a path of each of the best journeys of one to k rides, and no others
pub record IsTreeOf (table : Table) (k s : ℕ) (tree : Content) : Type 0 where
  pub source : tree.source ≡ s
  pub complete : Complete table k tree.source tree.pairs
  pub earned : Earned table k tree.source tree.pairs
  pub short : longest tree.pairs ≤ k

-- there are earned pairs, each listed once, that are too many for one tree
abbrev pub TooManyAreEarned : Table → ℕ → ℕ → Type 0
TooManyAreEarned table k s =
    (content : List Pair) × Earned table k s content × AllPairs (λ p q. p ≢ q) content × AreTooMany content

-- Whether the answers from a tree are those of the timetable.
-- Transfer Patterns (Bast and others, ESA 2010), section 2: a query over the tree of a source is exact if the tree has a pattern of each of
-- the best journeys.
use Rattle.std.specs.Prelude.{◌<◌, ◌≤◌, ◌↔◌, ℕ, Option, None, Some}
use Rattle.timetable.specs.declared.parts.Numbers.{Numbers}
use Rattle.timetable.specs.Journeys.{Pareto, Unbeaten}
use Rattle.timetable.specs.Table.{Table, stops_of}
use Rattle.pattern_tree.specs.Content.{Content}
use Rattle.pattern_query.specs.Answer.{TreeReaches}
use Rattle.rounds.specs.Events.{IsEvent}
use Rattle.auditing.specs.declared.auditing.Difference.{Difference}

-- at d and to t, the best numbers of one ride or more of the tree's journeys are those of all journeys of at most k rides
abbrev pub Agrees : Table → Content → ℕ → ℕ → ℕ → Type 0
Agrees table tree k d t = (n : Numbers) → 1 ≤ n.rides → Unbeaten (TreeReaches table tree t d) n ↔ Pareto table k tree.source t d n

-- so they are to each stop
abbrev pub AgreesAt : Table → Content → ℕ → ℕ → Type 0
AgreesAt table tree k d = (t : ℕ) → t < stops_of table → Agrees table tree k d t

-- They differ at this event and to this stop, but at no earlier event of the tree's source, and at this event to no stop before this one.
pub record IsFirst (table : Table) (tree : Content) (k : ℕ) (difference : Difference) : Type 0 where
  pub event : IsEvent table tree.source difference.depart
  pub within : difference.to < stops_of table
  pub differs : ¬ Agrees table tree k difference.depart difference.to
  pub earlier : (e : ℕ) → e < difference.depart → IsEvent table tree.source e → AgreesAt table tree k e
  pub before : (t : ℕ) → t < difference.to → Agrees table tree k difference.depart t

-- the first difference, or none: at each event of the tree's source and to each stop they agree
abbrev pub IsFirstDifference : Table → Content → ℕ → Option Difference → Type 0
IsFirstDifference table tree k None = (e : ℕ) → IsEvent table tree.source e → AgreesAt table tree k e
IsFirstDifference table tree k (Some difference) = IsFirst table tree k difference

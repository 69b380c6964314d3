-- What is answered to a question between two places over the trees of sources.
use Rattle.std.specs.Prelude.{◌≡◌, ℕ, ◌<◌, ◌≤◌, ◌⊎◌, List, [], length, map, take, Option, None, Some, IsSomeAnd, slice_index_or}
use Rattle.std.specs.List.{All, Contains}
use Rattle.timetable.specs.declared.parts.Numbers.{Numbers}
use Rattle.timetable.specs.Table.{Table}
use Rattle.timetable.specs.Journeys.{Reaches}
use Rattle.feed_ids.specs.NameLists.{NameLists}
use Rattle.pattern_tree.specs.Content.{Content}
use Rattle.pattern_tree.specs.Completeness.{IsWhole}
use Rattle.timetable.specs.Front.{AreBest}
use Rattle.pattern_query.specs.Answer.{PointData, numbers, TreeReaches, IsPoint}
use Rattle.pattern_query.specs.Leaving.{IsLatest, LeavesLast}
use Rattle.pattern_query.specs.declared.refusal.Refusal.{Refusal}
use Rattle.pattern_query.specs.declared.refusal.Refusal.TheVariants as refusals
use Rattle.feed_ids.specs.Names.{stops_at}

-- the tree of a source, if it is there
abbrev pub Held : Type 0
Held = ℕ → Option Content

-- so it is by a slot for each stop
abbrev pub tree_at : List (Option Content) → Held
tree_at slots s = slice_index_or slots s None

-- the tree of the source is there
abbrev pub IsStored : Held → ℕ → Type 0
IsStored held s = IsSomeAnd (held s) (λ tree. tree.source ≡ s)

-- the tree is that of one of the first stops, and the stop t is one of the others
abbrev pub IsAsked : Held → List ℕ → List ℕ → Content → ℕ → Type 0
IsAsked held froms tos tree t = Contains froms tree.source × (held tree.source ≡ Some tree) × Contains tos t

-- the numbers of a journey of one of these trees to one of these stops
abbrev pub AskedReaches : Table → Held → List ℕ → List ℕ → ℕ → Numbers → Type 0
AskedReaches table held froms tos d n = (tree : Content) × (t : ℕ) × IsAsked held froms tos tree t × TreeReaches table tree t d n

-- the point is a journey of one of these trees to one of these stops
abbrev pub IsAskedPoint : Table → Held → List ℕ → List ℕ → ℕ → PointData → Type 0
IsAskedPoint table held froms tos d p = (tree : Content) × IsAsked held froms tos tree p.to × IsPoint table tree p.to d p

-- the numbers of a journey of at most k rides from one of the first stops to one of the others
abbrev pub ReachesBetween : Table → ℕ → List ℕ → List ℕ → ℕ → Numbers → Type 0
ReachesBetween table k froms tos d n = (s : ℕ) × (t : ℕ) × Contains froms s × Contains tos t × Reaches table 0 k s t d n

-- the trees of these stops are whole for journeys of at most k rides
abbrev pub AreComplete : Table → Held → ℕ → List ℕ → Type 0
AreComplete table held k froms = (s : ℕ) (tree : Content) → Contains froms s → held s ≡ Some tree → IsWhole table k tree

-- Both ids name places, the moment is covered and the trees of the first place's stops are there. The points are journeys of these
-- trees to the other place's stops, and of all of these the best; if the trees are complete, the best of all journeys. Of those with
-- the same numbers each leaves last, and of those that leave as late it walks least. If the trees are complete, one can't leave later.
pub record IsAnswer (table : Table) (names : NameLists) (held : Held) (from to : List ℕ) (d : ℕ) (points : List PointData) : Type 0 where
  pub froms : List ℕ
  pub tos : List ℕ
  pub leaves : stops_at names from ≡ Some froms
  pub arrives : stops_at names to ≡ Some tos
  pub covered : d ≤ table.horizon
  pub stored : All (IsStored held) froms
  pub points_are : All (IsAskedPoint table held froms tos d) points
  pub best : AreBest (AskedReaches table held froms tos d) (map numbers points)
  pub exact : (k : ℕ) → AreComplete table held k froms → AreBest (ReachesBetween table k froms tos d) (map numbers points)
  pub last : All (LeavesLast table (IsAskedPoint table held froms tos d)) points
  pub latest : (k : ℕ) → AreComplete table held k froms → All (IsLatest (ReachesBetween table k froms tos)) points

-- s is the first of the stops whose tree isn't there
pub record IsFirstMissing (held : Held) (froms : List ℕ) (s : ℕ) : Type 0 where
  pub index : ℕ
  pub within : index < length froms
  pub here : slice_index_or froms index s ≡ s
  pub missing : held s ≡ None
  pub before : All (IsStored held) (take index froms)

-- the id names something
abbrev pub IsKnown : NameLists → List ℕ → Type 0
IsKnown names id = (stops : List ℕ) × (stops_at names id ≡ Some stops)

-- Why there is no answer: the first id names nothing, or else the second; or else the moment isn't covered; or else a tree of the
-- first place's stops isn't there. Then the id is that of the first such stop.
abbrev pub IsRefusal : Table → NameLists → Held → List ℕ → List ℕ → ℕ → Refusal → Type 0
IsRefusal table names held from to d (refusals.UnknownStop id) =
    (stops_at names id.now ≡ None) × ((id.now ≡ from) ⊎ (IsKnown names from × (id.now ≡ to)))
IsRefusal table names held from to d refusals.NotCovered = IsKnown names from × IsKnown names to × (table.horizon < d)
IsRefusal table names held from to d (refusals.NotStored id) =
    IsKnown names to × (d ≤ table.horizon)
    × (froms : List ℕ) × (s : ℕ) × (stops_at names from ≡ Some froms) × IsFirstMissing held froms s
    × (id.now ≡ slice_index_or names.stops s [])

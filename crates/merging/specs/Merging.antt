-- What comes of putting trees together.
use Rattle.std.specs.Prelude.{◌==◌, ◌++◌, ℕ, List, [], ◌∷◌, Option, None, Some, find, if◌then◌else◌}
use Rattle.std.specs.List.{All, filter_map, range_with_len}
use Rattle.disk_model.specs.Disk.{State}
use Rattle.timetable.specs.Table.{stops_of}
use Rattle.pattern_tree.specs.Content.{Content}
use Rattle.section_store.specs.Between.{GoesBetween}
use Rattle.section_store.specs.Lasting.{IsExact, StaysTrusted}
use Rattle.section_store.specs.Sections.{Form, sources}
use Rattle.section_store.specs.Sources.{is_among}

-- the first of the trees whose source is the stop
abbrev pub tree_of : List Content → ℕ → Option Content
tree_of all stop = find (λ (tree : Content). tree.source == stop) all

-- the first of them, if a list lacks the stop
abbrev pub lacked : List Content → List Content → ℕ → Option Content
lacked list all stop = if is_among stop (sources list) then None else tree_of all stop

-- a list, and after it the trees of those stops below a number that it lacks, by rising numbers of the stops
abbrev pub merged : List Content → List Content → ℕ → List Content
merged before all stops = before ++ filter_map (lacked before all) (range_with_len 0 stops)

-- a list, and after it the tree of the stop, if the list lacks it and there is one
abbrev pub with_next : List Content → Option Content → List Content
with_next list None = list
with_next list (Some tree) = list ++ tree ∷ []

-- Since the old state each outcome at each moment has stood for trees that begin with the least and are a front of the most. Nothing held
-- was lost. If all trees that were given are exact, a trusted disk has stayed trusted.
pub record Goes (form : Form) (least most all : List Content) (old new : State) : Type 0 where
  pub goes : GoesBetween form least most old new
  pub trusts : All (IsExact form) all → StaysTrusted form old new

-- the trees are put together with those that a store has
abbrev pub Merges : Form → List Content → List Content → State → State → Type 0
Merges form before all old new = Goes form before (merged before all (stops_of form.table)) all old new

-- The trees that an open store shows.
use Rattle.std.specs.Prelude.{◌≡◌, ◌<◌, ◌↔◌, ℕ, Option, Some, None, List, is_some}
use Rattle.std.specs.List.{Contains}
use Rattle.std.specs.List.Sorted.{IsPermutation}
use Rattle.pattern_tree.specs.Content.{Content}
use Rattle.pattern_tree.specs.Completeness.{IsWhole}
use Rattle.pattern_query.specs.Questions.{IsStored, tree_at}
use Rattle.section_store.specs.Lasting.{IsExact}
use Rattle.section_store.specs.Sections.{Form, IsNew}
use Rattle.section_store.specs.Sources.{is_among}

-- what stands in a stop's slot is the stop's tree, if the list has the stop, else nothing
pub record IsSlotOf (list : List ℕ) (s : ℕ) (slot : Option Content) : Type 0 where
  pub there : is_some slot ≡ is_among s list
  pub own : (tree : Content) → slot ≡ Some tree → tree.source ≡ s

-- so it is in the slot of each stop of the timetable
abbrev pub IsBoardOf : ℕ → List ℕ → List (Option Content) → Type 0
IsBoardOf stops list board = (s : ℕ) → s < stops → IsSlotOf list s (tree_at board s)

-- a tree that is there stands in the slot of its own source
abbrev pub AreOwn : List (Option Content) → Type 0
AreOwn board = (s : ℕ) (tree : Content) → tree_at board s ≡ Some tree → tree.source ≡ s

-- of each of these stops, the board has its tree exactly if the list has the stop
pub record ShowsAmong (stops : ℕ) (froms list : List ℕ) (board : List (Option Content)) : Type 0 where
  pub held : (s : ℕ) → s < stops → Contains froms s → IsStored (tree_at board) s ↔ Contains list s
  pub missing : (s : ℕ) → s < stops → Contains froms s → (tree_at board s ≡ None) ↔ IsNew s list

-- the tree is one of these, with its pairs in any order
pub record IsOneOf (trees : List Content) (tree : Content) : Type 0 where
  pub one : Content
  pub among : Contains trees one
  pub source : tree.source ≡ one.source
  pub pairs : IsPermutation one.pairs tree.pairs

-- so is each tree there
abbrev pub AreOf : List Content → List (Option Content) → Type 0
AreOf trees board = (s : ℕ) (tree : Content) → tree_at board s ≡ Some tree → IsOneOf trees tree

-- each tree there is exact
abbrev pub AreExact : Form → List (Option Content) → Type 0
AreExact form board = (s : ℕ) (tree : Content) → tree_at board s ≡ Some tree → IsExact form tree

-- the tree is whole if it is that of one of these stops
abbrev pub IsWholeAmong : Form → List ℕ → Content → Type 0
IsWholeAmong form froms tree = Contains froms tree.source → IsWhole form.table form.rides tree

-- so is each tree there
abbrev pub AreWholeAmong : Form → List ℕ → List (Option Content) → Type 0
AreWholeAmong form froms board = (s : ℕ) (tree : Content) → tree_at board s ≡ Some tree → IsWholeAmong form froms tree

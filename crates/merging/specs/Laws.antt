-- What holds of all lists that are put together.
use Rattle.std.specs.Prelude.{◌≡◌, ℕ, List}
use Rattle.std.specs.List.{Contains}
use mathlib.Core.List.{IsPrefix}
use Rattle.pattern_tree.specs.Content.{Content}
use Rattle.merging.specs.Merging.{merged}

-- no two trees of one stop differ
abbrev pub Agree : List Content → Type 0
Agree all = (one other : Content) → Contains all one → Contains all other → one.source ≡ other.source → one ≡ other

-- each tree of the one list is among the other
abbrev pub AreAmong : List Content → List Content → Type 0
AreAmong some all = (tree : Content) → Contains some tree → Contains all tree

-- lists of the same trees, of which no two of one stop differ, are put together to the same list
abbrev pub AnyOrder : Type 0
AnyOrder =
    (before all other : List Content) (stops : ℕ) → Agree all → AreAmong all other → AreAmong other all
    → merged before all stops ≡ merged before other stops

-- what a stop leaves, a front of the merged list that begins with the list before, is put together to the same list
abbrev pub RunsAgain : Type 0
RunsAgain =
    (before all front : List Content) (stops : ℕ) → IsPrefix before front → IsPrefix front (merged before all stops)
    → merged front all stops ≡ merged before all stops

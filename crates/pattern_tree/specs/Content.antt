-- What callers see of a pattern tree, and what always holds of one.
use Rattle.std.specs.Prelude.{◌≡◌, ℕ, suc, ◌+◌, ◌-◌, ◌<◌, ◌≤◌, max, ◌⊎◌, ◌&&◌, ◌==◌, cond, List, [], ◌∷◌, length}
use Rattle.std.specs.List.{Contains}
use Rattle.pattern_tree.specs.Forest.{Step, Pair, Forest, node_count, end_count, levels, IsOrdered}
use Rattle.pattern_tree.specs.declared.tree.TheConstants.{MOST_ENDS, MOST_NODES}

-- a source, and the pairs of its tree in the order of a walk
pub record Content : Type 0 where
  pub source : ℕ
  pub pairs : List Pair

-- how many rides two paths begin with alike
abbrev pub shared : List Step → List Step → ℕ
shared [] q = 0
shared (s ∷ p) [] = 0
shared (s ∷ p) (t ∷ q) = cond (s.0 == t.0 && s.1 == t.1) (suc (shared p q)) 0

-- how many rides of a path are the beginning of some path of the pairs
abbrev pub known_rides : List Step → List Pair → ℕ
known_rides path [] = 0
known_rides path (p ∷ ps) = max (shared path p.0) (known_rides path ps)

-- how many different beginnings the paths have, the empty one aside
abbrev pub beginnings : List Pair → ℕ
beginnings [] = 0
beginnings (p ∷ ps) = beginnings ps + (length p.0 - known_rides p.0 ps)

-- how many rides the longest path has
abbrev pub longest : List Pair → ℕ
longest [] = 0
longest (p ∷ ps) = max (length p.0) (longest ps)

-- there are too many beginnings of paths, or too many pairs, for one tree
abbrev pub AreTooMany : List Pair → Type 0
AreTooMany ps = (MOST_NODES < beginnings ps) ⊎ (MOST_ENDS < length ps)

-- the pair is new, and with it there are too many
abbrev pub IsTooLarge : List Pair → Pair → Type 0
IsTooLarge ps p = ¬ Contains ps p × AreTooMany (p ∷ ps)

-- the forest is that of a tree, and has this many nodes and ends
pub record IsTree (nodes ends : ℕ) (f : Forest) : Type 0 where
  pub ordered : IsOrdered f
  pub not_deep : levels f ≤ 8
  pub nodes_counted : nodes ≡ node_count f
  pub ends_counted : ends ≡ end_count f
  pub few_nodes : nodes ≤ MOST_NODES
  pub few_ends : ends ≤ MOST_ENDS

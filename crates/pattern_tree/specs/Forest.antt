-- Pattern trees as plain values, with no allocator in them: nodes that stand beside one another, and all below them.
use Rattle.std.specs.Prelude.{◌≡◌, ℕ, ◌+◌, ◌<◌, max, ◌⊎◌, List, [], ◌∷◌, ◌++◌, map, length}

-- a ride's stops of boarding and alighting
abbrev pub Step : Type 0
Step = ℕ × ℕ

-- a pattern, and a stop at which it ends
abbrev pub Pair : Type 0
Pair = List Step × ℕ

-- siblings and all below them: a node's two stops, its ends, what goes on from it, and its later siblings
pub data Forest : Type 0 where
  none : Forest
  node : (board alight : ℕ) (ends : List ℕ) (next rest : Forest) → Forest

-- one node with all below it
pub record Branch : Type 0 where
  pub board : ℕ
  pub alight : ℕ
  pub ends : List ℕ
  pub next : Forest

-- the siblings of a list
abbrev pub forest : List Branch → Forest
forest [] = none
forest (b ∷ bs) = node b.board b.alight b.ends b.next (forest bs)

-- a node's last ride
abbrev pub step_of : Branch → Step
step_of b = (b.board, b.alight)

-- the pairs of a path and an end: each node's ends first, then what is below it, then its later siblings
abbrev pub pairs : Forest → List Pair
pairs none = []
pairs (node b a ends next rest) = map (λ e. ((b, a) ∷ [], e)) ends ++ (map (λ p. ((b, a) ∷ p.0, p.1)) (pairs next) ++ pairs rest)

-- how many nodes there are
abbrev pub node_count : Forest → ℕ
node_count none = 0
node_count (node b a ends next rest) = 1 + node_count next + node_count rest

-- how many ends there are
abbrev pub end_count : Forest → ℕ
end_count none = 0
end_count (node b a ends next rest) = length ends + end_count next + end_count rest

-- how many levels there are
abbrev pub levels : Forest → ℕ
levels none = 0
levels (node b a ends next rest) = max (levels next + 1) (levels rest)

-- by the stop of boarding, then by that of alighting
abbrev pub IsBefore : Step → Step → Type 0
IsBefore s t = (s.0 < t.0) ⊎ ((s.0 ≡ t.0) × (s.1 < t.1))

-- each number is below the next
abbrev pub Rises : List ℕ → Type 0
Rises [] = Unit {0}
Rises (x ∷ []) = Unit {0}
Rises (x ∷ y ∷ ys) = (x < y) × Rises (y ∷ ys)

-- s comes before the first of the siblings
abbrev pub IsBeforeFirst : Step → Forest → Type 0
IsBeforeFirst s none = Unit {0}
IsBeforeFirst s (node b a ends next rest) = IsBefore s (b, a)

-- there is an end, or a node that goes on
abbrev pub HasItem : List ℕ → Forest → Type 0
HasItem [] none = ⊥
HasItem [] (node b a ends next rest) = Unit {0}
HasItem (e ∷ es) f = Unit {0}

-- siblings and ends rise, at each level, and no node lacks both ends and nodes that go on
abbrev pub IsOrdered : Forest → Type 0
IsOrdered none = Unit {0}
IsOrdered (node b a ends next rest) = Rises ends × HasItem ends next × IsOrdered next × IsBeforeFirst (b, a) rest × IsOrdered rest

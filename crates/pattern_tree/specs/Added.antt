-- A forest with one pair more, where it goes. Only private clauses cite these words.
use Rattle.std.specs.Prelude.{ℕ, Bool, cond, ◌&&◌, ◌||◌, ◌==◌, nat_lt, List, [], ◌∷◌, length}
use Rattle.pattern_tree.specs.Forest.{Branch, Forest, none, node, forest, Step}

-- nodes for s and each of q, one below the other, the last with the end e
abbrev pub chain_of : Step → List Step → ℕ → Branch
chain_of s [] e = record { board = s.0; alight = s.1; ends = e ∷ []; next = none }
chain_of s (t ∷ q) e = record { board = s.0; alight = s.1; ends = []; next = forest (chain_of t q e ∷ []) }

-- ends that rise, with one more among them
abbrev pub with_end : ℕ → List ℕ → List ℕ
with_end e [] = e ∷ []
with_end e (x ∷ xs) = cond (nat_lt e x) (e ∷ x ∷ xs) (cond (nat_lt x e) (x ∷ with_end e xs) (x ∷ xs))

-- whether a step comes before another
abbrev pub is_before : Step → Step → Bool
is_before s t = nat_lt s.0 t.0 || (s.0 == t.0 && nat_lt s.1 t.1)

-- a sibling before others
abbrev pub cons : Branch → Forest → Forest
cons b f = node b.board b.alight b.ends b.next f

-- siblings with the pair of the path s and q and of the end e
abbrev pub with_pair : Step → List Step → ℕ → Forest → Forest
with_pair s q e none = cons (chain_of s q e) none
with_pair s [] e (node b a ends next rest) =
    cond (is_before s (b, a)) (cons (chain_of s [] e) (node b a ends next rest))
    (cond (is_before (b, a) s) (node b a ends next (with_pair s [] e rest)) (node b a (with_end e ends) next rest))
with_pair s (t ∷ q) e (node b a ends next rest) =
    cond (is_before s (b, a)) (cons (chain_of s (t ∷ q) e) (node b a ends next rest))
    (cond (is_before (b, a) s) (node b a ends next (with_pair s (t ∷ q) e rest)) (node b a ends (with_pair t q e next) rest))

-- how many of s and q have no node
abbrev pub missing_count : Step → List Step → Forest → ℕ
missing_count s q none = length (s ∷ q)
missing_count s [] (node b a ends next rest) =
    cond (is_before s (b, a)) 1 (cond (is_before (b, a) s) (missing_count s [] rest) 0)
missing_count s (t ∷ q) (node b a ends next rest) =
    cond (is_before s (b, a)) (length (s ∷ t ∷ q)) (cond (is_before (b, a) s) (missing_count s (t ∷ q) rest) (missing_count t q next))

-- The patterns of a source, packed, by the stops at which they end. Only private clauses cite these words.
-- Transfer Patterns (Bast and others, ESA 2010), section 2: the query is answered from the patterns that end at the target.
use Rattle.std.specs.Prelude.{Option, Some, None, ◌≡◌, ◌≢◌, ◌<◌, ◌≤◌, ℕ, zero, suc, List, [], ◌∷◌, ◌++◌, length, map, slice_get, slice_index_or}
use Rattle.std.specs.List.{All}
use Rattle.std.specs.List.Sorted.{IsNonDecreasingBy}
use Rattle.pattern_tree.specs.Forest.{Step, Pair, Forest, node_count, pairs}
use Rattle.pattern_tree.specs.Walks.{after}
use Rattle.packed_patterns.specs.declared.packing.Beginning.{Beginning}
use Rattle.packed_patterns.specs.declared.packing.Pattern.{Pattern}

-- a beginning's last ride
abbrev pub ride_of : Beginning → Step
ride_of b = (b.board, b.alight)

-- the beginning of that number: they are counted from 1
abbrev pub beginning_at : List Beginning → ℕ → Option Beginning
beginning_at bs zero = None
beginning_at bs (suc i) = slice_get bs i

-- the rides before a beginning's last, and then that one; none if there is no beginning
abbrev pub with_ride : (ℕ → List Step) → Option Beginning → List Step
with_ride before None = []
with_ride before (Some b) = before b.before ++ ride_of b ∷ []

-- the last rides of the beginning of that number, no more than `most` of them
unfoldable pub path_to : ℕ → List Beginning → ℕ → List Step
path_to zero bs n = []
path_to (suc most) bs n = with_ride (path_to most bs) (beginning_at bs n)

-- a pattern's rides
abbrev pub path_of : List Beginning → Pattern → List Step
path_of bs p = path_to 8 bs p.last

-- those of patterns
abbrev pub paths_of : List Beginning → List Pattern → List (List Step)
paths_of bs ps = map (path_of bs) ps

-- a pattern's pair, as a tree has it
abbrev pub pair_of : List Beginning → Pattern → Pair
pair_of bs p = (path_of bs p, p.end)

-- the pairs of patterns
abbrev pub pairs_of : List Beginning → List Pattern → List Pair
pairs_of bs ps = map (pair_of bs) ps

-- the stops at which they end never fall
abbrev pub AreByEnd : List Pattern → Type 0
AreByEnd ps = IsNonDecreasingBy (λ p. p.end) ps

-- the patterns below n end at the stop, and the one at n, if there is one, doesn't
pub record IsFirstOther (ps : List Pattern) (end n : ℕ) : Type 0 where
  pub within : n ≤ length ps
  pub same : (k : ℕ) (d : Pattern) → k < n → (slice_index_or ps k d).end ≡ end
  pub other : (d : Pattern) → n < length ps → (slice_index_or ps n d).end ≢ end

-- the pattern of the beginning of that number and of an end
abbrev pub ending : ℕ → ℕ → Pattern
ending n e = record { end = e; last = n }

-- a beginning goes on from an earlier one
abbrev pub AreRooted : List Beginning → Type 0
AreRooted bs = (i : ℕ) (b : Beginning) → slice_get bs i ≡ Some b → b.before ≤ i

-- so does each, and each pattern has the number of one
pub record IsPacked (bs : List Beginning) (ps : List Pattern) : Type 0 where
  pub rooted : AreRooted bs
  pub known : All (λ p. p.last ≤ length bs) ps

-- after the others the nodes of a forest were added, which go on from the beginning of that number, and their patterns
pub record Packs (old : List Beginning) (were : List Pattern) (n : ℕ) (f : Forest) (new : List Beginning) (are : List Pattern) : Type 0 where
  pub packed : IsPacked new are
  pub more : List Beginning
  pub goes_on : new ≡ old ++ more
  pub count : length more ≡ node_count f
  pub pairs_are : pairs_of new are ≡ pairs_of old were ++ map (after (path_to 8 old n)) (pairs f)

-- To which stops a tree may lack patterns. Only private clauses cite these words.
use Rattle.std.specs.Prelude.{◌≡◌, ℕ, Bool, true, false, List, length, slice_index_or}
use Rattle.std.specs.List.{Contains}
use Rattle.timetable.specs.Table.{Table}
use Rattle.pattern_tree.specs.Forest.{Pair}
use Rattle.pattern_tree.specs.Content.{Content}
use Rattle.auditing.specs.Audits.{Agrees}
use Rattle.auditing.specs.declared.lacking.Lacking.{Lacking}

-- the mark of a stop; one that has none counts as marked
abbrev pub is_marked : List Bool → ℕ → Bool
is_marked marks t = slice_index_or marks t true

-- A pair was looked for. A mark that was there stays, and unless the stop at which the pair ends is marked, the patterns have it.
pub record IsLookedFor (old : Lacking) (p : Pair) (new : Lacking) : Type 0 where
  pub patterns : new.patterns.now ≡ old.patterns.now
  pub size : length new.marks.items ≡ length old.marks.items
  pub stays : (t : ℕ) → is_marked new.marks.items t ≡ false → is_marked old.marks.items t ≡ false
  pub has : is_marked new.marks.items p.1 ≡ false → Contains old.patterns.now.pairs p

-- to each stop that isn't marked, the answers from the tree agree at each moment
abbrev pub AgreeUnmarked : Table → Content → ℕ → List Bool → Type 0
AgreeUnmarked table tree k marks = (t : ℕ) → is_marked marks t ≡ false → (d : ℕ) → Agrees table tree k d t

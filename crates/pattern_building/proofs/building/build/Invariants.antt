use Rattle.std.proofs.Common.{◌≡◌, ◌≢◌, ℕ, ◌<◌, ◌≤◌, length, get_or}
use Rattle.std.specs.List.{AllPairs}
use Rattle.rounds.specs.Scratch.{IsAlike, MayGoOn, rides_of, source_of, kept_of}
use Rattle.pattern_tree.specs.Completeness.{Earned}
use Rattle.pattern_building.specs.RoundPairs.{CompleteAt}
use Rattle.pattern_building.specs.Lowered.{AreLater}
use Rattle.pattern_building.proofs.building.build.Given as goal

-- the events from `index` on are done; each one before is no later than the last run, and than the departures of the arrivals that are kept
abbrev pub invariant-loop-index : goal.invariant-loop-index
invariant-loop-index g l = record {
  same : IsAlike l.fn.scratch l.scratch;
  from : source_of l.scratch ≡ l.fn.source;
  may : (i : ℕ) → i < l.index → MayGoOn l.table (get_or l.moments.items i 0) l.scratch;
  source : l.tree.source ≡ l.fn.source;
  once : AllPairs (λ p q. p ≢ q) l.tree.pairs;
  earned : Earned l.table (rides_of l.fn.scratch) l.fn.source l.tree.pairs;
  complete : (i : ℕ) → l.index ≤ i → i < length l.moments.items → CompleteAt l.table (rides_of l.fn.scratch) l.fn.source (get_or l.moments.items i 0) l.tree.pairs;
  later : (i : ℕ) → i < l.index → AreLater l.table (rides_of l.fn.scratch) l.fn.source (get_or l.moments.items i 0) l.tree.pairs (kept_of l.scratch);
}

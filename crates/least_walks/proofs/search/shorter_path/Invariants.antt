use Rattle.std.proofs.Common.{◌≡◌, ℕ, ◌+◌, ◌≤◌}
use Rattle.least_walks.specs.Layers.{AreWays}
use Rattle.least_walks.proofs.search.shorter_path.Given as goal

-- the ways have one ride less than the count of the loop, and can be taken after the others
abbrev pub invariant-loop-more : goal.invariant-loop-more
invariant-loop-more l = record {
  some : 1 ≤ l.more;
  within : l.more ≤ l.point.rides;
  ways : (i n : ℕ) → i + n ≡ l.point.rides → n + 1 ≡ l.more
      → AreWays l.network l.point.from l.point.departure l.point.to l.point.arrival l.bound i n l.alights.items;
}

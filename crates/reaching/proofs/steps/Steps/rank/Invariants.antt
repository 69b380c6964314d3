use Rattle.std.proofs.Common.{ℕ, ◌+◌, ◌-◌, ◌<◌, ◌≤◌}
use Rattle.reaching.specs.Steps.{is_within, tally}
use Rattle.reaching.proofs.steps.Steps.rank.Given as goal

-- `high` seconds are enough, and fewer than `low` aren't
abbrev pub invariant-loop-low : goal.invariant-loop-low
invariant-loop-low l = record {
  within : l.low ≤ l.high;
  enough : l.enough ≤ tally (is_within l.walk l.self l.high) l.first (l.last + 1 - l.first);
  fewer : (x : ℕ) → x < l.low → tally (is_within l.walk l.self x) l.first (l.last + 1 - l.first) < l.enough;
}

abbrev pub decreases-loop-low : goal.decreases-loop-low
decreases-loop-low l = l.high - l.low

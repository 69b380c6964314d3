-- How instances are counted. Only private clauses cite these words.
use Rattle.std.specs.Prelude.{◌≡◌, ℕ, ◌*◌, ◌<◌, ◌≤◌, nat_le, List, length, Option, if◌then◌else◌}
use Rattle.std.specs.Option.{MatchOption}
use Rattle.gtfs_rows.specs.declared.values.StopTime.{StopTime}
use Rattle.timetable.specs.declared.parts.TheConstants.{MOST_INSTANCES}
use Rattle.feed_timetable.specs.declared.instances.Counts.{Counts}
use Rattle.feed_timetable.specs.Instances.{calls_from, calls_left}

-- there are at most 1,000,000 instances, and on average at most 65,535 calls each
pub record AreFewCounts (counts : Counts) : Type 0 where
  pub few : counts.instances ≤ MOST_INSTANCES
  pub few_calls : counts.calls ≤ 65_535 * counts.instances

-- the counts are those of `instances` instances with `calls` calls, and few
pub record AreCounts (counts : Counts) (instances calls : ℕ) : Type 0 where
  pub instances_are : counts.instances ≡ instances
  pub calls_are : counts.calls ≡ calls
  pub few : AreFewCounts counts

-- these were counted; none if there are too many instances
abbrev pub Counted : Option Counts → ℕ → ℕ → Type 0
Counted counts instances calls = MatchOption counts (MOST_INSTANCES < instances) (λ c. AreCounts c instances calls)

-- a trip with `calls` calls left is one instance, and none if fewer than two are left
abbrev pub weight : ℕ → ℕ
weight calls = if nat_le 2 calls then 1 else 0

abbrev pub call_weight : ℕ → ℕ
call_weight calls = if nat_le 2 calls then calls else 0

-- the same of a trip that departs first at this time of the day before
abbrev pub weight_at : ℕ → ℕ → List StopTime → ℕ → ℕ
weight_at before first calls time = weight (length (calls_left before (calls_from time first calls)))

abbrev pub call_weight_at : ℕ → ℕ → List StopTime → ℕ → ℕ
call_weight_at before first calls time = call_weight (length (calls_left before (calls_from time first calls)))

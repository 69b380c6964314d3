-- The last of the journeys with the same numbers. Only private clauses cite these words.
use Rattle.std.specs.Prelude.{◌≡◌, ℕ}
use Rattle.timetable.specs.Table.{Table}
use Rattle.timetable.specs.Journeys.{Reaches}
use Rattle.pattern_query.specs.Answer.{PointData, numbers, IsJourney}
use Rattle.pattern_query.specs.Leaving.{IsLatest}

-- q is a journey from s to t at d with the numbers of p, and no journey of at most k rides with these leaves later
pub record IsLastLike (table : Table) (k s t d : ℕ) (p q : PointData) : Type 0 where
  pub is : IsJourney table s t d q
  pub alike : numbers q ≡ numbers p
  pub latest : IsLatest (Reaches table 0 k s t) q

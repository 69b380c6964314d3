-- The journey that walks least of those with the same numbers that leave as late.
use Rattle.std.specs.Prelude.{◌≡◌, ℕ, ◌≤◌, List, length}
use Rattle.timetable.specs.declared.parts.Leg.{Leg}
use Rattle.timetable.specs.Table.{Table}
use Rattle.timetable.specs.Journeys.{Journey, pattern}
use Rattle.pattern_tree.specs.Forest.{Step}
use Rattle.pattern_query.specs.Answer.{PointData, numbers, IsJourney}
use Rattle.pattern_query.specs.Leaving.{walked, on_foot}

-- q is a journey between the stops of p that leaves no earlier, with the numbers of p; and no journey with these that leaves no earlier
-- than p walks less
pub record IsLeastLike (table : Table) (p q : PointData) : Type 0 where
  pub is : IsJourney table p.from p.to p.departure q
  pub alike : numbers q ≡ numbers p
  pub least : (o : PointData) → IsJourney table p.from p.to p.departure o → numbers o ≡ numbers p → on_foot table q ≤ on_foot table o

-- one who leaves with the point takes as many rides along the path, and is there no later
pub record IsPathLike (table : Table) (p : PointData) (path : List Step) : Type 0 where
  pub legs : List Leg
  pub arrival : ℕ
  pub journey : Journey table p.from p.departure legs p.to arrival
  pub counted : length legs ≡ p.rides
  pub in_time : arrival ≤ p.arrival
  pub along : pattern table legs ≡ path

-- one who leaves with the point, and is there no later by as many rides, walks at least these seconds
abbrev pub WalksAtLeast : Table → PointData → ℕ → Type 0
WalksAtLeast table p feet =
    (legs : List Leg) (z : ℕ) → Journey table p.from p.departure legs p.to z → length legs ≡ p.rides → z ≤ p.arrival
    → feet ≤ walked table p.from (pattern table legs) p.to

-- What holds of the events of the stops of every timetable, in a traveller's words.
use Rattle.std.specs.Prelude.{ℕ, ◌<◌, ◌≤◌, List, length}
use Rattle.timetable.specs.declared.parts.Leg.{Leg}
use Rattle.timetable.specs.Table.{Table}
use Rattle.timetable.specs.Journeys.{Journey}
use Rattle.stop_events.specs.Events.{IsEvent}

-- with no event from d on up to e, a journey of one ride or more at d is one at e
abbrev pub BetweenEvents : Table → Type 0
BetweenEvents table =
    (s t d e z : ℕ) (legs : List Leg) → ((x : ℕ) → d ≤ x → x < e → ¬ IsEvent table s x) → 1 ≤ length legs
    → Journey table s d legs t z → Journey table s e legs t z

-- with no event from d on, no journey at d has a ride
abbrev pub AfterTheLastEvent : Table → Type 0
AfterTheLastEvent table =
    (s t d z : ℕ) (legs : List Leg) → ((x : ℕ) → d ≤ x → ¬ IsEvent table s x) → 1 ≤ length legs → ¬ Journey table s d legs t z

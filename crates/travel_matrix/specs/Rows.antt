-- A table of travel times: a row for each stop to leave from, with a cell for each stop to go to.
-- The times are those of `reaching`, over each second of a window. Studies of accessibility use such tables of origins and destinations.
use Rattle.std.specs.Prelude.{◌≡◌, ◌≢◌, ℕ, List, Option, None, Some}
use Rattle.std.specs.Global.{Vec}
use Rattle.std.specs.List.{All, AllZip, Contains}
use Rattle.timetable.specs.Table.{Table}
use Rattle.reaching.specs.TravelTimes.{AreTravelTimes}
use Rattle.reaching.specs.declared.travel_time.TravelTimes.{TravelTimes}

-- the travel times to a stop, among those of a list; none if the list has none to it
abbrev pub IsCell : List TravelTimes → ℕ → Option TravelTimes → Type 0
IsCell list t None = All (λ times. times.stop ≢ t) list
IsCell list t (Some times) = Contains list times × (times.stop ≡ t)

-- the row of a stop to leave from: the travel times from it with at most k rides over the window, to each of the stops to go to
abbrev pub IsRow : Table → ℕ → ℕ → ℕ → List ℕ → ℕ → List (Option TravelTimes) → Type 0
IsRow table k first last goals s row = (list : List TravelTimes) × AreTravelTimes table k s first last list × AllZip (IsCell list) goals row

-- the rows of stops to leave from, in their order
abbrev pub AreRows : Table → ℕ → ℕ → ℕ → List ℕ → List ℕ → List (Vec (Option TravelTimes)) → Type 0
AreRows table k first last goals origins rows = AllZip (λ s row. IsRow table k first last goals s row.items) origins rows

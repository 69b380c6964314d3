-- How a journey is reported: its rides, and the walks before, between and after them. If one stays at a stop, that isn't reported.
-- GTFS Schedule, stop_times.txt and transfers.txt: a ride is part of a trip, and a walk leads from one stop to another.
use Rattle.std.specs.Prelude.{◌≡◌, ℕ, ◌+◌, ◌==◌, List, [], ◌∷◌, ◌++◌, slice_get, slice_index_or, if◌then◌else◌}
use Rattle.std.specs.Option.{option_map, unwrap_or}
use Rattle.timetable.specs.declared.parts.Leg.{Leg}
use Rattle.timetable.specs.Table.{Table, walk}
use Rattle.timetable.specs.Journeys.{from, to, departs, arrives}
use Rattle.feed_ids.specs.NameLists.{NameLists}
use Rattle.feed_basis.specs.Basis.{BasisData}
use Rattle.answer_lines.specs.Moments.{TellsMoment}
use Rattle.feed_basis.specs.declared.numbered.NumberedStage.{NumberedStage}
use Rattle.feed_basis.specs.declared.numbered.NumberedStage.TheVariants as numbered
use Rattle.answer_lines.specs.declared.stage.Stage.{Stage}
use Rattle.answer_lines.specs.declared.stage.Stage.TheVariants as stages

-- the walk from p, begun at the moment a, to q: none if the two are one stop
abbrev pub walk_stage : Table → ℕ → ℕ → ℕ → List NumberedStage
walk_stage table p a q = if p == q then [] else (numbered.Walk p q a (a + unwrap_or (walk table p q) 0) ∷ [])

-- one who is at p at the moment a takes the legs, with the walks before, between and after them, to t
abbrev pub stages_of : Table → ℕ → ℕ → List Leg → ℕ → List NumberedStage
stages_of table p a [] t = walk_stage table p a t
stages_of table p a (leg ∷ legs) t =
    walk_stage table p a (from table leg) ++ (numbered.Ride leg ∷ stages_of table (to table leg) (arrives table leg) legs t)

-- the id of a stop, and that of an instance's trip
abbrev pub stop_id : NameLists → ℕ → List ℕ
stop_id names stop = slice_index_or names.stops stop []

abbrev pub trip_of : Table → ℕ → ℕ
trip_of table instance = unwrap_or (option_map (λ run. run.trip) (slice_get table.instances instance)) 0

abbrev pub trip_id : Table → NameLists → ℕ → List ℕ
trip_id table names instance = slice_index_or names.trips (trip_of table instance) []

-- a ride is reported by its leg and trip, and the stop and time at which it boards and alights; a walk by its stops, and when it begins and
-- arrives
abbrev pub TellsStage : BasisData → NumberedStage → Stage → Type 0
TellsStage basis (numbered.Ride leg) (stages.Ride ride trip board leaves alight comes) =
    (ride ≡ leg) × (trip ≡ trip_id basis.timetable basis.names leg.instance)
    × (board ≡ stop_id basis.names (from basis.timetable leg)) × TellsMoment basis.cover (departs basis.timetable leg) leaves
    × (alight ≡ stop_id basis.names (to basis.timetable leg)) × TellsMoment basis.cover (arrives basis.timetable leg) comes
TellsStage basis (numbered.Walk p q a z) (stages.Walk leaves begins reaches comes) =
    (leaves ≡ stop_id basis.names p) × TellsMoment basis.cover a begins
    × (reaches ≡ stop_id basis.names q) × TellsMoment basis.cover z comes
TellsStage basis (numbered.Ride leg) (stages.Walk leaves begins reaches comes) = ⊥
TellsStage basis (numbered.Walk p q a z) (stages.Ride ride trip board leaves alight comes) = ⊥

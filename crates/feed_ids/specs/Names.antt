-- What an id names.
-- GTFS Schedule, stops.txt, stop_id, location_type and parent_station: a station stands for the stops that name it as their parent.
use Rattle.std.specs.Prelude.{◌≡◌, ℕ, ◌<◌, List, [], ◌∷◌, length, Option, None, Some}
use Rattle.std.specs.List.{All, position_from}
use Rattle.std.specs.Option.{option_map}
use Rattle.std.specs.Str.{bytes_eq}
use Rattle.feed_ids.specs.declared.names.Place.{Place}
use Rattle.feed_ids.specs.declared.names.Place.TheVariants as places
use Rattle.feed_ids.specs.Groups.{group}
use Rattle.feed_ids.specs.NameLists.{NameLists}

-- the number of the stop of an id
abbrev pub stop_named : NameLists → List ℕ → Option ℕ
stop_named names id = position_from (bytes_eq id) 0 names.stops

-- the number of the station of an id
abbrev pub station_named : NameLists → List ℕ → Option ℕ
station_named names id = position_from (bytes_eq id) 0 names.stations

-- the stop of the id, else the stops of the station of the id
abbrev pub IsPlaceOf : NameLists → List ℕ → Option Place → Type 0
IsPlaceOf names id None = (stop_named names id ≡ None) × (station_named names id ≡ None)
IsPlaceOf names id (Some (places.Stop stop)) = stop_named names id ≡ Some stop
IsPlaceOf names id (Some (places.Station stops)) =
    (stop_named names id ≡ None) × (n : ℕ) × (station_named names id ≡ Some n) × (stops.now ≡ group names.children n)

-- the stops of a place
abbrev pub stops_in : Place → List ℕ
stops_in (places.Stop stop) = stop ∷ []
stops_in (places.Station stops) = stops.now

-- only the stop, if there is one, else the others
abbrev pub one_or : Option ℕ → Option (List ℕ) → Option (List ℕ)
one_or (Some stop) others = Some (stop ∷ [])
one_or None others = others

-- the stop of the id, else the stops of the station of the id, in the order of their numbers; none if the id names nothing
abbrev pub stops_at : NameLists → List ℕ → Option (List ℕ)
stops_at names id = one_or (stop_named names id) (option_map (group names.children) (station_named names id))

-- each stop that an id stands for is one of the names' stops
abbrev pub KnowsStops : NameLists → Type 0
KnowsStops names = (id stops : List ℕ) → stops_at names id ≡ Some stops → All (λ stop. stop < length names.stops) stops

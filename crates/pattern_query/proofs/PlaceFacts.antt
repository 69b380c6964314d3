-- What an id stands for.
use Rattle.std.proofs.Common.{Option, ◌≡◌, ℕ, List, Some, None, option_map, sym, ◌∙◌, ap}
use Rattle.feed_ids.specs.declared.names.Place.{Place}
use Rattle.feed_ids.specs.declared.names.Place.TheVariants.{Stop, Station}
use Rattle.feed_ids.specs.Groups.{group}
use Rattle.feed_ids.specs.NameLists.{NameLists}
use Rattle.feed_ids.specs.Names.{IsPlaceOf, one_or, station_named, stops_at, stops_in}

pub place_is : (names : NameLists) (id : List ℕ) (place : Place) → IsPlaceOf names id (Some place) → stops_at names id ≡ Some (stops_in place)
place_is names id (Stop stop) h = ap (λ o. one_or o (option_map (group names.children) (station_named names id))) h
place_is names id (Station stops) h =
    ap (λ o. one_or o (option_map (group names.children) (station_named names id))) h.0
    ∙ ap (option_map (group names.children)) h.2 ∙ ap (λ x. Some x) (sym h.3)

pub no_place : (names : NameLists) (id : List ℕ) → IsPlaceOf names id None → stops_at names id ≡ None
no_place names id h =
    ap (λ o. one_or o (option_map (group names.children) (station_named names id))) h.0 ∙ ap (option_map (group names.children)) h.1

-- the place of an id has the id's stops
pub place_found : (names : NameLists) (id : List ℕ) (place : Option Place) → IsPlaceOf names id place → option_map stops_in place ≡ stops_at names id
place_found names id None h = sym (no_place names id h)
place_found names id (Some place) h = sym (place_is names id place h)

use Rattle.std.proofs.Common.{◌≡◌, ap, refl, List, [], ◌∷◌, Bor, map, ℕ}
use Rattle.gtfs_rows.specs.declared.values.Station.{Station}
use Rattle.gtfs_rows.specs.Rows.{texts_in}
use Rattle.gtfs_stops.specs.Stops.{station_of}
use Rattle.gtfs_stops.proofs.stops.keep_stations.Goals as goal

stations_of : (keys : List (Bor (List ℕ))) → map (λ k. station_of k.now) keys ≡ map station_of (texts_in keys)
stations_of [] = refl
stations_of (k ∷ ks) = ap (λ (xs : List Station). station_of k.now ∷ xs) (stations_of ks)

pub loop-id-init : goal.loop-id-init
loop-id-init c = rw (c.new-stations.ensures.items, c.into_iter-id-iterator.ensures.into_iter_gives, c.iter-id-items.ensures.rest) (stations_of c.args.ids.now.keys)

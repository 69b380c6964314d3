use Rattle.pattern_query.proofs.PlaceFacts.{place_found}
use Rattle.pattern_query.proofs.places.place_named.Goals as goal

pub returns : goal.returns
returns c = place_found c.args.names.now c.args.id.now c.place.result c.place.ensures.value

use Rattle.std.proofs.Common.{subst}
use Rattle.feed_ids.specs.NameLists.{NameLists}
use Rattle.feed_ids.specs.Names.{KnowsStops}
use Rattle.feed_ids.specs.contracts.names.Names.{the_view}
use Rattle.feed_ids.proofs.Known.{knows_stops}
use Rattle.feed_ids.proofs.names.Names.know_their_stops.Goals as goal

pub returns : goal.returns
returns c = subst (λ (names : NameLists). KnowsStops names) c.self.view_is (knows_stops (the_view c.self.inside) c.self.invariant.1)

use Rattle.std.proofs.Common.{◌≡◌, map, take}
use Rattle.store_terms.specs.Stores.{ids_of}
use Rattle.store_terms.proofs.naming.ids.Given as goal

abbrev pub invariant-loop-stop : goal.invariant-loop-stop
invariant-loop-stop l = map (λ id. id.now) l.ids.items ≡ ids_of l.basis.names (take l.stop-index l.stops)

use Rattle.std.proofs.Common.{◌<◌, List, ℕ, subst, sym}
use Rattle.std.specs.List.{All}
use Rattle.timetable.specs.Table.{stops_of}
use Rattle.store_terms.proofs.MissingFacts.{missing_known}
use Rattle.store_building.proofs.built.counted.Goals as goal

pub ids-requires : goal.ids-requires
ids-requires c =
    let stops = stops_of c.args.basis.now.timetable in
    subst (λ (l : List ℕ). All (λ s. s < stops) l) (sym c.requires) (missing_known c.args.part stops c.args.stored.now)

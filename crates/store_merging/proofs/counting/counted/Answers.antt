use Rattle.std.proofs.Common.{◌≡◌, ◌<◌, List, ℕ, ap, subst, sym, ◌∙◌}
use Rattle.std.specs.List.{All}
use Rattle.stop_parts.specs.Parts.{whole}
use Rattle.timetable.specs.Table.{Table, stops_of}
use Rattle.precomputing.specs.Missing.{missing_of}
use Rattle.store_terms.proofs.MissingFacts.{missing_known}
use Rattle.store_merging.proofs.counting.counted.Goals as goal

pub ids-requires : goal.ids-requires
ids-requires g c =
    let stops = stops_of c.args.basis.now.timetable in
    let stored = c.args.store.now.stored in
    let are : c.deref.result.now ≡ missing_of whole stops stored =
    c.deref.ensures.value ∙ c.in_ok-lacking.ensures ∙ ap (λ (t : Table). missing_of whole (stops_of t) stored) c.requires in
    subst (λ (l : List ℕ). All (λ s. s < stops) l) (sym are) (missing_known whole stops stored)

use Rattle.std.proofs.Common.{◌∙◌, ap, length, subst, sym}
use Rattle.std.specs.String.{string_bytes}
use Rattle.std.proofs.lemmas.List.{length-map}
use Rattle.feed_ids.specs.Groups.{AreBelow}
use Rattle.feed_timetable.proofs.NameFacts.{children_below}
use Rattle.feed_timetable.proofs.names.names_of.Goals as goal

pub new-requires-clause-known : goal.new-requires-clause-known
new-requires-clause-known c =
    let ids = c.in_ok-stops.stops.items in
    let stops = c.args.tables.now.stops in
    let same = sym (length-map ids string_bytes) ∙ ap (λ l. length l) c.in_ok-stops.ensures.ids ∙ length-map stops (λ stop. stop.id) in
    subst (λ count. AreBelow count c.in_ok-children.children) (sym same) (children_below c.args.tables.now c.in_ok-children.children c.in_ok-children.ensures)

use Rattle.std.proofs.Common.{rules, ◌≡◌, [], None, replicate, sym, subst}
use Rattle.std.specs.Arc.{arc_value}
use Rattle.timetable.specs.Table.{Table, stops_of}
use Rattle.section_store.specs.Sections.{form_of}
use Rattle.part_shelf.specs.Shelves.{HasTrees}
use Rattle.part_shelf.proofs.ShelfFacts.{none_held}
use Rattle.part_shelf.proofs.shelf.PartShelf.new.Goals as goal

pub returns-clause-none : goal.returns-clause-none
returns-clause-none g c =
    let form = form_of (arc_value c.args.table.now) c.args.rides in
    let are : c.in_ok-spots.spots.items ≡ replicate (stops_of form.table) None = search rules in
    let own : arc_value c.in_ok-table.table ≡ arc_value c.args.table.now = search rules in
    subst
    (λ (t : Table). HasTrees g.D.Disk.honest g.D.Disk.state (form_of t c.args.rides) c.new.result.items c.in_ok-spots.spots.items [] [])
    (sym own)
    (none_held g.D.Disk.honest g.D.Disk.state form c.new.result.items c.in_ok-spots.spots.items c.new.ensures.items are)

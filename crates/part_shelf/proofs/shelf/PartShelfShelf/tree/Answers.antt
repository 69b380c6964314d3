use Rattle.std.proofs.Common.{rules, ◌≡◌, ◌≢◌, None, Some, get_or, sym, subst}
use Rattle.std.specs.Arc.{arc_value}
use Rattle.section_store.specs.Sections.{form_of}
use Rattle.merging.specs.Reads.{IsSteady}
use Rattle.part_shelf.specs.declared.fault.TextFault.TheVariants.{Changed}
use Rattle.part_shelf.proofs.ComparingFacts.{text_steady}
use Rattle.part_shelf.proofs.ShelfFacts.{not_changed, read_of, spotted}
use Rattle.part_shelf.proofs.shelf.PartShelfShelf.tree.Goals as goal

pub returns-in-Err-clause-found : goal.returns-in-Err-clause-found
returns-in-Err-clause-found g c = λ disks all has.
    let form = form_of (arc_value c.args.self.now.table) c.args.self.now.rides in
    let spot = c.in-Some-Some.spot in
    let there : get_or c.args.self.now.spots.items c.args.stop None ≡ Some spot = search rules in
    let it = spotted form disks c.args.self.now.spots.items all c.args.stop spot has.are_spots c.requires.known there in
    subst IsSteady (sym c.of_text.ensures)
    (text_steady spot.part c.in-Err.fault (c.in-Err.ensures.text form disks it.tree has.honest has.states_are it.there.0 it.there.1))

pub returns-in-Ok-clause-found : goal.returns-in-Ok-clause-found
returns-in-Ok-clause-found g c = λ disks all has.
    let table = arc_value c.args.self.now.table in
    let k = c.args.self.now.rides in
    let form = form_of table k in
    let spot = c.in-Some-Some.spot in
    let there : get_or c.args.self.now.spots.items c.args.stop None ≡ Some spot = search rules in
    let it = spotted form disks c.args.self.now.spots.items all c.args.stop spot has.are_spots c.requires.known there in
    read_of table c.deref-3.result.now k c.read_spot.new.text.items c.deref-2.result.now disks spot all c.args.stop c.in-Ok.tree it
    (c.in_default-read_spot.ensures.text form disks it.tree has.honest has.states_are it.there.0 it.there.1) c.deref-2.ensures.value c.deref-3.ensures
    c.in-Ok.ensures.tree

pub returns-in-Err-tree_in-clause-found : goal.returns-in-Err-tree_in-clause-found
returns-in-Err-tree_in-clause-found g c = λ disks all has.
    let table = arc_value c.args.self.now.table in
    let k = c.args.self.now.rides in
    let form = form_of table k in
    let spot = c.in-Some-Some.spot in
    let there : get_or c.args.self.now.spots.items c.args.stop None ≡ Some spot = search rules in
    let it = spotted form disks c.args.self.now.spots.items all c.args.stop spot has.are_spots c.requires.known there in
    let isnt : c.in-Err-tree_in.fault ≢ Changed =
    not_changed table c.deref-3.result.now k c.read_spot.new.text.items c.deref-2.result.now disks spot all c.args.stop (c.in-Err-tree_in.fault ≢ Changed) it
    (c.in_default-read_spot.ensures.text form disks it.tree has.honest has.states_are it.there.0 it.there.1) c.deref-2.ensures.value c.deref-3.ensures
    c.in-Err-tree_in.ensures.tree in
    subst IsSteady (sym c.of_text-in-Err-tree_in.ensures) (text_steady spot.part c.in-Err-tree_in.fault isnt)

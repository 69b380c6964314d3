use Rattle.std.proofs.Common.{ℕ, List, sym, subst}
use Rattle.std.specs.Arc.{arc_value}
use Rattle.timetable.specs.Table.{stops_of}
use Rattle.section_store.specs.Sections.{Form, form_of, sources}
use Rattle.planner_life.specs.Desk.{IsDesk}
use Rattle.store_excerpt.specs.Board.{AreExact}
use Rattle.recovery.specs.Opening.{IsOpening}
use Rattle.store_excerpt.specs.Excerpt.{ShowsWhole}
use Rattle.planner_life.proofs.DeskFacts.{sources_known}
use Rattle.planner_life.proofs.desk.Desk.open.Goals as goal

pub returns-in-Err-clause-moments : goal.returns-in-Err-clause-moments
returns-in-Err-clause-moments g c = λ honest. c.in-Err.ensures.opening honest

pub invariant_of-result : goal.invariant_of-result
invariant_of-result g c =
    let form = form_of (arc_value c.args.table.now) c.args.rides in
    let trees = c.in-Ok.recovered.trees.items in
    let store = c.in-Ok.recovered.store in
    let tools = c.in-Ok-prepare.tools in
    let board = c.in-Ok-prepare.board in
    let desk : IsDesk tools form (sources trees) board = record {
      same = c.in-Ok-prepare.ensures.tools;
      long = c.in-Ok-prepare.ensures.long;
      shows = c.in-Ok-prepare.ensures.shows;
      known = sources_known (stops_of form.table) trees c.in-Ok.ensures.known;
    } in
    subst (λ (f : Form). IsDesk tools f store.stored board) (sym c.in-Ok.ensures.ready.1)
    (subst (λ (l : List ℕ). IsDesk tools form l board) (sym c.in-Ok.ensures.stored) desk)

pub returns-in-Ok-prepare-clause-moments : goal.returns-in-Ok-prepare-clause-moments
returns-in-Ok-prepare-clause-moments g c = λ honest. c.in-Ok.ensures.opening honest

pub returns-in-Ok-prepare-clause-right : goal.returns-in-Ok-prepare-clause-right
returns-in-Ok-prepare-clause-right g c = λ honest trusted.
    let form = form_of (arc_value c.args.table.now) c.args.rides in
    let board = c.in-Ok-prepare.board in
    subst (λ (f : Form). AreExact f board) (sym c.in-Ok.ensures.ready.1)
    (c.in-Ok-prepare.ensures.right form (c.in-Ok.ensures.exact honest trusted))

pub returns-in-Ok-prepare-clause-whole : goal.returns-in-Ok-prepare-clause-whole
returns-in-Ok-prepare-clause-whole g c = λ honest.
    let form = form_of (arc_value c.args.table.now) c.args.rides in
    let s = g.D.Disk.state c.args.disk in
    let trees = c.in-Ok.recovered.trees.items in
    let store = c.in-Ok.recovered.store in
    let board = c.in-Ok-prepare.board in
    let stands = c.in-Ok.ensures.stands honest in
    let is : ShowsWhole form s store.stored board = record {
      trees = trees;
      stands = stands;
      are = c.in-Ok.ensures.stored;
      same = c.in-Ok-prepare.ensures.same;
      whole = c.in-Ok-prepare.ensures.whole form;
      trusted = c.in-Ok.ensures.exact honest;
    } in
    subst (λ (f : Form). ShowsWhole f s store.stored board) (sym c.in-Ok.ensures.ready.1) is

pub returns-in-Err-prepare-clause-moments : goal.returns-in-Err-prepare-clause-moments
returns-in-Err-prepare-clause-moments g c = λ honest.
    let form = form_of (arc_value c.args.table.now) c.args.rides in
    let s = g.D.Disk.state c.args.disk in
    let opening : IsOpening form s (g.D.Disk.state c.in-Ok.recovered.store.disk) = c.in-Ok.ensures.opening honest in
    subst (λ d. IsOpening form s (g.D.Disk.state d)) (sym c.into_disk.ensures) opening

pub returns-in-Ok-prepare-clause-ends : goal.returns-in-Ok-prepare-clause-ends
returns-in-Ok-prepare-clause-ends g c = λ honest.
    let begins = (c.in-Ok.ensures.holds honest).rest.begins in
    record {
      trees = c.in-Ok.recovered.trees.items;
      stands = c.in-Ok.ensures.stands honest;
      are = c.in-Ok.ensures.stored;
      texts = begins.texts;
      of = begins.of;
      there = begins.there;
    }

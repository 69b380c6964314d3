use Rattle.std.proofs.Common.{◌≡◌, ◌<◌, All, sym, ◌∙◌, ap, subst}
use Rattle.std.specs.Arc.{arc_value}
use Rattle.timetable.specs.Table.{Table, stops_of}
use Rattle.section_store.specs.Sections.{Form, Stands, form_of}
use Rattle.recovery.specs.Opening.{IsOpening}
use Rattle.section_store.specs.Lasting.{IsExact}
use Rattle.planner.specs.Desk.{DeskView}
use Rattle.planner.specs.Opening.{HoldsList}
use Rattle.planner.proofs.ListFacts.{shared_from, shows_stored, sources_known, shown_right}
use Rattle.planner.proofs.plan.Planner.open.Goals as goal

pub new-requires-in-Ok-open_shared-2 : goal.new-requires-in-Ok-open_shared-2
new-requires-in-Ok-open_shared-2 g c =
    let given = c.in-Ok.ensures.given in
    let store = c.in-Ok.store in
    let form = form_of c.args.network c.args.rides in
    let same : form_of (arc_value c.shared-table.result.now) c.args.rides ≡ form = ap (λ (t : Table). form_of t c.args.rides) c.shared-table.ensures in
    let of : store.form ≡ form = c.in-Ok.ensures.ready.1 in
    let known : All (λ s. s < stops_of form.table) store.stored =
    subst (All (λ s. s < stops_of form.table)) (sym given.stored_are) (sources_known (stops_of form.table) given.trees given.known) in
    record {
      same = c.in-Ok-open_shared.ensures.form ∙ same ∙ sym of;
      known = subst (λ (f : Form). All (λ s. s < stops_of f.table) store.stored) (sym of) known;
      shows = shows_stored store.stored given.trees c.in-Ok-open_shared.writer.told.list given.stored_are
          (shared_from _ c.open_store.new.keeper given.trees c.in-Ok-open_shared.writer.told.list c.new.ensures.items given.given c.in-Ok-open_shared.ensures.trees);
    }

pub returns-in-Err-open_shared-clause-moments : goal.returns-in-Err-open_shared-clause-moments
returns-in-Err-open_shared-clause-moments g c = λ honest.
    subst (λ d. IsOpening (form_of c.args.network c.args.rides) (g.D.Disk.state c.args.disk) (g.D.Disk.state d)) (sym c.into_disk.ensures)
    (c.in-Ok.ensures.opening honest)

pub returns-in-Ok-open_shared-clause-moments : goal.returns-in-Ok-open_shared-clause-moments
returns-in-Ok-open_shared-clause-moments g c = λ honest.
    subst (λ d. IsOpening (form_of c.args.network c.args.rides) (g.D.Disk.state c.args.disk) (g.D.Disk.state d))
    (sym (ap (λ (v : DeskView _). v.disk) c.new-in-Ok-open_shared-2.ensures)) (c.in-Ok.ensures.opening honest)

pub returns-in-Ok-open_shared-clause-right : goal.returns-in-Ok-open_shared-clause-right
returns-in-Ok-open_shared-clause-right g c = λ honest trusted.
    let given = c.in-Ok.ensures.given in
    let writer = c.in-Ok-open_shared.writer in
    let form = form_of c.args.network c.args.rides in
    let shown : All (IsExact form) writer.told.list =
    shown_right form given.trees writer.told.list
    (shared_from _ c.open_store.new.keeper given.trees writer.told.list c.new.ensures.items given.given c.in-Ok-open_shared.ensures.trees)
    (given.exact honest trusted) in
    let opened : All (IsExact form) writer.origin.opened.list = rw c.in-Ok-open_shared.ensures.opened.0 shown in
    subst (λ (v : DeskView _). All (IsExact v.form) v.board.origin.opened.list) (sym c.new-in-Ok-open_shared-2.ensures)
    (subst (λ (f : Form). All (IsExact f) writer.origin.opened.list) (sym c.in-Ok.ensures.ready.1) opened)

pub returns-in-Ok-open_shared-clause-list : goal.returns-in-Ok-open_shared-clause-list
returns-in-Ok-open_shared-clause-list g c = λ honest.
    let read = (g.D.Disk.state c.args.disk).read in
    let given = c.in-Ok.ensures.given in
    let writer = c.in-Ok-open_shared.writer in
    let stands : Stands c.in-Ok.store.form read given.trees =
    subst (λ (f : Form). Stands f read given.trees) (sym c.in-Ok.ensures.ready.1) (given.stands honest) in
    subst (λ (v : DeskView _). HoldsList read v) (sym c.new-in-Ok-open_shared-2.ensures)
    (record {
      trees = given.trees;
      stands = stands;
      stored = given.stored_are;
      shown = shared_from _ c.open_store.new.keeper given.trees writer.told.list c.new.ensures.items given.given c.in-Ok-open_shared.ensures.trees;
    })

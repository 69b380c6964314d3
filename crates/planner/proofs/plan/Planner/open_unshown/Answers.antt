use Rattle.std.proofs.Common.{◌≡◌, ◌<◌, All, sym, ◌∙◌, ap, subst}
use Rattle.std.specs.Arc.{arc_value}
use Rattle.timetable.specs.Table.{Table, stops_of}
use Rattle.section_store.specs.Sections.{Form, form_of}
use Rattle.recovery.specs.Opening.{IsOpening}
use Rattle.planner.specs.Desk.{DeskView}
use Rattle.planner.proofs.ListFacts.{none_shown, sources_known}
use Rattle.planner.proofs.plan.Planner.open_unshown.Goals as goal

pub new-requires-in-Ok-open_shared-2 : goal.new-requires-in-Ok-open_shared-2
new-requires-in-Ok-open_shared-2 g c =
    let given = c.in-Ok.ensures.given in
    let store = c.in-Ok.store in
    let form = form_of c.args.network c.args.rides in
    let same : form_of (arc_value c.shared-table.result.now) c.args.rides ≡ form = ap (λ (t : Table). form_of t c.args.rides) c.shared-table.ensures in
    let of : store.form ≡ form = c.in-Ok.ensures.ready.1 in
    let known : All (λ s. s < stops_of form.table) store.stored =
    subst (All (λ s. s < stops_of form.table)) (sym given.stored_are) (sources_known (stops_of form.table) given.trees given.known) in
    record {
      same = c.in-Ok-open_shared.ensures.form ∙ same ∙ sym of;
      known = subst (λ (f : Form). All (λ s. s < stops_of f.table) store.stored) (sym of) known;
      shows = none_shown store.stored c.in-Ok-open_shared.writer.told.list (c.in-Ok-open_shared.ensures.trees ∙ c.new.ensures.items);
    }

pub returns-in-Err-open_shared-clause-moments : goal.returns-in-Err-open_shared-clause-moments
returns-in-Err-open_shared-clause-moments g c = λ honest.
    subst (λ d. IsOpening (form_of c.args.network c.args.rides) (g.D.Disk.state c.args.disk) (g.D.Disk.state d)) (sym c.into_disk.ensures)
    (c.in-Ok.ensures.opening honest)

pub returns-in-Ok-open_shared-clause-moments : goal.returns-in-Ok-open_shared-clause-moments
returns-in-Ok-open_shared-clause-moments g c = λ honest.
    subst (λ d. IsOpening (form_of c.args.network c.args.rides) (g.D.Disk.state c.args.disk) (g.D.Disk.state d))
    (sym (ap (λ (v : DeskView _). v.disk) c.new-in-Ok-open_shared-2.ensures)) (c.in-Ok.ensures.opening honest)

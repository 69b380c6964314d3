use Rattle.std.proofs.Common.{◌≡◌, ap, subst}
use Rattle.std.specs.Arc.{arc_value}
use Rattle.timetable.specs.Table.{Table}
use Rattle.section_store.specs.Sections.{Form, form_of}
use Rattle.section_store.specs.declared.step.Step.TheVariants.{WriteBody}
use Rattle.recovery.specs.Giving.{IsGiven}
use Rattle.recovery.specs.Opening.{IsOpening}
use Rattle.planner.specs.Opening.{IsUnopened}
use Rattle.planner.specs.declared.fault.OpenFault.TheVariants.{Recover}
use Rattle.planner.proofs.opening.open_store.Goals as goal

pub returns-in-Ok-clause-given : goal.returns-in-Ok-clause-given
returns-in-Ok-clause-given g c =
    let same : form_of (arc_value c.shared-table.result.now) c.args.rides ≡ form_of c.args.network.now c.args.rides =
    ap (λ (t : Table). form_of t c.args.rides) c.shared-table.ensures in
    let store = c.in-Ok.store in
    subst (λ (f : Form). IsGiven f (g.D.Disk.honest c.args.disk) (g.D.Disk.state c.args.disk) g.K.Keeper.takes c.args.keeper.now c.recover_to.new.keeper
    store.place store.stored (g.D.Disk.state store.disk)) same c.in-Ok.ensures.given

pub returns-in-Ok-clause-ready : goal.returns-in-Ok-clause-ready
returns-in-Ok-clause-ready g c =
    let same : form_of (arc_value c.shared-table.result.now) c.args.rides ≡ form_of c.args.network.now c.args.rides =
    ap (λ (t : Table). form_of t c.args.rides) c.shared-table.ensures in
    let store = c.in-Ok.store in
    subst (λ (f : Form). (store.next ≡ WriteBody) × (store.form ≡ f)) same c.in-Ok.ensures.ready

pub returns-in-Ok-clause-opening : goal.returns-in-Ok-clause-opening
returns-in-Ok-clause-opening g c = λ honest.
    let same : form_of (arc_value c.shared-table.result.now) c.args.rides ≡ form_of c.args.network.now c.args.rides =
    ap (λ (t : Table). form_of t c.args.rides) c.shared-table.ensures in
    subst (λ (f : Form). IsOpening f (g.D.Disk.state c.args.disk) (g.D.Disk.state c.in-Ok.store.disk)) same (c.in-Ok.ensures.opening honest)

pub returns-in-Err-clause-refused : goal.returns-in-Err-clause-refused
returns-in-Err-clause-refused g c = λ honest.
    let fault = c.in-Err.refused.0 in
    let read = (g.D.Disk.state c.args.disk).read in
    let form = form_of (arc_value c.shared-table.result.now) c.args.rides in
    let same : form ≡ form_of c.args.network.now c.args.rides = ap (λ (t : Table). form_of t c.args.rides) c.shared-table.ensures in
    let is : IsUnopened form read (Recover fault) = (c.in-Err.ensures.cause honest, c.in-Err.ensures.refused honest) in
    subst (λ (f : Form). IsUnopened f read (Recover fault)) same is

pub returns-in-Err-clause-opening : goal.returns-in-Err-clause-opening
returns-in-Err-clause-opening g c = λ honest.
    let same : form_of (arc_value c.shared-table.result.now) c.args.rides ≡ form_of c.args.network.now c.args.rides =
    ap (λ (t : Table). form_of t c.args.rides) c.shared-table.ensures in
    subst (λ (f : Form). IsOpening f (g.D.Disk.state c.args.disk) (g.D.Disk.state c.in-Err.refused.1)) same (c.in-Err.ensures.opening honest)

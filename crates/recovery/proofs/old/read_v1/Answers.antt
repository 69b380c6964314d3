use Rattle.std.proofs.Common.{rules, inr, ◌≡◌, All, refl, subst}
use Rattle.std.specs.Arc.{arc_value}
use Rattle.section_store.specs.Sections.{Form, MayStand, Stands, old_form_of}
use Rattle.recovery.specs.Reading.{IsRefusal}
use Rattle.recovery.proofs.FirstVersion.{only_read, settled_stands, kept_may, kept_stand}
use Rattle.recovery.proofs.Refusals.{refused_cause, refused_none}
use Rattle.recovery.proofs.old.read_v1.Goals as goal

-- if the look refused
pub returns-in-Err-clause-refused : goal.returns-in-Err-clause-refused
returns-in-Err-clause-refused g c = λ honest.
    let form = old_form_of (arc_value c.args.table.now) c.args.rides in
    let same : c.old-form.result ≡ form = search rules in
    let read = (g.D.Disk.state c.args.disk).read in
    refused_none form read c.in-Err.fault (subst (λ (f : Form). IsRefusal f read c.in-Err.fault) same (c.in-Err.ensures.refused honest))

pub returns-in-Err-clause-cause : goal.returns-in-Err-clause-cause
returns-in-Err-clause-cause g c = λ honest.
    let form = old_form_of (arc_value c.args.table.now) c.args.rides in
    let same : c.old-form.result ≡ form = search rules in
    let read = (g.D.Disk.state c.args.disk).read in
    refused_cause form read c.in-Err.fault (subst (λ (f : Form). IsRefusal f read c.in-Err.fault) same (c.in-Err.ensures.refused honest))

pub returns-in-Err-clause-outcomes : goal.returns-in-Err-clause-outcomes
returns-in-Err-clause-outcomes g c = λ honest.
    only_read (g.D.Disk.state c.args.disk) (g.D.Disk.state c.look.new.disk) (g.met.D.Disk.may_stay c.args.disk honest) (c.in-Err.ensures.stays honest)

-- if the trees were read
pub returns-clause-stands : goal.returns-clause-stands
returns-clause-stands g c = λ honest.
    let same : c.old-form.result ≡ old_form_of (arc_value c.args.table.now) c.args.rides = search rules in
    let s = g.D.Disk.state c.args.disk in
    subst (λ (f : Form). Stands f s.read c.look.new.keeper.trees.items) same
    (kept_stand c.old-form.result _ c.look.new.keeper c.new.ensures.items refl s.read (g.D.Disk.honest c.args.disk) c.in-Ok-look.field-0 honest
    (c.in-Ok-look.ensures.fresh honest) c.in-Ok-look.ensures.found c.in-Ok-look.ensures.untouched)

pub returns-clause-settled : goal.returns-clause-settled
returns-clause-settled g c = λ honest.
    settled_stands (old_form_of (arc_value c.args.table.now) c.args.rides) c.look.new.keeper.trees.items (g.D.Disk.state c.args.disk) (g.D.Disk.state c.look.new.disk)
    (c.in-Ok-look.ensures.synced honest) (returns-clause-stands g c honest)

pub returns-clause-may : goal.returns-clause-may
returns-clause-may g c =
    let same : c.old-form.result ≡ old_form_of (arc_value c.args.table.now) c.args.rides = search rules in
    let s = g.D.Disk.state c.args.disk in
    subst (λ (f : Form). All (MayStand f) c.look.new.keeper.trees.items) same
    (kept_may c.old-form.result _ c.look.new.keeper c.new.ensures.items refl s.read (g.D.Disk.honest c.args.disk) c.in-Ok-look.field-0
    c.in-Ok-look.ensures.found c.in-Ok-look.ensures.untouched)

pub returns-clause-exact : goal.returns-clause-exact
returns-clause-exact g c = λ honest trusted.
    let s = g.D.Disk.state c.args.disk in
    c.trusted_trees.ensures (old_form_of (arc_value c.args.table.now) c.args.rides) s s.read c.look.new.keeper.trees.items trusted
    (g.met.D.Disk.may_stay c.args.disk honest) (returns-clause-stands g c honest)

pub returns-clause-outcomes : goal.returns-clause-outcomes
returns-clause-outcomes g c = λ honest.
    only_read (g.D.Disk.state c.args.disk) (g.D.Disk.state c.look.new.disk) (g.met.D.Disk.may_stay c.args.disk honest) (inr (c.in-Ok-look.ensures.synced honest))

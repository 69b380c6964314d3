use Rattle.std.proofs.Common.{◌≡◌, ◌⊎◌, refl, inl, inr, subst, sym, ◌∙◌}
use Rattle.section_store.specs.Sections.{form_of}
use Rattle.recovery.specs.Opening.{IsOpening, StandsForSources}
use Rattle.std.specs.Arc.{arc_value}
use Rattle.section_store.specs.Sections.{Form}
use Rattle.recovery.specs.Recovery.{CauseOf, IsLeftAlone, IsOutside, StandsForNoList}
use Rattle.store_faults.specs.declared.fault.RecoverFault.{RecoverFault}
use Rattle.store_terms.specs.Stores.{form_over}
use Rattle.store_building.specs.Openings.{cause_of}
use Rattle.store_terms.proofs.OpeningFacts.{over_basis}
use Rattle.store_building.proofs.OpenedFacts.{alone_by, unopened_cause}
use Rattle.store_building.proofs.opening.open_unshown.Goals as goal

pub returns-in-Ok-open_unshown-clause-moments : goal.returns-in-Ok-open_unshown-clause-moments
returns-in-Ok-open_unshown-clause-moments g c = λ honest.
    let old = g.D.Disk.state c.args.disk in
    let new = g.D.Disk.state c.in-Ok-open_unshown.opened.1.disk in
    over_basis (λ form. IsOpening form old new) c.args.basis.now c.args.rides c.in-Ok.network c.in-Ok.ensures
    (c.in-Ok-open_unshown.ensures.moments honest)

pub returns-in-Err-clause-cause : goal.returns-in-Err-clause-cause
returns-in-Err-clause-cause g c = λ honest.
    let read = (g.D.Disk.state c.args.disk).read in
    let why = unopened_cause (form_of c.in-Ok.network c.args.rides) read c.in-Err.fault (c.in-Err.ensures.refused honest) in
    subst (λ (w : RecoverFault). CauseOf (form_over c.args.basis.now c.args.rides) read w) (sym c.cause.ensures)
    (over_basis (λ form. CauseOf form read (cause_of c.in-Err.fault)) c.args.basis.now c.args.rides c.in-Ok.network c.in-Ok.ensures why.0)

pub returns-in-Err-clause-refused : goal.returns-in-Err-clause-refused
returns-in-Err-clause-refused g c = λ honest.
    let read = (g.D.Disk.state c.args.disk).read in
    let why = unopened_cause (form_of c.in-Ok.network c.args.rides) read c.in-Err.fault (c.in-Err.ensures.refused honest) in
    subst (λ (w : RecoverFault). IsOutside w ⊎ StandsForNoList (form_over c.args.basis.now c.args.rides) read) (sym c.cause.ensures)
    (over_basis (λ form. IsOutside (cause_of c.in-Err.fault) ⊎ StandsForNoList form read) c.args.basis.now c.args.rides c.in-Ok.network
    c.in-Ok.ensures why.1)

pub returns-in-Err-clause-alone : goal.returns-in-Err-clause-alone
returns-in-Err-clause-alone g c = λ honest.
    let old = g.D.Disk.state c.args.disk in
    let new = g.D.Disk.state c.in-Err.disk in
    subst (λ (w : RecoverFault). IsOutside w ⊎ IsLeftAlone old new) (sym c.cause.ensures)
    (alone_by c.in-Err.fault old new (c.in-Err.ensures.alone honest))

pub returns-in-Err-clause-moments : goal.returns-in-Err-clause-moments
returns-in-Err-clause-moments g c = λ honest.
    let old = g.D.Disk.state c.args.disk in
    let new = g.D.Disk.state c.in-Err.disk in
    over_basis (λ form. IsOpening form old new) c.args.basis.now c.args.rides c.in-Ok.network c.in-Ok.ensures
    (c.in-Err.ensures.moments honest)

pub returns-in_default-clause-planner : goal.returns-in_default-clause-planner
returns-in_default-clause-planner g c = tt

pub returns-in_default-clause-form : goal.returns-in_default-clause-form
returns-in_default-clause-form g c = tt

pub returns-in_default-clause-ready : goal.returns-in_default-clause-ready
returns-in_default-clause-ready g c = tt

pub returns-in_default-clause-stood : goal.returns-in_default-clause-stood
returns-in_default-clause-stood g c = λ _. tt

pub returns-in_default-clause-sound : goal.returns-in_default-clause-sound
returns-in_default-clause-sound g c = λ _. tt

pub returns-in_default-clause-cause : goal.returns-in_default-clause-cause
returns-in_default-clause-cause g c = λ _. tt

pub returns-in_default-clause-refused : goal.returns-in_default-clause-refused
returns-in_default-clause-refused g c = λ _. inl (inr refl)

pub returns-in_default-clause-alone : goal.returns-in_default-clause-alone
returns-in_default-clause-alone g c = λ _. inl (inr refl)

pub returns-in_default-clause-honest : goal.returns-in_default-clause-honest
returns-in_default-clause-honest g c = (λ h. h, λ h. h)

pub returns-in_default-try_clone-clause-planner : goal.returns-in_default-try_clone-clause-planner
returns-in_default-try_clone-clause-planner g c = tt

pub returns-in_default-try_clone-clause-form : goal.returns-in_default-try_clone-clause-form
returns-in_default-try_clone-clause-form g c = tt

pub returns-in_default-try_clone-clause-ready : goal.returns-in_default-try_clone-clause-ready
returns-in_default-try_clone-clause-ready g c = tt

pub returns-in_default-try_clone-clause-stood : goal.returns-in_default-try_clone-clause-stood
returns-in_default-try_clone-clause-stood g c = λ _. tt

pub returns-in_default-try_clone-clause-sound : goal.returns-in_default-try_clone-clause-sound
returns-in_default-try_clone-clause-sound g c = λ _. tt

pub returns-in_default-try_clone-clause-cause : goal.returns-in_default-try_clone-clause-cause
returns-in_default-try_clone-clause-cause g c = λ _. tt

pub returns-in_default-try_clone-clause-refused : goal.returns-in_default-try_clone-clause-refused
returns-in_default-try_clone-clause-refused g c = λ _. inl (inr refl)

pub returns-in_default-try_clone-clause-alone : goal.returns-in_default-try_clone-clause-alone
returns-in_default-try_clone-clause-alone g c = λ _. inl (inr refl)

pub returns-in_default-try_clone-clause-honest : goal.returns-in_default-try_clone-clause-honest
returns-in_default-try_clone-clause-honest g c = (λ h. h, λ h. h)

pub returns-in-Err-clause-planner : goal.returns-in-Err-clause-planner
returns-in-Err-clause-planner g c = tt

pub returns-in-Err-clause-form : goal.returns-in-Err-clause-form
returns-in-Err-clause-form g c = tt

pub returns-in-Err-clause-ready : goal.returns-in-Err-clause-ready
returns-in-Err-clause-ready g c = tt

pub returns-in-Err-clause-stood : goal.returns-in-Err-clause-stood
returns-in-Err-clause-stood g c = λ _. tt

pub returns-in-Err-clause-sound : goal.returns-in-Err-clause-sound
returns-in-Err-clause-sound g c = λ _. tt

pub returns-in-Err-clause-honest : goal.returns-in-Err-clause-honest
returns-in-Err-clause-honest g c = c.in-Err.ensures.honest

pub returns-in-Ok-open_unshown-clause-cause : goal.returns-in-Ok-open_unshown-clause-cause
returns-in-Ok-open_unshown-clause-cause g c = λ _. tt

pub returns-in-Ok-open_unshown-clause-refused : goal.returns-in-Ok-open_unshown-clause-refused
returns-in-Ok-open_unshown-clause-refused g c = λ _. tt

pub returns-in-Ok-open_unshown-clause-alone : goal.returns-in-Ok-open_unshown-clause-alone
returns-in-Ok-open_unshown-clause-alone g c = λ _. tt

pub returns-in-Ok-open_unshown-clause-planner : goal.returns-in-Ok-open_unshown-clause-planner
returns-in-Ok-open_unshown-clause-planner g c =
    let names : arc_value c.in-Ok-try_clone.names ≡ c.args.basis.now.names = c.in-Ok-try_clone.ensures ∙ c.shared_names.ensures.value in
    over_basis (λ form. c.in-Ok-open_unshown.opened.0 ≡ record { form = form; names = c.args.basis.now.names }) c.args.basis.now c.args.rides c.in-Ok.network
    c.in-Ok.ensures
    (subst (λ n. c.in-Ok-open_unshown.opened.0 ≡ record { form = form_of c.in-Ok.network c.args.rides; names = n }) names c.in-Ok-open_unshown.ensures.planner)

pub returns-in-Ok-open_unshown-clause-form : goal.returns-in-Ok-open_unshown-clause-form
returns-in-Ok-open_unshown-clause-form g c =
    over_basis (λ form. c.in-Ok-open_unshown.opened.1.form ≡ form) c.args.basis.now c.args.rides c.in-Ok.network c.in-Ok.ensures c.in-Ok-open_unshown.ensures.form

pub returns-in-Ok-open_unshown-clause-ready : goal.returns-in-Ok-open_unshown-clause-ready
returns-in-Ok-open_unshown-clause-ready g c = c.in-Ok-open_unshown.ensures.ready

pub returns-in-Ok-open_unshown-clause-stood : goal.returns-in-Ok-open_unshown-clause-stood
returns-in-Ok-open_unshown-clause-stood g c = λ honest.
    over_basis (λ form. StandsForSources form c.in-Ok-open_unshown.opened.1.stored (g.D.Disk.state c.args.disk).read) c.args.basis.now c.args.rides
    c.in-Ok.network c.in-Ok.ensures
    (subst (λ (f : Form). StandsForSources f c.in-Ok-open_unshown.opened.1.stored (g.D.Disk.state c.args.disk).read) c.in-Ok-open_unshown.ensures.form
    (c.in-Ok-open_unshown.ensures.list honest))

pub returns-in-Ok-open_unshown-clause-sound : goal.returns-in-Ok-open_unshown-clause-sound
returns-in-Ok-open_unshown-clause-sound g c = c.in-Ok-open_unshown.ensures.sound

pub returns-in-Ok-open_unshown-clause-device : goal.returns-in-Ok-open_unshown-clause-device
returns-in-Ok-open_unshown-clause-device g c = c.in-Ok-open_unshown.ensures.device

pub returns-in-Ok-open_unshown-clause-honest : goal.returns-in-Ok-open_unshown-clause-honest
returns-in-Ok-open_unshown-clause-honest g c = c.in-Ok-open_unshown.ensures.honest

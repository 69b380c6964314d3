use Rattle.std.proofs.Common.{◌≡◌, ◌⊎◌, All, refl, inl, inr, ap, subst, sym, ◌∙◌}
use Rattle.section_store.specs.Sections.{form_of}
use Rattle.recovery.specs.Recovery.{CauseOf, IsLeftAlone, IsOutside, StandsForNoList}
use Rattle.store_faults.specs.declared.fault.RecoverFault.{RecoverFault}
use Rattle.recovery.specs.Opening.{IsOpening, StandsForSources}
use Rattle.std.specs.Arc.{arc_value}
use Rattle.board.specs.Ties.{BoardPart}
use Rattle.section_store.specs.Sections.{Form, Stands}
use Rattle.store_building.specs.Replies.{IsOpenedReader}
use Rattle.store_terms.specs.Stores.{form_over}
use Rattle.store_building.specs.Openings.{cause_of}
use Rattle.store_terms.proofs.OpeningFacts.{over_basis}
use Rattle.store_building.proofs.OpenedFacts.{alone_by, last_is, opened_reader, unopened_cause}
use Rattle.store_building.proofs.opening.open.Goals as goal

pub returns-in-Some-clause-moments : goal.returns-in-Some-clause-moments
returns-in-Some-clause-moments g c = λ honest.
    let old = g.D.Disk.state c.args.disk in
    let new = g.D.Disk.state c.in-Ok-open.opened.desk.disk in
    over_basis (λ form. IsOpening form old new) c.args.basis.now c.args.rides c.in-Ok.network c.in-Ok.ensures
    (c.in-Ok-open.ensures.moments honest)

pub returns-in-Some-clause-reader : goal.returns-in-Some-clause-reader
returns-in-Some-clause-reader g c = λ honest.
    let old = g.D.Disk.state c.args.disk in
    let e = c.in-Ok-open.ensures in
    over_basis (λ form. IsOpenedReader form old c.in-Some.reader) c.args.basis.now c.args.rides c.in-Ok.network c.in-Ok.ensures
    (opened_reader (form_of c.in-Ok.network c.args.rides) old c.in-Ok-open.opened.desk c.in-Ok-open.opened.readers.items c.pop.new.self.items
    c.in-Some.reader c.in-Some.ensures.items e.each e.form (e.list honest) e.opened (e.right honest))

pub returns-in-Err-clause-cause : goal.returns-in-Err-clause-cause
returns-in-Err-clause-cause g c = λ honest.
    let read = (g.D.Disk.state c.args.disk).read in
    let why = unopened_cause (form_of c.in-Ok.network c.args.rides) read c.in-Err.fault (c.in-Err.ensures.refused honest) in
    subst (λ (w : RecoverFault). CauseOf (form_over c.args.basis.now c.args.rides) read w) (sym c.cause.ensures)
    (over_basis (λ form. CauseOf form read (cause_of c.in-Err.fault)) c.args.basis.now c.args.rides c.in-Ok.network c.in-Ok.ensures why.0)

pub returns-in-Err-clause-refused : goal.returns-in-Err-clause-refused
returns-in-Err-clause-refused g c = λ honest.
    let read = (g.D.Disk.state c.args.disk).read in
    let why = unopened_cause (form_of c.in-Ok.network c.args.rides) read c.in-Err.fault (c.in-Err.ensures.refused honest) in
    subst (λ (w : RecoverFault). IsOutside w ⊎ StandsForNoList (form_over c.args.basis.now c.args.rides) read) (sym c.cause.ensures)
    (over_basis (λ form. IsOutside (cause_of c.in-Err.fault) ⊎ StandsForNoList form read) c.args.basis.now c.args.rides c.in-Ok.network
    c.in-Ok.ensures why.1)

pub returns-in-Err-clause-alone : goal.returns-in-Err-clause-alone
returns-in-Err-clause-alone g c = λ honest.
    let old = g.D.Disk.state c.args.disk in
    let new = g.D.Disk.state c.in-Err.disk in
    subst (λ (w : RecoverFault). IsOutside w ⊎ IsLeftAlone old new) (sym c.cause.ensures)
    (alone_by c.in-Err.fault old new (c.in-Err.ensures.alone honest))

pub returns-in-Err-clause-moments : goal.returns-in-Err-clause-moments
returns-in-Err-clause-moments g c = λ honest.
    let old = g.D.Disk.state c.args.disk in
    let new = g.D.Disk.state c.in-Err.disk in
    over_basis (λ form. IsOpening form old new) c.args.basis.now c.args.rides c.in-Ok.network c.in-Ok.ensures
    (c.in-Err.ensures.moments honest)

pub returns-in_default-clause-planner : goal.returns-in_default-clause-planner
returns-in_default-clause-planner g c = tt

pub returns-in_default-clause-board : goal.returns-in_default-clause-board
returns-in_default-clause-board g c = tt

pub returns-in_default-clause-reader : goal.returns-in_default-clause-reader
returns-in_default-clause-reader g c = λ _. tt

pub returns-in_default-clause-form : goal.returns-in_default-clause-form
returns-in_default-clause-form g c = tt

pub returns-in_default-clause-ready : goal.returns-in_default-clause-ready
returns-in_default-clause-ready g c = tt

pub returns-in_default-clause-stood : goal.returns-in_default-clause-stood
returns-in_default-clause-stood g c = λ _. tt

pub returns-in_default-clause-sound : goal.returns-in_default-clause-sound
returns-in_default-clause-sound g c = λ _. tt

pub returns-in_default-clause-cause : goal.returns-in_default-clause-cause
returns-in_default-clause-cause g c = λ _. tt

pub returns-in_default-clause-refused : goal.returns-in_default-clause-refused
returns-in_default-clause-refused g c = λ _. inl (inr refl)

pub returns-in_default-clause-alone : goal.returns-in_default-clause-alone
returns-in_default-clause-alone g c = λ _. inl (inr refl)

pub returns-in_default-clause-honest : goal.returns-in_default-clause-honest
returns-in_default-clause-honest g c = (λ h. h, λ h. h)

pub returns-in_default-try_clone-clause-planner : goal.returns-in_default-try_clone-clause-planner
returns-in_default-try_clone-clause-planner g c = tt

pub returns-in_default-try_clone-clause-board : goal.returns-in_default-try_clone-clause-board
returns-in_default-try_clone-clause-board g c = tt

pub returns-in_default-try_clone-clause-reader : goal.returns-in_default-try_clone-clause-reader
returns-in_default-try_clone-clause-reader g c = λ _. tt

pub returns-in_default-try_clone-clause-form : goal.returns-in_default-try_clone-clause-form
returns-in_default-try_clone-clause-form g c = tt

pub returns-in_default-try_clone-clause-ready : goal.returns-in_default-try_clone-clause-ready
returns-in_default-try_clone-clause-ready g c = tt

pub returns-in_default-try_clone-clause-stood : goal.returns-in_default-try_clone-clause-stood
returns-in_default-try_clone-clause-stood g c = λ _. tt

pub returns-in_default-try_clone-clause-sound : goal.returns-in_default-try_clone-clause-sound
returns-in_default-try_clone-clause-sound g c = λ _. tt

pub returns-in_default-try_clone-clause-cause : goal.returns-in_default-try_clone-clause-cause
returns-in_default-try_clone-clause-cause g c = λ _. tt

pub returns-in_default-try_clone-clause-refused : goal.returns-in_default-try_clone-clause-refused
returns-in_default-try_clone-clause-refused g c = λ _. inl (inr refl)

pub returns-in_default-try_clone-clause-alone : goal.returns-in_default-try_clone-clause-alone
returns-in_default-try_clone-clause-alone g c = λ _. inl (inr refl)

pub returns-in_default-try_clone-clause-honest : goal.returns-in_default-try_clone-clause-honest
returns-in_default-try_clone-clause-honest g c = (λ h. h, λ h. h)

pub returns-in-Err-clause-planner : goal.returns-in-Err-clause-planner
returns-in-Err-clause-planner g c = tt

pub returns-in-Err-clause-board : goal.returns-in-Err-clause-board
returns-in-Err-clause-board g c = tt

pub returns-in-Err-clause-reader : goal.returns-in-Err-clause-reader
returns-in-Err-clause-reader g c = λ _. tt

pub returns-in-Err-clause-form : goal.returns-in-Err-clause-form
returns-in-Err-clause-form g c = tt

pub returns-in-Err-clause-ready : goal.returns-in-Err-clause-ready
returns-in-Err-clause-ready g c = tt

pub returns-in-Err-clause-stood : goal.returns-in-Err-clause-stood
returns-in-Err-clause-stood g c = λ _. tt

pub returns-in-Err-clause-sound : goal.returns-in-Err-clause-sound
returns-in-Err-clause-sound g c = λ _. tt

pub returns-in-Err-clause-honest : goal.returns-in-Err-clause-honest
returns-in-Err-clause-honest g c = c.in-Err.ensures.honest

pub returns-in-None-clause-planner : goal.returns-in-None-clause-planner
returns-in-None-clause-planner g c = tt

pub returns-in-None-clause-board : goal.returns-in-None-clause-board
returns-in-None-clause-board g c = tt

pub returns-in-None-clause-reader : goal.returns-in-None-clause-reader
returns-in-None-clause-reader g c = λ _. tt

pub returns-in-None-clause-form : goal.returns-in-None-clause-form
returns-in-None-clause-form g c = tt

pub returns-in-None-clause-ready : goal.returns-in-None-clause-ready
returns-in-None-clause-ready g c = tt

pub returns-in-None-clause-stood : goal.returns-in-None-clause-stood
returns-in-None-clause-stood g c = λ _. tt

pub returns-in-None-clause-sound : goal.returns-in-None-clause-sound
returns-in-None-clause-sound g c = λ _. tt

pub returns-in-None-clause-cause : goal.returns-in-None-clause-cause
returns-in-None-clause-cause g c = λ _. tt

pub returns-in-None-clause-refused : goal.returns-in-None-clause-refused
returns-in-None-clause-refused g c = λ _. inl (inr refl)

pub returns-in-None-clause-alone : goal.returns-in-None-clause-alone
returns-in-None-clause-alone g c = λ _. inl (inr refl)

pub returns-in-Some-clause-cause : goal.returns-in-Some-clause-cause
returns-in-Some-clause-cause g c = λ _. tt

pub returns-in-Some-clause-refused : goal.returns-in-Some-clause-refused
returns-in-Some-clause-refused g c = λ _. tt

pub returns-in-Some-clause-alone : goal.returns-in-Some-clause-alone
returns-in-Some-clause-alone g c = λ _. tt

pub returns-in-Some-clause-planner : goal.returns-in-Some-clause-planner
returns-in-Some-clause-planner g c =
    let names : arc_value c.in-Ok-try_clone.names ≡ c.args.basis.now.names = c.in-Ok-try_clone.ensures ∙ c.shared_names.ensures.value in
    over_basis (λ form. c.in-Ok-open.opened.planner ≡ record { form = form; names = c.args.basis.now.names }) c.args.basis.now c.args.rides c.in-Ok.network
    c.in-Ok.ensures
    (subst (λ n. c.in-Ok-open.opened.planner ≡ record { form = form_of c.in-Ok.network c.args.rides; names = n }) names c.in-Ok-open.ensures.planner)

pub returns-in-Some-clause-board : goal.returns-in-Some-clause-board
returns-in-Some-clause-board g c =
    let e = c.in-Ok-open.ensures in
    let board = c.in-Ok-open.opened.desk.board in
    let Reads : BoardPart → Type 0 = λ r. r ≡ record { origin = board.origin; told = board.told } in
    over_basis (λ form. c.in-Some.reader.origin.form ≡ form) c.args.basis.now c.args.rides c.in-Ok.network c.in-Ok.ensures
    (ap (λ (r : BoardPart). r.origin.form) (last_is Reads c.pop.new.self.items c.in-Some.reader (subst (λ l. All Reads l) c.in-Some.ensures.items e.each)) ∙ e.own)

pub returns-in-Some-clause-form : goal.returns-in-Some-clause-form
returns-in-Some-clause-form g c =
    over_basis (λ form. c.in-Ok-open.opened.desk.form ≡ form) c.args.basis.now c.args.rides c.in-Ok.network c.in-Ok.ensures c.in-Ok-open.ensures.form

pub returns-in-Some-clause-ready : goal.returns-in-Some-clause-ready
returns-in-Some-clause-ready g c = c.in-Ok-open.ensures.ready

pub returns-in-Some-clause-stood : goal.returns-in-Some-clause-stood
returns-in-Some-clause-stood g c = λ honest.
    let held = c.in-Ok-open.ensures.list honest in
    over_basis (λ form. StandsForSources form c.in-Ok-open.opened.desk.stored (g.D.Disk.state c.args.disk).read) c.args.basis.now c.args.rides c.in-Ok.network
    c.in-Ok.ensures
    (held.trees, subst (λ (f : Form). Stands f (g.D.Disk.state c.args.disk).read held.trees) c.in-Ok-open.ensures.form held.stands, held.stored)

pub returns-in-Some-clause-sound : goal.returns-in-Some-clause-sound
returns-in-Some-clause-sound g c = c.in-Ok-open.ensures.sound

pub returns-in-Some-clause-device : goal.returns-in-Some-clause-device
returns-in-Some-clause-device g c = c.in-Ok-open.ensures.device

pub returns-in-Some-clause-honest : goal.returns-in-Some-clause-honest
returns-in-Some-clause-honest g c = c.in-Ok-open.ensures.honest

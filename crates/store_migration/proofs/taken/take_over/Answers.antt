use Rattle.std.proofs.Common.{length, sym, ap, subst}
use Rattle.std.specs.Arc.{arc_value}
use Rattle.section_store.specs.Sections.{form_of, old_form_of}
use Rattle.section_store.specs.Store.{Holds}
use Rattle.migration.specs.Migration.{Migrates}
use Rattle.store_migration.proofs.TakenFacts.{taken, untaken}
use Rattle.store_migration.proofs.taken.take_over.Goals as goal

pub returns-in-Ok-clause-taken : goal.returns-in-Ok-clause-taken
returns-in-Ok-clause-taken g c = λ honest_old honest_new.
    let table = arc_value c.shared.result.now in
    let k = c.args.rides in
    let form = form_of table k in
    let old = g.D.Disk.state c.args.old in
    let target = g.E.Disk.state c.args.new in
    let state = g.E.Disk.state in
    let store = c.in-Ok.migrated.store in
    let done = c.in-Ok.ensures.done honest_old honest_new in
    taken c.args.basis.now k table c.shared.ensures old (g.D.Disk.state c.in-Ok.migrated.source) target (state c.into_disk.result)
    done.0 store.place store.stored (length c.stored-count.result.now) done.1
    (subst (λ d. Migrates (old_form_of table k) form old target (state d) done.0) (sym c.into_disk.ensures) done.2)
    (subst (λ d. Holds form done.0 store.place store.stored (state d)) (sym c.into_disk.ensures) done.3)
    (ap length c.stored-count.ensures)

pub returns-in-Err-clause-taken : goal.returns-in-Err-clause-taken
returns-in-Err-clause-taken g c = λ honest_old honest_new.
    untaken c.args.basis.now c.args.rides (arc_value c.shared.result.now) c.shared.ensures (g.D.Disk.state c.args.old) (g.D.Disk.state c.in-Err.old)
    (g.E.Disk.state c.args.new) (g.E.Disk.state c.in-Err.new) c.in-Err.fault c.of_migration.result
    (c.in-Err.ensures.stopped honest_old honest_new) c.of_migration.ensures

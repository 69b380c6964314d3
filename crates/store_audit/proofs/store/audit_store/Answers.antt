use Rattle.std.proofs.Common.{◌⊎◌, ◌++◌, [], List, ap, subst, sym}
use Rattle.std.specs.Global.{Vec}
use Rattle.std.specs.List.{AllZip}
use Rattle.timetable.specs.Table.{Table}
use Rattle.recovery.specs.Giving.{IsGiven}
use Rattle.recovery.specs.Recovery.{IsOutside, StandsForNoList}
use Rattle.section_store.specs.Sections.{Form, form_of}
use Rattle.store_audit.specs.Hands.{HoldsMore, IsHeldTree, joined, waiting_in}
use Rattle.store_audit.specs.declared.due.Due.{Due}
use Rattle.store_audit.specs.declared.waiting.Waiting.{Waiting}
use Rattle.store_audit.proofs.HandFacts.{all_held, all_known, are_audits}
use Rattle.store_audit.proofs.store.audit_store.Goals.{in-Ok-audits_of, in-Err-audits_of}
use Rattle.store_audit.proofs.store.audit_store.Goals as goal

pub returns-after-audits_of-clause-audited : goal.returns-after-audits_of-clause-audited
returns-after-audits_of-clause-audited g c = λ honest.
    let k = c.args.crew.now.rides in
    let form = form_of c.args.crew.now.network.now k in
    let state = g.D.Disk.state in
    let store = c.in-Ok.store in
    let old : Waiting = record { alloc = c.args.crew.now.alloc; size = c.batch.result; whole = c.new.result; last = c.new-2.result } in
    let new = c.recover_to.new.keeper in
    let given = subst (λ (f : Form). IsGiven f (g.D.Disk.honest c.args.disk) (state c.args.disk) HoldsMore old new store.place store.stored (state store.disk))
    (ap (λ (t : Table). form_of t k) c.shared-table.ensures) c.in-Ok.ensures.given in
    let bare : AllZip IsHeldTree [] (waiting_in c.new.result.items c.new-2.result.items) =
    subst (λ (l : List (Vec Due)). AllZip IsHeldTree [] (joined l ++ c.new-2.result.items)) (sym c.new.ensures.items)
    (subst (λ (l : List Due). AllZip IsHeldTree [] l) (sym c.new-2.ensures.items) tt) in
    let held = all_held old new [] given.trees given.given bare in
    elim c.match-audits_of.branch [
      | in-Ok-audits_of w ↦ rw w.audits-is (are_audits form (state c.args.disk).read given.trees w.in-Ok-audits_of.audits.items (given.stands honest)
          given.known (w.in-Ok-audits_of.ensures given.trees held))
      | in-Err-audits_of w ↦ rw w.audits-is tt
    ]

pub returns-after-audits_of-clause-known : goal.returns-after-audits_of-clause-known
returns-after-audits_of-clause-known g c =
    let k = c.args.crew.now.rides in
    let form = form_of c.args.crew.now.network.now k in
    let state = g.D.Disk.state in
    let store = c.in-Ok.store in
    let old : Waiting = record { alloc = c.args.crew.now.alloc; size = c.batch.result; whole = c.new.result; last = c.new-2.result } in
    let new = c.recover_to.new.keeper in
    let given = subst (λ (f : Form). IsGiven f (g.D.Disk.honest c.args.disk) (state c.args.disk) HoldsMore old new store.place store.stored (state store.disk))
    (ap (λ (t : Table). form_of t k) c.shared-table.ensures) c.in-Ok.ensures.given in
    let bare : AllZip IsHeldTree [] (waiting_in c.new.result.items c.new-2.result.items) =
    subst (λ (l : List (Vec Due)). AllZip IsHeldTree [] (joined l ++ c.new-2.result.items)) (sym c.new.ensures.items)
    (subst (λ (l : List Due). AllZip IsHeldTree [] l) (sym c.new-2.ensures.items) tt) in
    let held = all_held old new [] given.trees given.given bare in
    elim c.match-audits_of.branch [
      | in-Ok-audits_of w ↦ rw w.audits-is (all_known form given.trees w.in-Ok-audits_of.audits.items given.known
          (w.in-Ok-audits_of.ensures given.trees held))
      | in-Err-audits_of w ↦ rw w.audits-is tt
    ]

pub returns-in-Err-clause-refused : goal.returns-in-Err-clause-refused
returns-in-Err-clause-refused g c = λ honest.
    let k = c.args.crew.now.rides in
    subst (λ (f : Form). IsOutside c.in-Err.fault ⊎ StandsForNoList f (g.D.Disk.state c.args.disk).read)
    (ap (λ (t : Table). form_of t k) c.shared-table.ensures) (c.in-Err.ensures.refused honest)

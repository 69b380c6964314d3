use Rattle.std.proofs.Common.{◌≡◌, refl, subst, sym}
use Rattle.std.specs.Arc.{arc_value}
use Rattle.disk_model.specs.Image.{Image, IsOutcome, settled_image}
use Rattle.disk_model.specs.MemDisk.{state_of}
use Rattle.section_store.specs.Lasting.{IsTrusted, IsTrustedFile, StaysTrusted}
use Rattle.section_store.specs.Sections.{form_of}
use Rattle.planner_tests.proofs.tests.fresh.cut_off.Goals as goal

pub returns-in-Ok : goal.returns-in-Ok
returns-in-Ok c = λ bytes left.
    let form = form_of (arc_value c.args.table.now) 3 in
    let old = state_of c.stop_at.new.self in
    let cut = state_of c.in-Err-Device-default.disk in
    let new = state_of c.in-Ok.disk in
    let before : IsTrusted form old = rw c.stop_at.ensures.state (c.in_ok-disk.ensures.trusted form) in
    let stays : StaysTrusted form old cut = rw c.new.ensures at (c.in-Err-Device-default.ensures.opening tt).trusts in
    let trusted : IsTrusted form cut = c.trust_lasts.ensures form old cut before stays in
    let settled : new.now ≡ settled_image new.read = rw c.in-Ok.ensures.crashed.1 refl in
    let read : bytes ≡ new.read = (c.leaves_the_reads.ensures new.read).1 bytes (subst (λ (image : Image). IsOutcome image bytes) settled left) in
    subst (IsTrustedFile form) (sym read) (trusted new.read c.in-Ok.ensures.outcome)

use Rattle.std.proofs.Common.{◌≡◌, ◌∙◌, ap, subst, sym}
use Rattle.disk_model.specs.Disk.{State}
use Rattle.disk_model.specs.Image.{settled_image}
use Rattle.disk_model.specs.MemDisk.{state_of}
use Rattle.section_store.specs.Sections.{Form}
use Rattle.planner_core.specs.Safety.{IsSafeDisk}
use Rattle.planner_core.proofs.Files.{crash_safe}
use Rattle.planner_core.proofs.phase.crash.Goals as goal

pub returns-in-Ok-clause-sound : goal.returns-in-Ok-clause-sound
returns-in-Ok-clause-sound c = λ basis sound.
    let a = c.args.running.archive in
    let parts = c.into_parts-disk in
    let storing = parts.result.1.items in
    let acknowledged = parts.result.2.items in
    let old = state_of parts.result.0 in
    let new = state_of c.in-Ok.disk in
    let before : IsSafeDisk basis.form a.storing a.acknowledged a.disk = subst (λ (f : Form). IsSafeDisk f a.storing a.acknowledged a.disk) sound.form c.is_safe.ensures in
    let safe : IsSafeDisk basis.form storing acknowledged old = rw (parts.ensures.storing, parts.ensures.acknowledged, parts.ensures.disk) before in
    let crashed = c.in-Ok.ensures.crashed.1 in
    let durable : new.now ≡ settled_image new.read = ap (λ (s : State). s.now) crashed ∙ ap settled_image (sym (ap (λ (s : State). s.read) crashed)) in
    crash_safe basis.form storing acknowledged new.read old new safe c.in-Ok.ensures.outcome durable

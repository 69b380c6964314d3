use Rattle.std.proofs.Common.{ap, ◌∙◌}
use Rattle.disk_model.specs.Disk.{State}
use Rattle.disk_model.specs.Memory.{state_after}
use Rattle.disk_model.proofs.Replayed.{state_after-nil}
use Rattle.disk_model.proofs.Sound.{state_after_sound}
use Rattle.disk_model.proofs.memory.MemDisk.new.Goals as goal

pub invariant_of-result-clause-reads : goal.invariant_of-result-clause-reads
invariant_of-result-clause-reads c =
    let is = ap state_after c.new-2.ensures.items ∙ state_after-nil in
    let read_is = ap (λ (s : State). s.read) is in
    cc

pub invariant_of-result-clause-leaves : goal.invariant_of-result-clause-leaves
invariant_of-result-clause-leaves c =
    let is = ap state_after c.new-2.ensures.items ∙ state_after-nil in
    let now_is = ap (λ (s : State). s.now) is in
    cc

pub invariant_of-result-clause-sound : goal.invariant_of-result-clause-sound
invariant_of-result-clause-sound c = state_after_sound c.new-2.result.items

pub returns-clause-state : goal.returns-clause-state
returns-clause-state c = ap state_after c.new-2.ensures.items ∙ state_after-nil

use Rattle.std.proofs.Common.{rules, ap, ◌∙◌}
use Rattle.disk_model.specs.Image.{settled_image}
use Rattle.disk_model.proofs.Replayed.{synced, reads_on, leaves_on}
use Rattle.disk_model.proofs.Sound.{state_after_sound}
use Rattle.disk_model.proofs.memory.MemDisk.settle.Goals as goal

pub invariant_of-self-2-clause-reads : goal.invariant_of-self-2-clause-reads
invariant_of-self-2-clause-reads c =
    reads_on c.args.self.now.calls.items c.push.new.self.items _ _
    (synced c.args.self.now.calls.items c.push.new.self.items (search rules))
    c.args.self.now.reads

pub invariant_of-self-2-clause-leaves : goal.invariant_of-self-2-clause-leaves
invariant_of-self-2-clause-leaves c =
    leaves_on c.args.self.now.calls.items c.push.new.self.items _ _
    (synced c.args.self.now.calls.items c.push.new.self.items (search rules))
    (c.in_ok-image.ensures ∙ ap settled_image (c.deref.ensures.value ∙ c.args.self.now.reads))

pub invariant_of-self-2-clause-sound : goal.invariant_of-self-2-clause-sound
invariant_of-self-2-clause-sound c = state_after_sound c.push.new.self.items

pub returns-clause-ok : goal.returns-clause-ok
returns-clause-ok c = synced c.args.self.now.calls.items c.push.new.self.items (search rules)

use Rattle.std.proofs.Common.{rules, refl, ap, ◌∙◌}
use Rattle.disk_model.specs.Image.{settled_image}
use Rattle.disk_model.proofs.Replayed.{crashed, reads_on, leaves_on}
use Rattle.disk_model.proofs.Sound.{state_after_sound}
use Rattle.disk_model.proofs.memory.MemDisk.restart.Goals as goal

pub invariant_of-self-2-clause-reads : goal.invariant_of-self-2-clause-reads
invariant_of-self-2-clause-reads c =
    reads_on c.args.self.now.calls.items c.push.new.self.items _ _
    (crashed c.args.self.now.calls.items c.push.new.self.items c.in_ok-kept.kept c.args.bytes.items (search rules) (search rules))
    refl

pub invariant_of-self-2-clause-leaves : goal.invariant_of-self-2-clause-leaves
invariant_of-self-2-clause-leaves c =
    leaves_on c.args.self.now.calls.items c.push.new.self.items _ _
    (crashed c.args.self.now.calls.items c.push.new.self.items c.in_ok-kept.kept c.args.bytes.items (search rules) (search rules))
    (c.in_ok-image.ensures ∙ ap settled_image c.deref.ensures.value)

pub invariant_of-self-2-clause-sound : goal.invariant_of-self-2-clause-sound
invariant_of-self-2-clause-sound c = state_after_sound c.push.new.self.items

pub returns-clause-ok : goal.returns-clause-ok
returns-clause-ok c = crashed c.args.self.now.calls.items c.push.new.self.items c.in_ok-kept.kept c.args.bytes.items (search rules) (search rules)

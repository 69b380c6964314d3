use Rattle.std.proofs.Common.{rules, ap, length, ◌∙◌}
use Rattle.disk_model.specs.Image.{with_write}
use Rattle.disk_model.proofs.Replayed.{torn_write, reads_on, leaves_on}
use Rattle.disk_model.proofs.Sound.{state_after_sound}
use Rattle.disk_model.proofs.memory.MemDisk.tear_write.Goals as goal

pub invariant_of-self-2-clause-reads : goal.invariant_of-self-2-clause-reads
invariant_of-self-2-clause-reads c =
    reads_on c.args.self.now.calls.items c.push.new.self.items _ _
    (torn_write c.args.self.now.calls.items c.push.new.self.items c.args.pos c.in_ok-kept.kept c.args.bytes.now (search rules) (search rules))
    c.args.self.now.reads

pub invariant_of-self-2-clause-leaves : goal.invariant_of-self-2-clause-leaves
invariant_of-self-2-clause-leaves c =
    leaves_on c.args.self.now.calls.items c.push.new.self.items _ _
    (torn_write c.args.self.now.calls.items c.push.new.self.items c.args.pos c.in_ok-kept.kept c.args.bytes.now (search rules) (search rules))
    (c.note_write.ensures ∙ ap (with_write c.args.pos (length c.args.bytes.now)) (c.make_room.ensures.same ∙ c.args.self.now.leaves))

pub invariant_of-self-2-clause-sound : goal.invariant_of-self-2-clause-sound
invariant_of-self-2-clause-sound c = state_after_sound c.push.new.self.items

pub returns-clause-ok : goal.returns-clause-ok
returns-clause-ok c = torn_write c.args.self.now.calls.items c.push.new.self.items c.args.pos c.in_ok-kept.kept c.args.bytes.now (search rules) (search rules)

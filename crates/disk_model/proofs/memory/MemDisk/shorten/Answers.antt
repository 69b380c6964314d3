use Rattle.std.proofs.Common.{rules, ap, take, ◌∙◌}
use Rattle.disk_model.specs.Image.{with_cut}
use Rattle.disk_model.proofs.Replayed.{cut, reads_on, leaves_on}
use Rattle.disk_model.proofs.Sound.{state_after_sound}
use Rattle.disk_model.proofs.memory.MemDisk.shorten.Goals as goal

pub invariant_of-self-2-clause-reads : goal.invariant_of-self-2-clause-reads
invariant_of-self-2-clause-reads c =
    reads_on c.args.self.now.calls.items c.push.new.self.items _ _
    (cut c.args.self.now.calls.items c.push.new.self.items c.args.len (search rules))
    (c.truncate.ensures.items ∙ ap (take c.args.len) c.args.self.now.reads)

pub invariant_of-self-2-clause-leaves : goal.invariant_of-self-2-clause-leaves
invariant_of-self-2-clause-leaves c =
    leaves_on c.args.self.now.calls.items c.push.new.self.items _ _
    (cut c.args.self.now.calls.items c.push.new.self.items c.args.len (search rules))
    (c.note_cut.ensures ∙ ap (with_cut c.args.len) c.args.self.now.leaves)

pub invariant_of-self-2-clause-sound : goal.invariant_of-self-2-clause-sound
invariant_of-self-2-clause-sound c = state_after_sound c.push.new.self.items

pub returns-clause-ok : goal.returns-clause-ok
returns-clause-ok c = cut c.args.self.now.calls.items c.push.new.self.items c.args.len (search rules)

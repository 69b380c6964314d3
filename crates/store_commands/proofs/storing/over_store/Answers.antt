use Rattle.std.proofs.Common.{◌≡◌, ◌∙◌, ◌&&◌, Bool, sym, subst, inr}
use Rattle.store_files.specs.Files.{IsNoticed}
use Rattle.command_line.specs.Jobs.{only_reads}
use Rattle.store_files.specs.Disks.{disks_of}
use Rattle.store_commands.proofs.TaskFacts.{over_disk}
use Rattle.store_commands.proofs.storing.over_store.Goals.{then-reads, else-reads}
use Rattle.store_commands.proofs.storing.over_store.Goals as goal

pub returns-after-reads : goal.returns-after-reads
returns-after-reads g c =
    let v = disks_of (g.D.Disks.opens c.args.on.now.disks.now) g.D.Store.Disk.honest g.D.Store.Disk.state g.D.Store.Disk.failures in
    let is_new = c.in-Ok.ready.is_new in
    let reads = only_reads c.args.task.now in
    let says : c.if-reads.say_new ≡ reads && is_new = elim c.if-reads.branch [
      | then-reads w ↦ subst (λ (b : Bool). c.if-reads.say_new ≡ b && is_new) (sym (sym c.only_reads-reads.ensures ∙ w.if-reads.true)) w.say_new-is
      | else-reads w ↦ subst (λ (b : Bool). c.if-reads.say_new ≡ b && is_new) (sym (sym c.only_reads-reads.ensures ∙ w.if-reads.false))
          (w.say_new-is ∙ w.if-reads.false)
    ] in
    inr (over_disk v c.args.style c.args.file.now.basis.now c.args.file.now.rides c.args.file.now.path.now c.args.task.now c.in-Ok.ready.disk c.on_disk-found.result.1 is_new
    c.on_disk-found.result.0 c.args.err.now c.say_new.new.err c.in-Ok.ensures.ready c.on_disk-found.ensures.honest c.on_disk-found.ensures.found
    c.on_disk-found.ensures.device (subst (λ (b : Bool). IsNoticed c.args.file.now.path.now b c.args.err.now c.say_new.new.err) says c.say_new.ensures))

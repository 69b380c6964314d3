use Rattle.std.proofs.Common.{ℕ, subst, sym}
use Rattle.command_line.specs.declared.job.Search.{Search}
use Rattle.commands.specs.Left.{IsSearchDone}
use Rattle.printing.specs.Faults.{voice_of}
use Rattle.printing.specs.Finished.{streams_of}
use Rattle.printing.specs.declared.fault.Voice.{Voice}
use Rattle.store_commands.specs.Served.{IsServed}
use Rattle.store_commands.specs.Stores.{IsTaskRun}
use Rattle.store_files.specs.Disks.{disks_of}
use Rattle.whole_program.specs.Stores.{over_stores}
use Rattle.whole_program.proofs.stored.run_stored.Goals as goal

pub returns-in-Stored : goal.returns-in-Stored
returns-in-Stored g c =
    let v = disks_of (g.D.Disks.opens c.args.on.now.disks.now) g.D.Store.Disk.honest g.D.Store.Disk.state g.D.Store.Disk.failures in
    let t = g.S.Teller.Teller.telling in
    let plan = c.args.plan.now in
    let basis = c.args.basis.now in
    let ended = c.run_task.result in
    let old = streams_of c.args.streams.out c.args.streams.err in
    let new = streams_of ended.streams.out ended.streams.err in
    let path = c.in-Stored.store.now in
    let done = subst (λ (k : ℕ). IsTaskRun v t plan basis k path c.in-Stored.task old new ended.status ended.store)
    c.new-rides.ensures c.run_task.ensures in
    rw c.in-Find.is (subst (λ (s : Search). IsSearchDone (over_stores v t) plan basis s old new ended.status ended.store)
    (sym c.in-Stored.is) done)

pub returns-in-Serve : goal.returns-in-Serve
returns-in-Serve g c =
    let v = disks_of (g.D.Disks.opens c.args.on.now.disks.now) g.D.Store.Disk.honest g.D.Store.Disk.state g.D.Store.Disk.failures in
    let t = g.S.Teller.Teller.telling in
    let plan = c.args.plan.now in
    let basis = c.args.basis.now in
    let input = g.I.Read.remaining c.args.input.now in
    let path = c.in-Serve.store.now in
    let ended = c.run_serve.result in
    let old = streams_of c.args.streams.out c.args.streams.err in
    let new = streams_of ended.streams.out ended.streams.err in
    let voiced = subst (λ (voice : Voice). IsServed v t input plan.style voice basis c.new-rides.result path old new ended.status ended.store)
    c.voice_of.ensures c.run_serve.ensures in
    rw c.in-Serve.is (subst (λ (k : ℕ). IsServed v t input plan.style (voice_of plan) basis k path old new ended.status ended.store)
    c.new-rides.ensures voiced)

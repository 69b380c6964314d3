use Rattle.std.proofs.Common.{Option, None, map, subst}
use Rattle.command_line.specs.Programs.{IsRead}
use Rattle.commands.specs.Left.{all_left}
use Rattle.commands.specs.Programs.{IsReadRun}
use Rattle.commands.proofs.LeftFacts.{program_run, read_done, read_ended}
use Rattle.feed_basis.specs.Basis.{BasisData}
use Rattle.printing.specs.Finished.{streams_of}
use Rattle.program_system.specs.World.{view_of}
use Rattle.store_files.specs.Disks.{disks_of}
use Rattle.whole_program.specs.Stores.{over_stores}
use Rattle.whole_program.proofs.program.run_words.Goals as goal

pub returns-in-Some : goal.returns-in-Some
returns-in-Some g c =
    let t = g.S.Teller.Teller.telling in
    let v = view_of (g.S.System.world c.args.system.now) t in
    let stored = over_stores (disks_of (g.D.Disks.opens c.args.disks.now) g.D.Store.Disk.honest g.D.Store.Disk.state g.D.Store.Disk.failures) t in
    let input = g.I.Read.remaining c.args.input.now in
    let words = map (λ word. word.now) c.args.words.now in
    let read = c.read_words-read.result in
    let is : IsRead words read =
    c.read_words-read.ensures words (record { rows = c.matches_of-matched.ensures.rows; faults = c.matches_of-matched.ensures.faults }) in
    let so_far = c.run_read-status.result in
    let ended = c.run_left.result in
    let old = streams_of c.args.streams.out c.args.streams.err in
    let mid = streams_of so_far.streams.out so_far.streams.err in
    let new = streams_of ended.streams.out ended.streams.err in
    let run = subst (λ (left : Option BasisData). IsReadRun v all_left None read old mid so_far.status left) c.in-Some.is c.run_read-status.ensures.run in
    program_run v stored input words read old new ended.status ended.store is
    (read_done v stored input c.in-Some.basis mid new so_far.status ended.status ended.store read old run c.run_left.ensures)

pub returns : goal.returns
returns g c =
    let t = g.S.Teller.Teller.telling in
    let v = view_of (g.S.System.world c.args.system.now) t in
    let stored = over_stores (disks_of (g.D.Disks.opens c.args.disks.now) g.D.Store.Disk.honest g.D.Store.Disk.state g.D.Store.Disk.failures) t in
    let input = g.I.Read.remaining c.args.input.now in
    let words = map (λ word. word.now) c.args.words.now in
    let read = c.read_words-read.result in
    let is : IsRead words read =
    c.read_words-read.ensures words (record { rows = c.matches_of-matched.ensures.rows; faults = c.matches_of-matched.ensures.faults }) in
    let so_far = c.run_read-status.result in
    let old = streams_of c.args.streams.out c.args.streams.err in
    let mid = streams_of so_far.streams.out so_far.streams.err in
    let run = subst (λ (left : Option BasisData). IsReadRun v all_left None read old mid so_far.status left) c.in-None.is c.run_read-status.ensures.run in
    program_run v stored input words read old mid so_far.status None is (read_ended v stored input read old mid so_far.status run)

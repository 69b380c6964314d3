use Rattle.std.proofs.Common.{Bool, subst, inr}
use Rattle.printing.specs.Finished.{streams_of}
use Rattle.store_commands.specs.Served.{IsServingSaid, dialogue_of}
use Rattle.store_files.specs.Disks.{disks_of}
use Rattle.store_commands.proofs.ServedFacts.{served_over}
use Rattle.store_commands.proofs.replying.serve_by.Goals as goal

pub returns-in-Ok : goal.returns-in-Ok
returns-in-Ok g c =
    let t = g.S.Teller.Teller.telling in
    let v = disks_of (g.D.Disks.opens c.args.on.now.disks.now) g.D.Store.Disk.honest g.D.Store.Disk.state g.D.Store.Disk.failures in
    let site = c.args.site.now in
    let basis = site.file.basis.now in
    let voice = c.args.voice.now in
    let served = c.serve-served.result.0 in
    let out = c.serve-served.result.2 in
    let err = c.tell_serving-status.new.err in
    let status = c.tell_serving-status.result in
    let dialogue = dialogue_of (λ question reply text. g.R.ReplyTeller.tells c.args.replies.now basis question reply text)
    (g.R.ReplyTeller.tells_legs c.args.replies.now) (g.I.Read.remaining c.args.input.now) in
    inr (served_over v t basis site.file.rides site.file.path.now voice dialogue c.in-Ok.ready.disk c.serve-served.result.1 c.in-Ok.ready.is_new
    (streams_of c.args.streams.out c.args.streams.err) (streams_of out err) status c.say_new.new.err served c.in-Ok.ensures.ready
    c.serve-served.ensures.honest c.say_new.ensures c.serve-served.ensures.served c.serve-served.ensures.kept c.serve-served.ensures.device
    (subst (λ (refused : Bool). IsServingSaid t voice served refused c.say_new.new.err err status) c.has_refused-refused.ensures
    c.tell_serving-status.ensures))

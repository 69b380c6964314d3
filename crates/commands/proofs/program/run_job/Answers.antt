use Rattle.std.proofs.Common.{Err, subst, inl}
use Rattle.faults.specs.declared.fault.Fault.TheVariants.{Memory}
use Rattle.printing.specs.Finished.{streams_of}
use Rattle.printing.specs.declared.fault.Voice.{Voice}
use Rattle.commands.specs.Programs.{IsPlainRun}
use Rattle.commands.proofs.program.run_job.Goals as goal

pub returns-in-Err-clause-run : goal.returns-in-Err-clause-run
returns-in-Err-clause-run g c =
    let t = g.S.Teller.Teller.telling in
    let ended = c.ended-in-Err.result in
    rw c.in-Plan.is (inl (subst (λ (voice : Voice). IsPlainRun t voice (Err Memory) (streams_of c.args.streams.out c.args.streams.err)
    (streams_of ended.streams.out ended.streams.err) ended.status ended.left) c.voice_of.ensures c.ended-in-Err.ensures))

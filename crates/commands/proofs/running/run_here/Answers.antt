use Rattle.std.proofs.Common.{ℕ, refl, subst}
use Rattle.printing.specs.Faults.{voice_of}
use Rattle.printing.specs.Finished.{streams_of}
use Rattle.printing.specs.declared.fault.Voice.{Voice}
use Rattle.feed_commands.specs.Matrices.{IsMatrixRun}
use Rattle.program_system.specs.World.{view_of}
use Rattle.commands.specs.Left.{all_left}
use Rattle.commands.specs.Searches.{IsFoundBy}
use Rattle.commands.proofs.LeftFacts.{found_run}
use Rattle.commands.proofs.running.run_here.Goals as goal

pub returns-in-Find-clause-run : goal.returns-in-Find-clause-run
returns-in-Find-clause-run g c =
    let plan = c.args.plan.now in
    let basis = c.args.basis.now in
    let found = c.find-found.result in
    let ended = c.end_found.result in
    rw c.in-Find.is (found_run g.S.Teller.Teller.telling all_left plan basis c.in-Find.search (streams_of c.args.streams.out c.args.streams.err)
    (streams_of ended.streams.out ended.streams.err) ended.status ended.left (record {
      found = found;
      is_found = subst (λ (k : ℕ). IsFoundBy plan.style basis k c.in-Find.search found) c.new-rides.ensures c.find-found.ensures;
      printed = c.end_found.ensures.printed;
      none = c.end_found.ensures.none;
    }))

pub returns-in-Matrix-clause-run : goal.returns-in-Matrix-clause-run
returns-in-Matrix-clause-run g c =
    let plan = c.args.plan.now in
    let basis = c.args.basis.now in
    let v = view_of (g.S.System.world c.args.system.now) g.S.Teller.Teller.telling in
    let status = c.run_matrix-status.result in
    let old = streams_of c.args.streams.out c.args.streams.err in
    let new = streams_of c.run_matrix-status.new.streams.out c.run_matrix-status.new.streams.err in
    let question = c.in-Matrix.question in
    let voiced = subst (λ (voice : Voice). IsMatrixRun v voice basis c.new-rides.result question old new status) c.voice_of.ensures c.run_matrix-status.ensures in
    rw c.in-Matrix.is (subst (λ (k : ℕ). IsMatrixRun v (voice_of plan) basis k question old new status) c.new-rides.ensures voiced, refl)

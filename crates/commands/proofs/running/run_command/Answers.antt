use Rattle.std.proofs.Common.{rules, Some, refl}
use Rattle.program_system.specs.World.{view_of}
use Rattle.printing.specs.Finished.{streams_of}
use Rattle.commands.proofs.LeftFacts.{command_left}
use Rattle.commands.proofs.running.run_command.Goals as goal

pub returns-then-is_stored-clause-run : goal.returns-then-is_stored-clause-run
returns-then-is_stored-clause-run g c =
    let v = view_of (g.S.System.world c.args.system.now) g.S.Teller.Teller.telling in
    let plan = c.args.plan.now in
    let old = streams_of c.args.streams.out c.args.streams.err in
    command_left v plan c.args.basis plan.command old old 0 (Some c.args.basis) (search rules) (refl, refl)

use Rattle.std.proofs.Common.{refl, inl, inr, subst}
use Rattle.printing.specs.Listed.{IsReportOf}
use Rattle.command_line.specs.declared.given.Given.{Given}
use Rattle.feed_commands.proofs.checking.told_faults.Goals as goal

pub returns-in-Ok : goal.returns-in-Ok
returns-in-Ok g c =
    let report = c.in-Ok.report in
    rw c.in-Lines.is (inl (
      report,
      refl,
      subst (λ (given : Given). IsReportOf g.T.Teller.telling given c.args.list.now report) c.folder.ensures c.in-Ok.ensures,
    ))

pub returns-in-Ok-fault_list : goal.returns-in-Ok-fault_list
returns-in-Ok-fault_list g c = rw c.in-Told.is (inl (c.in-Ok-fault_list.text, refl, c.in-Ok-fault_list.ensures))

pub returns-in-Err : goal.returns-in-Err
returns-in-Err g c = rw c.in-Lines.is (inr refl)

pub returns-in-Err-fault_list : goal.returns-in-Err-fault_list
returns-in-Err-fault_list g c = rw c.in-Told.is (inr refl)

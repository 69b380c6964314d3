use Rattle.std.proofs.Common.{◌∙◌, Bool, refl, sym, subst, inl, inr}
use Rattle.printing.specs.Faults.{IsFaultSaid}
use Rattle.printing.specs.declared.fault.Voice.{Voice}
use Rattle.feed_basis.specs.BasisFaults.{IsBasisFault}
use Rattle.commands.proofs.running.run_plan.Goals as goal

pub returns-in-Err-clause-run : goal.returns-in-Err-clause-run
returns-in-Err-clause-run g c = λ feed h.
    let plan = c.args.plan.now in
    let fault = c.in-Err.fault in
    inl (
      refl,
      fault,
      subst (λ (keyed : Bool). IsBasisFault keyed feed plan.settings plan.first fault) c.hash_keys-hash_keys.ensures (c.in-Err.ensures.fault feed h),
      record {
        status_is = c.tell_fault-status.ensures.status;
        nothing = refl;
        said = subst (λ (voice : Voice). IsFaultSaid g.S.Teller.Teller.telling voice fault c.args.streams.err c.tell_fault-status.new.err)
            c.voice_of-voice.ensures c.tell_fault-status.ensures.said;
      },
    )

pub returns-in-Ok-clause-run : goal.returns-in-Ok-clause-run
returns-in-Ok-clause-run g c = λ feed h.
    inr (
      c.in-Ok.basis,
      record { with_keys = sym c.hash_keys-hash_keys.ensures ∙ c.in-Ok.ensures.keyed; over = c.in-Ok.ensures.basis feed h },
      record {
        noticed = c.say_idle.new.err;
        idle = c.say_idle.ensures;
        command = c.run_command.ensures.run;
      },
    )

use Rattle.std.proofs.Common.{◌≡◌, ◌∙◌, Bool, true, inl, inr, refl, sym, subst}
use Rattle.faults.specs.declared.fault.Fault.TheVariants as faults
use Rattle.feed_report.specs.Counts.{IsCheckFault}
use Rattle.feed_commands.proofs.checking.check_files.Goals as goal

pub returns-in-Err-list_folder : goal.returns-in-Err-list_folder
returns-in-Err-list_folder g c = λ feed holds readers.
    let keyed : true ≡ (g.S.System.world c.args.system.now).keyed = sym c.in-Ok.ensures.keyed ∙ c.hash_keys.ensures in
    inr (inl (faults.Memory, refl, subst (λ (k : Bool). IsCheckFault k feed faults.Memory) keyed tt, λ all. tt))

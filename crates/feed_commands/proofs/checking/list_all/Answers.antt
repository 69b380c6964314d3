use Rattle.std.proofs.Common.{◌≡◌, ◌==◌, ◌∙◌, ◌<◌, Bool, true, false, inl, inr, refl, sym, ap, subst, arith, is_some, vec_len}
use Rattle.feed_report.specs.Counts.{IsCheckFault}
use Rattle.faults.specs.declared.fault.Fault.TheVariants as faults
use Rattle.feed_commands.proofs.checking.list_all.Goals as goal
use Rattle.feed_commands.proofs.checking.list_all.Goals.{else-is_empty-via-then-is_empty+else-not-list, else-is_empty-via-else-is_empty}

pub returns-in-Err : goal.returns-in-Err
returns-in-Err g c = λ feed holds is.
    let keyed : true ≡ (g.S.System.world c.args.system.now).keyed = sym (ap is_some c.in-Some.is) ∙ c.hash_keys.ensures in
    inl (faults.Memory, refl, subst (λ (k : Bool). IsCheckFault k feed faults.Memory) keyed tt, λ all. tt)

pub returns-in-Err-list_faults : goal.returns-in-Err-list_faults
returns-in-Err-list_faults g c = λ feed holds is.
    let keyed : true ≡ (g.S.System.world c.args.system.now).keyed = sym (ap is_some c.in-Some.is) ∙ c.hash_keys.ensures in
    inl (faults.Memory, refl, subst (λ (k : Bool). IsCheckFault k feed faults.Memory) keyed tt, λ all. tt)

pub returns : goal.returns
returns g c = λ feed holds is.
    let keyed : true ≡ (g.S.System.world c.args.system.now).keyed = sym (ap is_some c.in-Some.is) ∙ c.hash_keys.ensures in
    let list = c.in-Ok-list_faults.list in
    let some : list.unread ≡ false → 0 < vec_len list.faults =
    elim c.else-is_empty.branch [
      | else-is_empty-via-then-is_empty+else-not-list w ↦ λ unread. let read = w.if-not-list in cc
      | else-is_empty-via-else-is_empty w ↦ λ unread. let no : (vec_len list.faults == 0) ≡ false = sym c.is_empty.ensures ∙ w.if-is_empty.false in grind (arith, no)
    ] in
    inr (c.requires, list, record { keyed_is = sym keyed; lists = c.in-Ok-list_faults.ensures feed (c.in-Ok.ensures feed holds); some = some }, c.told_faults.ensures)

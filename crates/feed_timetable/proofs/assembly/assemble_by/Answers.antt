use Rattle.std.proofs.Common.{◌≡◌, ◌+◌, ◌-◌, length, sym, ◌∙◌, ap, subst, arith, slice_index}
use Rattle.std.proofs.lemmas.Result.{err_from_is_err_and}
use Rattle.timetable.specs.Table.{Run, call_count}
use Rattle.feed_timetable.specs.Instances.{AreInstances}
use Rattle.feed_timetable.specs.Running.{listed_all}
use Rattle.feed_timetable.specs.Limits.{IsFewInstances}
use Rattle.feed_timetable.proofs.Instancing.{instances_are}
use Rattle.feed_timetable.proofs.Assembling.{table_is, ways_fault}
use Rattle.feed_timetable.proofs.assembly.assemble_by.Goals as goal

pub returns-in_err-count-clause-fault : goal.returns-in_err-count-clause-fault
returns-in_err-count-clause-fault c =
    let p = err_from_is_err_and c.from_residual.result c.from_residual.ensures.1 in
    rw (p.1, p.2) (c.in_err-count.ensures.fault c.args.default_walk)

pub returns-in_err-ways-clause-fault : goal.returns-in_err-ways-clause-fault
returns-in_err-ways-clause-fault c =
    let t = c.args.tables.now in
    let d = c.args.cover.now in
    let running = c.args.running.now in
    let are = instances_are t d running c.requires.valid c.requires.running in
    let p = err_from_is_err_and c.from_residual-in_err-ways.result c.from_residual-in_err-ways.ensures.1 in
    rw (p.1, p.2) (ways_fault t d running c.args.default_walk c.in_ok-count.count _ are c.in_ok-count.ensures.ok c.in_err-ways.ensures.fault)

pub new-requires : goal.new-requires
new-requires c =
    let t = c.args.tables.now in
    let d = c.args.cover.now in
    let few : IsFewInstances t d c.args.running.now c.in_ok-count.count = c.in_ok-count.ensures.ok in
    let same : c.in_ok-instances.instances.items ≡ listed_all t d c.args.running.now = c.in_ok-instances.ensures.listed in
    table_is t c.requires.valid c.args.default_walk c.requires.short _
    (omega (arith, c.day_start-horizon.ensures.bound, c.days.ensures.within))
    c.in_ok-ways.ensures.ok.walks c.in_ok-ways.ensures.ok.changes c.in_ok-ways.ensures.ok.few
    (omega (arith, few.few, ap (length {A = Run}) same))
    (omega (arith, few.few_calls, ap call_count same))
    c.in_ok-instances.ensures.runs

pub returns-clause-ok : goal.returns-clause-ok
returns-clause-ok c =
    let t = c.args.tables.now in
    let d = c.args.cover.now in
    let are = instances_are t d c.args.running.now c.requires.valid c.requires.running in
    rw c.new.ensures (record {
      horizon = ap (λ s. s + 604_799) (c.day_start-horizon.ensures.value ∙ ap (λ n. slice_index d.starts (n - 1)) c.days.ensures.count);
      instances = subst (AreInstances t d) (sym c.in_ok-instances.ensures.listed) are;
      walks = c.in_ok-ways.ensures.ok.walks;
      changes = c.in_ok-ways.ensures.ok.changes;
    })

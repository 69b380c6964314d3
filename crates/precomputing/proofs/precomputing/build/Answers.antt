use Rattle.std.proofs.Common.{◌≡◌, Option, MatchOption, List, ℕ, length, take, arith, refl, sym, ◌∙◌, ap, subst, length-append}
use Rattle.std.proofs.Math.Seq.{take-append_seam}
use Rattle.timetable.specs.Table.{stops_of}
use Rattle.flusher.specs.declared.end.FlushEnd.{FlushEnd}
use Rattle.tree_crew.specs.Flushed.{Flushed}
use Rattle.section_store.specs.Sources.{IsSetOf}
use Rattle.precomputing.proofs.precomputing.build.Goals as goal

pub run_over-desk-requires-clause-table : goal.run_over-desk-requires-clause-table
run_over-desk-requires-clause-table g c κs within = refl

pub run_over-desk-requires-clause-rides : goal.run_over-desk-requires-clause-rides
run_over-desk-requires-clause-rides g c κs within = refl

pub run_over-desk-requires-clause-part : goal.run_over-desk-requires-clause-part
run_over-desk-requires-clause-part g c κs within = refl

pub run_over-desk-requires-clause-form : goal.run_over-desk-requires-clause-form
run_over-desk-requires-clause-form g c κs within = c.requires.prepared.ledger

pub run_over-desk-requires-clause-own : goal.run_over-desk-requires-clause-own
run_over-desk-requires-clause-own g c κs within = sym c.requires.own ∙ sym c.requires.prepared.ledger

pub run_over-desk-requires-clause-ready : goal.run_over-desk-requires-clause-ready
run_over-desk-requires-clause-ready g c κs within = c.requires.ready

pub returns-in-None-clause-precomputed : goal.returns-in-None-clause-precomputed
returns-in-None-clause-precomputed g c =
    let desk = c.args.desk in
    let new = c.run_over-desk.result.0 in
    subst (λ (o : Option FlushEnd). MatchOption o (new ≡ desk) (λ end. Flushed c.args.crew.now.part g.D.Disk.honest g.D.Disk.state g.D.Disk.failures end desk new))
    c.in-None.is c.run_over-desk.ensures.flushed

pub returns-in-None-clause-shown : goal.returns-in-None-clause-shown
returns-in-None-clause-shown g c = c.run_over-desk.ensures.shown

pub returns-in-Some-DeviceFailed-clause-shown : goal.returns-in-Some-DeviceFailed-clause-shown
returns-in-Some-DeviceFailed-clause-shown g c = c.run_over-desk.ensures.shown

pub left-outcome-requires-clause-before : goal.left-outcome-requires-clause-before
left-outcome-requires-clause-before g c =
    let desk = c.args.desk in
    let new = c.run_over-desk.result.0 in
    let flushed : Flushed c.args.crew.now.part g.D.Disk.honest g.D.Disk.state g.D.Disk.failures c.in-Some-Drained.field-0 desk new =
    subst (λ (o : Option FlushEnd). MatchOption o (new ≡ desk) (λ end. Flushed c.args.crew.now.part g.D.Disk.honest g.D.Disk.state g.D.Disk.failures end desk new))
    c.in-Some-Drained.is c.run_over-desk.ensures.flushed in
    let long = ap (λ (l : List ℕ). length l) (c.stored.ensures.stored ∙ flushed.stored) in
    let parts = length-append desk.stored flushed.added in
    let before = c.requires.prepared.before in
    omega (arith, long, parts, before)

pub left-outcome-requires-clause-few : goal.left-outcome-requires-clause-few
left-outcome-requires-clause-few g c = c.requires.prepared.few

pub left-outcome-requires-clause-bare : goal.left-outcome-requires-clause-bare
left-outcome-requires-clause-bare g c = c.requires.prepared.bare

pub left-outcome-requires-clause-room : goal.left-outcome-requires-clause-room
left-outcome-requires-clause-room g c = c.requires.prepared.room

pub left-outcome-requires-clause-set : goal.left-outcome-requires-clause-set
left-outcome-requires-clause-set g c =
    let desk = c.args.desk in
    let new = c.run_over-desk.result.0 in
    let set = c.args.prepared.set in
    let now : List ℕ = c.stored.result.now in
    let flushed : Flushed c.args.crew.now.part g.D.Disk.honest g.D.Disk.state g.D.Disk.failures c.in-Some-Drained.field-0 desk new =
    subst (λ (o : Option FlushEnd). MatchOption o (new ≡ desk) (λ end. Flushed c.args.crew.now.part g.D.Disk.honest g.D.Disk.state g.D.Disk.failures end desk new))
    c.in-Some-Drained.is c.run_over-desk.ensures.flushed in
    let front : take c.args.prepared.before now ≡ desk.stored =
    ap (λ n. take n now) c.requires.prepared.before
    ∙ ap (λ (l : List ℕ). take (length desk.stored) l) (c.stored.ensures.stored ∙ flushed.stored) ∙ take-append_seam desk.stored flushed.added in
    subst (λ (n : ℕ). IsSetOf n set (take c.args.prepared.before now)) (sym c.requires.prepared.stops)
    (subst (λ (l : List ℕ). IsSetOf (stops_of desk.form.table) set l) (sym front) c.requires.prepared.set)

pub returns-in-Some-Drained-clause-shown : goal.returns-in-Some-Drained-clause-shown
returns-in-Some-Drained-clause-shown g c = c.run_over-desk.ensures.shown

use Rattle.std.proofs.Common.{◌↔◌, List, ℕ, sym, subst, IfOk, IfErr, MatchResult}
use Rattle.timetable.specs.Table.{stops_of}
use Rattle.stop_parts.specs.Parts.{Share, whole}
use Rattle.store_building.specs.Builds.{CountsLeft, IsBuilt, IsEndOf, IsStopped}
use Rattle.store_terms.specs.Counts.{CountsStored}
use Rattle.store_terms.specs.Stores.{OnlyFailing, form_over}
use Rattle.store_building.proofs.BuildFacts.{Laws, Opens, came, end_fails, left_of, stays_honest}
use Rattle.store_terms.proofs.OpeningFacts.{of_refusal, unopened_over, unopened_fails}
use Rattle.store_building.proofs.ServedFacts.{replied}
use Rattle.store_building.proofs.served.serve.Goals as goal

pub returns-in-Err-clause-served : goal.returns-in-Err-clause-served
returns-in-Err-clause-served g c = λ honest.
    let e = c.in-Err.ensures in
    unopened_over (form_over c.args.building.now.basis.now c.args.building.now.rides) (g.D.Disk.state c.args.disk) (g.D.Disk.state c.in-Err.disk) c.in-Err.fault
    c.from.result (e.cause honest) (e.refused honest) (e.alone honest) c.from.ensures (e.moments honest)

pub returns-in-Err-clause-device : goal.returns-in-Err-clause-device
returns-in-Err-clause-device g c =
    unopened_fails c.in-Err.fault c.from.result (g.D.Disk.failures c.args.disk) (g.D.Disk.failures c.in-Err.disk) c.from.ensures c.in-Err.ensures.device

pub returns-clause-served : goal.returns-clause-served
returns-clause-served g c = λ honest.
    let basis = c.args.building.now.basis.now in
    let k = c.args.building.now.rides in
    let state = g.D.Disk.state in
    let old = state c.args.disk in
    let first = c.in-Ok.opened.desk in
    let last = c.precompute_while-desk.result.0 in
    let outcome = c.precompute_while-desk.result.1 in
    let e = c.in-Ok.ensures in
    let laws : Laws = record {
      life = c.opening_goes_on.ensures;
      held = c.goes_on.ensures.held;
      nothing = c.goes_on.ensures.nothing;
      trust = c.goes_on.ensures.trust;
      loses = c.loses_nothing_in_turn.ensures;
    } in
    let opens : Opens g.D.Disk.honest state (form_over basis k) old first =
    record { same = e.form; opening = e.moments honest; stood = e.stood honest; sound = e.sound honest } in
    let counts = subst (λ (l : List ℕ). IfOk c.told-built.result (CountsStored basis whole l)) c.stored.ensures.stored
    (subst (λ (p : Share). IfOk c.told-built.result (CountsStored basis p c.stored.result.now)) c.whole.ensures c.told-built.ensures.counts) in
    record {
      built = subst (λ d. MatchResult c.told-built.result (IsBuilt basis whole k old (state d)) (IsStopped basis whole k old (state d))) (sym c.into_disk.ensures)
          (came whole g.D.Disk.honest state g.D.Disk.failures laws basis k old first last outcome c.told-built.result opens
          c.precompute_while-desk.ensures.precomputed c.told-built.ensures.whole counts c.told-built.ensures.ended);
      replied = replied basis k _ _ old _ _ _ c.precompute_while-desk.result.2.1 c.in-Ok.opened.reader c.in-Ok.opened.planner e.planner (e.reader honest)
          c.precompute_while-desk.ensures.gave;
    }

pub told-built-requires : goal.told-built-requires
told-built-requires g c =
    let last = c.precompute_while-desk.result.0 in
    let outcome = c.precompute_while-desk.result.1 in
    subst (λ (p : Share). CountsLeft p (stops_of c.args.building.now.basis.now.timetable) c.stored.result.now outcome) (sym c.whole.ensures)
    (subst (λ (l : List ℕ). CountsLeft whole (stops_of c.args.building.now.basis.now.timetable) l outcome) (sym c.stored.ensures.stored)
    (left_of whole g.D.Disk.honest g.D.Disk.state g.D.Disk.failures c.in-Ok.opened.desk last (form_over c.args.building.now.basis.now c.args.building.now.rides) outcome
    c.in-Ok.ensures.form c.precompute_while-desk.ensures.precomputed))

pub returns-clause-device : goal.returns-clause-device
returns-clause-device g c =
    let failures = g.D.Disk.failures in
    let first = c.in-Ok.opened.desk in
    let last = c.precompute_while-desk.result.0 in
    let outcome = c.precompute_while-desk.result.1 in
    subst (λ d. IfErr c.told-built.result (OnlyFailing (failures c.args.disk) (failures d))) (sym c.into_disk.ensures)
    (subst (λ n. IfErr c.told-built.result (OnlyFailing n (failures last.disk))) c.in-Ok.ensures.device
    (of_refusal c.told-built.result (IsEndOf outcome) (OnlyFailing (failures first.disk) (failures last.disk))
    (λ fault is. end_fails whole g.D.Disk.honest g.D.Disk.state failures first last outcome fault is c.precompute_while-desk.ensures.precomputed)
    c.told-built.ensures.ended))

pub returns-clause-honest : goal.returns-clause-honest
returns-clause-honest g c =
    let honest = g.D.Disk.honest in
    let first = c.in-Ok.opened.desk in
    let last = c.precompute_while-desk.result.0 in
    let opened = c.in-Ok.ensures.honest in
    let stays = stays_honest whole honest g.D.Disk.state g.D.Disk.failures first last c.precompute_while-desk.result.1 c.precompute_while-desk.ensures.precomputed in
    subst (λ d. honest c.args.disk ↔ honest d) (sym c.into_disk.ensures) (λ h. stays.0 (opened.0 h), λ h. opened.1 (stays.1 h))

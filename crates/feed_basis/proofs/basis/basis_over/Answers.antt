use Rattle.std.proofs.Common.{subst, inr}
use Rattle.std.specs.Arc.{arc_value}
use Rattle.std.proofs.lemmas.Result.{err_from_is_err_and}
use Rattle.gtfs_tables.specs.Tables.{TableValues}
use Rattle.feed_timetable.specs.Answers.{IsFault, IsTimetable}
use Rattle.feed_timetable.specs.Departures.{AreRepeats}
use Rattle.feed_timetable.specs.Names.{AreNamesOf}
use Rattle.service_span.specs.Idle.{IsIdle}
use Rattle.feed_basis.specs.Basis.{AreDays}
use Rattle.feed_basis.proofs.FaultFacts.{of_cover, of_rows}
use Rattle.feed_basis.proofs.BasisFacts.{is_sound}
use Rattle.feed_basis.proofs.basis.basis_over.Goals as goal

pub returns-in_err-cover-clause-fault : goal.returns-in_err-cover-clause-fault
returns-in_err-cover-clause-fault c = λ feed h.
    let p = err_from_is_err_and c.from_residual.result c.from_residual.ensures.1 in
    rw (p.1, p.2) (of_cover feed c.args.settings.now c.args.first c.in_err-cover.field-0.0 h.0 c.in_err-cover.ensures)

pub returns-in_err-timetable-clause-fault : goal.returns-in_err-timetable-clause-fault
returns-in_err-timetable-clause-fault c = λ feed h.
    let p = err_from_is_err_and c.from_residual-in_err-timetable.result c.from_residual-in_err-timetable.ensures.1 in
    let settings = c.args.settings.now in
    let fault = c.in_err-timetable.field-0.0 in
    let cover = c.in_ok-cover.cover in
    let covered = c.in_ok-cover.ensures in
    let days : AreDays feed settings c.args.first cover = record { zone = covered.1; faultless = h.0; rule = covered.2; covered = covered.3 } in
    rw (p.1, p.2) (of_rows feed settings fault c.args.first
    (inr (cover, days, subst (λ (t : TableValues). IsFault t cover settings.default_walk fault) h.1 c.in_err-timetable.ensures.fault)))

pub returns-in_err-names-clause-fault : goal.returns-in_err-names-clause-fault
returns-in_err-names-clause-fault c = λ feed h.
    let p = err_from_is_err_and c.from_residual-in_err-names.result c.from_residual-in_err-names.ensures.1 in
    rw (p.1, p.2) tt

pub returns-in_err-repeats-clause-fault : goal.returns-in_err-repeats-clause-fault
returns-in_err-repeats-clause-fault c = λ feed h.
    let p = err_from_is_err_and c.from_residual-in_err-repeats.result c.from_residual-in_err-repeats.ensures.1 in
    rw (p.1, p.2) tt

pub returns-in_err-idle-clause-fault : goal.returns-in_err-idle-clause-fault
returns-in_err-idle-clause-fault c = λ feed h.
    let p = err_from_is_err_and c.from_residual-in_err-idle.result c.from_residual-in_err-idle.ensures.1 in
    rw (p.1, p.2) tt

pub returns-clause-basis : goal.returns-clause-basis
returns-clause-basis c = λ feed h.
    let cover = c.in_ok-cover.cover in
    let covered = c.in_ok-cover.ensures in
    record {
      days = record { zone = covered.1; faultless = h.0; rule = covered.2; covered = covered.3 };
      timetable = subst (λ (t : TableValues). IsTimetable t cover c.args.settings.now.default_walk (arc_value c.in_ok-timetable.timetable)) h.1
          c.in_ok-timetable.ensures.ok;
      named = subst (λ (t : TableValues). AreNamesOf t (arc_value c.in_ok-names.names)) h.1 c.in_ok-names.ensures.named;
      repeated = subst (λ (t : TableValues). AreRepeats t c.in_ok-repeats.repeats) h.1 c.in_ok-repeats.ensures;
      idle = subst (λ (t : TableValues). IsIdle t cover c.in_ok-idle.idle) h.1 c.in_ok-idle.ensures;
    }

pub invariant_of-result : goal.invariant_of-result
invariant_of-result c =
    let covered = c.in_ok-cover.ensures in
    is_sound c.args.tables.now c.args.first c.args.settings.now.days covered.1 c.in_ok-cover.cover c.args.settings.now.default_walk _ covered.3
    c.in_ok-timetable.ensures.valid c.in_ok-timetable.ensures.ok c.in_ok-names.ensures.named c.in_ok-names.ensures.known

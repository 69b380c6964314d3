use Rattle.std.proofs.Common.{◌∙◌, ap, sym, subst, inl, inr}
use Rattle.std.specs.Arc.{arc_value}
use Rattle.timetable.specs.Table.{Table, stops_of}
use Rattle.section_store.specs.Sections.{Form, form_of}
use Rattle.pattern_query.specs.Questions.{tree_at}
use Rattle.store_excerpt.specs.Board.{ShowsAmong}
use Rattle.store_excerpt.specs.Excerpt.{ShowsWhole}
use Rattle.recovery.specs.Opening.{IsOpening, StandsForSources}
use Rattle.store_terms.specs.Stores.{form_over}
use Rattle.store_answers.proofs.AuditFacts.{ShowsOne, audited, uncompared_fails, uncompared_from}
use Rattle.store_terms.proofs.OpeningFacts.{over_basis, unopened, unopened_fails}
use Rattle.store_answers.proofs.audited.audit.Goals.{in-Ok-compared, in-Err-compared}
use Rattle.store_answers.proofs.audited.audit.Goals as goal

pub returns-in-Err-clause-audited : goal.returns-in-Err-clause-audited
returns-in-Err-clause-audited g c = λ honest.
    let e = c.in-Err.ensures in
    inl (unopened c.args.basis.now c.args.rides (arc_value c.shared.result.now) (g.D.Disk.state c.args.disk) (g.D.Disk.state c.in-Err.disk) c.in-Err.fault
    c.from.result c.shared.ensures (e.cause honest) (e.refused honest) (e.alone honest) c.from.ensures (e.moments honest))

pub returns-clause-audited : goal.returns-clause-audited
returns-clause-audited g c = λ honest.
    let basis = c.args.basis.now in
    let k = c.args.rides in
    let from = c.args.from.now in
    let old = g.D.Disk.state c.args.disk in
    let new = g.D.Disk.state c.into_disk.result in
    let excerpt = c.in-Ok.excerpt in
    let table = arc_value c.shared.result.now in
    let same = c.shared.ensures in
    let e = c.in-Ok.ensures in
    let form = e.form ∙ ap (λ (t : Table). form_of t k) same in
    let is : ShowsOne basis k old new from excerpt.stored excerpt.board = record {
      stands = over_basis (λ f. StandsForSources f excerpt.stored old.read) basis k table same (e.stored honest);
      opening = subst (λ d. IsOpening (form_over basis k) old (g.D.Disk.state d)) (sym c.into_disk.ensures)
          (over_basis (λ f. IsOpening f old (g.D.Disk.state excerpt.disk)) basis k table same (e.moments honest));
      stop = c.stop_named-stop.result;
      named = c.stop_named-stop.ensures.value;
      below = c.stop_named-stop.ensures.stop;
      kept = c.stops_of_one-froms.result.now;
      are_kept = c.stops_of_one-froms.ensures;
      shows = subst (λ (t : Table). ShowsAmong (stops_of t) c.stops_of_one-froms.result.now excerpt.stored excerpt.board) same (e.shows honest);
      whole = subst (λ (f : Form). ShowsWhole f old excerpt.stored excerpt.board) form (e.whole honest);
    } in
    elim c.match-compared.branch [
      | in-Ok-compared w ↦ rw w.found-is (audited basis k old new from excerpt.stored excerpt.board is w.in-Ok-compared.difference w.told.result
          w.in-Ok-compared.ensures.compared w.told.ensures)
      | in-Err-compared w ↦ rw w.found-is (inr (uncompared_from basis k old new from excerpt.stored excerpt.board is w.in-Err-compared.fault
          w.in-Err-compared.ensures.fault))
    ]

pub returns-in-Err-clause-device : goal.returns-in-Err-clause-device
returns-in-Err-clause-device g c =
    unopened_fails c.in-Err.fault c.from.result (g.D.Disk.failures c.args.disk) (g.D.Disk.failures c.in-Err.disk) c.from.ensures c.in-Err.ensures.device

pub returns-clause-device : goal.returns-clause-device
returns-clause-device g c =
    elim c.match-compared.branch [
      | in-Ok-compared w ↦ rw w.found-is tt
      | in-Err-compared w ↦ rw w.found-is (uncompared_fails c.args.basis.now (tree_at c.in-Ok.excerpt.board) c.args.from.now w.in-Err-compared.fault
          (g.D.Disk.failures c.args.disk) (g.D.Disk.failures c.into_disk.result) w.in-Err-compared.ensures.fault)
    ]

use Rattle.std.proofs.Common.{◌≡◌, Some, subst, sym, ◌∙◌, ap}
use Rattle.std.specs.Arc.{arc_value}
use Rattle.timetable.specs.Table.{Table, stops_of}
use Rattle.feed_ids.specs.Names.{stops_at}
use Rattle.section_store.specs.Sections.{Form, form_of}
use Rattle.store_excerpt.specs.Board.{ShowsAmong}
use Rattle.recovery.specs.Opening.{IsOpening, StandsForSources}
use Rattle.store_excerpt.specs.Excerpt.{ShowsWhole}
use Rattle.store_terms.proofs.OpeningFacts.{over_basis, unopened, unopened_fails}
use Rattle.store_answers.proofs.opened.open_for.Goals as goal

pub returns-in-Ok-clause-opened : goal.returns-in-Ok-clause-opened
returns-in-Ok-clause-opened g c = λ honest.
    let basis = c.args.basis.now in
    let k = c.args.rides in
    let question = c.args.question.now in
    let old = g.D.Disk.state c.args.disk in
    let excerpt = c.in-Ok.excerpt in
    let table = arc_value c.shared.result.now in
    let same = c.shared.ensures in
    let e = c.in-Ok.ensures in
    record {
      sound = c.names.ensures.sound;
      stands = over_basis (λ f. StandsForSources f excerpt.stored old.read) basis k table same (e.stored honest);
      opening = over_basis (λ f. IsOpening f old (g.D.Disk.state excerpt.disk)) basis k table same (e.moments honest);
      kept = c.stops_of_any-froms.result.now;
      are_kept = λ froms leaves. c.stops_of_any-froms.ensures froms (c.place_named-place.ensures ∙ subst (λ n. stops_at n question.from.now ≡ Some froms) (sym c.names.ensures.value) leaves);
      shows = subst (λ (t : Table). ShowsAmong (stops_of t) c.stops_of_any-froms.result.now excerpt.stored excerpt.board) same (e.shows honest);
      whole = subst (λ (f : Form). ShowsWhole f old excerpt.stored excerpt.board) (e.form ∙ ap (λ (t : Table). form_of t k) same) (e.whole honest);
    }

pub returns-in-Err-clause-opened : goal.returns-in-Err-clause-opened
returns-in-Err-clause-opened g c = λ honest.
    let e = c.in-Err.ensures in
    unopened c.args.basis.now c.args.rides (arc_value c.shared.result.now) (g.D.Disk.state c.args.disk) (g.D.Disk.state c.in-Err.disk) c.in-Err.fault
    c.from.result c.shared.ensures (e.cause honest) (e.refused honest) (e.alone honest) c.from.ensures (e.moments honest)

pub returns-in-Err-clause-device : goal.returns-in-Err-clause-device
returns-in-Err-clause-device g c =
    unopened_fails c.in-Err.fault c.from.result (g.D.Disk.failures c.args.disk) (g.D.Disk.failures c.in-Err.disk) c.from.ensures c.in-Err.ensures.device

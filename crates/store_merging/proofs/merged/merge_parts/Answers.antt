use Rattle.std.proofs.Common.{◌≡◌, MatchResult, sym, ◌∙◌, ap, subst}
use Rattle.std.specs.Arc.{arc_value}
use Rattle.timetable.specs.Table.{Table, stops_of}
use Rattle.section_store.specs.Sections.{Form, Stands, form_of}
use Rattle.section_store.specs.Store.{Holds}
use Rattle.recovery.specs.Opening.{IsOpening}
use Rattle.migration.specs.Migration.{OneIsTooLarge}
use Rattle.merging.specs.Merging.{Merges, merged}
use Rattle.store_terms.specs.Stores.{form_over}
use Rattle.store_merging.specs.Merges.{IsMerged, IsMerging, IsUnmerged}
use Rattle.store_merging.proofs.MergingFacts.{counts, holds_list, merging, stops, unopened}
use Rattle.store_merging.proofs.merged.merge_parts.Goals as goal
use Rattle.store_merging.proofs.merged.merge_parts.Goals.{in-Err-merged, in-Ok-merged+in-Ok-counted, in-Ok-merged+in-Err-counted}

-- what isn't opened
pub returns-in-Err-clause-merged : goal.returns-in-Err-clause-merged
returns-in-Err-clause-merged g c = λ disks all honest has.
    unopened c.args.basis.now c.args.rides (arc_value c.shared.result.now) c.in-Err.fault (g.E.Disk.state c.args.out) (g.E.Disk.state c.in-Err.out) c.shared.ensures
    (c.in-Err.ensures.cause honest) (c.in-Err.ensures.refused honest) (c.in-Err.ensures.alone honest) (c.in-Err.ensures.opening honest)

pub returns-clause-merged : goal.returns-clause-merged
returns-clause-merged g c = λ disks all honest has.
    let basis = c.args.basis.now in
    let k = c.args.rides in
    let form = form_over basis k in
    let state = g.E.Disk.state in
    let store = c.in-Ok.store in
    let last = c.merge-merged.new.store in
    let old = state c.args.out in
    let mid = state store.disk in
    let new = state last.disk in
    let table : arc_value c.shared.result.now ≡ basis.timetable = c.shared.ensures in
    let own : form_of (arc_value c.shared.result.now) k ≡ form = ap (λ (t : Table). form_of t k) table in
    let given = c.in-Ok.ensures.given in
    let before = given.trees in
    let there = c.in-Ok.ensures.honest.0 honest in
    let is : store.form ≡ form = c.in-Ok.ensures.ready.1 ∙ own in
    let stood : Stands form old.read before = subst (λ (f : Form). Stands f old.read before) own (given.stands honest) in
    let holds : Holds store.form before store.place store.stored mid =
    subst (λ (f : Form). Holds f before store.place store.stored mid) (sym c.in-Ok.ensures.ready.1) (given.holds honest) in
    let opening : IsOpening form old mid = subst (λ (f : Form). IsOpening f old mid) own (c.in-Ok.ensures.opening honest) in
    let m : Merges form before all mid new = subst (λ (f : Form). Merges f before all mid new) is (c.merge-merged.ensures.merges disks before all there has holds) in
    let did : IsMerging form before all old new = merging c.loses_nothing_in_turn.ensures c.goes_on.ensures.trust form before all old mid new stood opening m in
    subst (λ d. MatchResult c.match-merged.told (IsMerged basis k all old (state d)) (IsUnmerged basis k all old (state d))) (sym c.into_disk.ensures)
    (elim c.match-merged.branch [
      | in-Err-merged w ↦ rw w.told-is (
        before,
        did,
        stops form all w.in-Err-merged.fault
            (λ large. subst (λ (f : Form). OneIsTooLarge f all) is (w.in-Err-merged.ensures.large disks all has large))
            (w.in-Err-merged.ensures.changed disks all has) w.in-Err-merged.ensures.kinds,
      )
      | in-Ok-merged+in-Ok-counted w ↦
          let whole : Holds form (merged before all (stops_of basis.timetable)) last.place last.stored new =
          subst (λ (f : Form). Holds f (merged before all (stops_of f.table)) last.place last.stored new) is (w.in-Ok-merged.ensures.holds disks before all there has holds) in
          rw w.told-is (counts basis k before all old new last.stored w.in-Ok-counted.built did
          (holds_list form (merged before all (stops_of basis.timetable)) last.place last.stored new whole) whole.stored_are w.in-Ok-counted.ensures)
      | in-Ok-merged+in-Err-counted w ↦
          let whole : Holds form (merged before all (stops_of basis.timetable)) last.place last.stored new =
          subst (λ (f : Form). Holds f (merged before all (stops_of f.table)) last.place last.stored new) is (w.in-Ok-merged.ensures.holds disks before all there has holds) in
          rw w.told-is (before, did, holds_list form (merged before all (stops_of basis.timetable)) last.place last.stored new whole)
    ])

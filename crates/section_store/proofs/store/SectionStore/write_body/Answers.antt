use Rattle.std.proofs.Common.{rules, inl, ◌≡◌, ◌↔◌, Bool, IsTrue, not, true, false, ◌+◌, ◌<◌, arith, ℕ, List, length, sym, ◌∙◌, ap, subst, ◌≤◌}
use Rattle.std.proofs.lemmas.Bool.{false≢true}
use Rattle.disk_model.specs.Disk.{WriteFailed, after_write}
use Rattle.disk_model.proofs.Moments.{write_moments, grew}
use Rattle.timetable.specs.Table.{Table, IsTable, stops_of}
use Rattle.pattern_tree.specs.Content.{Content}
use Rattle.section_store.specs.Fault.{limit}
use Rattle.section_store.specs.Sections.{Form, stop_width, IsSections, IsBeforeOrAfter, IsNew, MayStand}
use Rattle.section_store.specs.Sources.{IsSetOf}
use Rattle.section_store.specs.Stages.{IsFile}
use Rattle.section_store.specs.Store.{AreBody}
use Rattle.section_store.specs.Versions.{width_of}
use Rattle.timetable.specs.Widths.{byte_count}
use Rattle.section_store.specs.declared.step.Step.TheVariants.{WriteBody, SyncBody}
use Rattle.section_store.proofs.Outcomes.{body_crash, rest_stands}
use Rattle.section_store.proofs.Stages.{may_of, large, fits, wrote, kept_by, body_file, written_inside}
use Rattle.section_store.proofs.store.SectionStore.write_body.Goals.{then-self-ge-LIMIT-via-then-self-ge-LIMIT, then-self-ge-LIMIT-via-else-self-ge-LIMIT+then-self-extent}
use Rattle.disk_model.specs.Image.{with_write}
use Rattle.disk_model.specs.Moments.{Leaves}
use Rattle.section_store.proofs.Lasting.{list_keeps, write_loses}
use Rattle.section_store.proofs.store.SectionStore.write_body.Goals as goal

-- what the mark of a tree's source says
module _ (form : Form) (tree : Content) (stored : List ℕ) (marked : Bool) (stop : ℕ) (may : MayStand form tree) (source : stop ≡ tree.source)
    (told : stop < stops_of form.table → IsTrue (not marked) ↔ IsNew stop stored) where
  told_here : IsTrue (not marked) ↔ IsNew stop stored
  told_here = told (subst (λ (n : ℕ). n < stops_of form.table) (sym source) may.within.0)

  new_by : marked ≡ false → IsNew tree.source stored
  new_by is = subst (λ (n : ℕ). IsNew n stored) source (told_here.0 (ap not is))

  old_by : marked ≡ true → IsNew tree.source stored → ⊥
  old_by is new = false≢true (sym (ap not is) ∙ told_here.1 (subst (λ (n : ℕ). IsNew n stored) (sym source) new))

few : (table : Table) → IsTable table → stops_of table ≤ 1_000_000
few table is = is.few_stops

pub returns-then-contains-clause-cause : goal.returns-then-contains-clause-cause
returns-then-contains-clause-cause g c =
    let at = c.self.inside in
    let form = at.form in
    let tree = c.args.tree.now in
    let stored = at.stored.items in
    let may : MayStand form tree = may_of _ _ tree c.self.view_is c.requires.may in
    let ready : at.next ≡ WriteBody = search rules in
    rw (← c.self.view_is) (
      ready,
      may,
      old_by form tree stored c.contains.result c.source.result may c.source.ensures (c.contains.ensures.new (stops_of form.table) stored c.self.invariant.set) c.if-contains.true,
    )

pub returns-then-is_err-clause-cause : goal.returns-then-is_err-clause-cause
returns-then-is_err-clause-cause g c =
    let at = c.self.inside in
    let form = at.form in
    let tree = c.args.tree.now in
    let stored = at.stored.items in
    let may : MayStand form tree = may_of _ _ tree c.self.view_is c.requires.may in
    let new : IsNew tree.source stored =
    new_by form tree stored c.contains.result c.source.result may c.source.ensures (c.contains.ensures.new (stops_of form.table) stored c.self.invariant.set) c.if-contains.false in
    let ready : at.next ≡ WriteBody = search rules in
    rw (← c.self.view_is) (ready, may, new)

pub returns-in_default-clause-cause : goal.returns-in_default-clause-cause
returns-in_default-clause-cause g c =
    let at = c.self.inside in
    let form = at.form in
    let tree = c.args.tree.now in
    let stored = at.stored.items in
    let may : MayStand form tree = may_of _ _ tree c.self.view_is c.requires.may in
    let new : IsNew tree.source stored =
    new_by form tree stored c.contains.result c.source.result may c.source.ensures (c.contains.ensures.new (stops_of form.table) stored c.self.invariant.set) c.if-contains.false in
    let ready : at.next ≡ WriteBody = search rules in
    rw (← c.self.view_is) (ready, may, new)

pub returns-then-self-ge-LIMIT-clause-cause : goal.returns-then-self-ge-LIMIT-clause-cause
returns-then-self-ge-LIMIT-clause-cause g c =
    let at = c.self.inside in
    let form = at.form in
    let tree = c.args.tree.now in
    let stored = at.stored.items in
    let may : MayStand form tree = may_of _ _ tree c.self.view_is c.requires.may in
    let new : IsNew tree.source stored =
    new_by form tree stored c.contains.result c.source.result may c.source.ensures (c.contains.ensures.new (stops_of form.table) stored c.self.invariant.set) c.if-contains.false in
    let ready : at.next ≡ WriteBody = search rules in
    let table : IsTable form.table = search rules in
    let width : 4 ≡ stop_width form = ap (λ v. byte_count (width_of v)) (sym c.self.invariant.written) in
    let body : AreBody (stop_width form) (stops_of form.table) tree c.fill_body.new.body.items =
    subst (λ (w : ℕ). AreBody w (stops_of form.table) tree c.fill_body.new.body.items) width (c.in-Ok.ensures (stops_of form.table) (few form.table table) may.within) in
    let bytes = c.fill_body.new.body.items in
    let size : c.len-extent.result ≡ length bytes = search rules in
    let over : limit < at.place + 1 + length bytes = elim c.then-self-ge-LIMIT.branch [
      | then-self-ge-LIMIT-via-then-self-ge-LIMIT w ↦ omega (arith, w.if-self-ge-LIMIT.true)
      | then-self-ge-LIMIT-via-else-self-ge-LIMIT+then-self-extent w ↦ omega (arith, w.if-self-extent.true, size)
    ] in
    rw (← c.self.view_is) (ready, may, new, large form tree bytes body at.place over)

pub returns-in-Ok-write_at-clause-body : goal.returns-in-Ok-write_at-clause-body
returns-in-Ok-write_at-clause-body g c =
    let at = c.self.inside in
    let form = at.form in
    let tree = c.args.tree.now in
    let stored = at.stored.items in
    let may : MayStand form tree = may_of _ _ tree c.self.view_is c.requires.may in
    let new : IsNew tree.source stored =
    new_by form tree stored c.contains.result c.source.result may c.source.ensures (c.contains.ensures.new (stops_of form.table) stored c.self.invariant.set) c.if-contains.false in
    let table : IsTable form.table = search rules in
    let width : 4 ≡ stop_width form = ap (λ v. byte_count (width_of v)) (sym c.self.invariant.written) in
    let body : AreBody (stop_width form) (stops_of form.table) tree c.fill_body.new.body.items =
    subst (λ (w : ℕ). AreBody w (stops_of form.table) tree c.fill_body.new.body.items) width (c.in-Ok.ensures (stops_of form.table) (few form.table table) may.within) in
    let size : c.len-extent.result ≡ length c.fill_body.new.body.items = search rules in
    rw (← c.self.view_is) (λ trees honest holds. wrote form tree c.fill_body.new.body.items body trees at.place c.len-extent.result stored c.deref-2.result.now (g.D.Disk.state at.disk) (g.D.Disk.state c.write_at.new.self)
    holds may new size c.deref-2.ensures.value (c.in-Ok-write_at.ensures.written honest))

pub returns-in-Ok-write_at-clause-moments : goal.returns-in-Ok-write_at-clause-moments
returns-in-Ok-write_at-clause-moments g c =
    let at = c.self.inside in
    let form = at.form in
    let place = at.place in
    let old = g.D.Disk.state at.disk in
    rw (← c.self.view_is) (λ trees honest rest.
    write_moments c.write_at.result old (g.D.Disk.state c.write_at.new.self) (λ bytes. IsSections form bytes trees) (place + 1) c.deref-2.result.now (c.write_at.ensures.written honest)
    (body_crash form trees place (length c.deref-2.result.now) old rest))

pub returns-in-Err-clause-moments : goal.returns-in-Err-clause-moments
returns-in-Err-clause-moments g c =
    let at = c.self.inside in
    let form = at.form in
    let place = at.place in
    let old = g.D.Disk.state at.disk in
    rw (← c.self.view_is) (λ trees honest rest.
    write_moments c.write_at.result old (g.D.Disk.state c.write_at.new.self) (λ bytes. IsSections form bytes trees) (place + 1) c.deref-2.result.now (c.write_at.ensures.written honest)
    (body_crash form trees place (length c.deref-2.result.now) old rest))

pub returns-in-Ok-write_at-clause-cause : goal.returns-in-Ok-write_at-clause-cause
returns-in-Ok-write_at-clause-cause g c =
    let at = c.self.inside in
    let form = at.form in
    let tree = c.args.tree.now in
    let stored = at.stored.items in
    let may : MayStand form tree = may_of _ _ tree c.self.view_is c.requires.may in
    let new : IsNew tree.source stored =
    new_by form tree stored c.contains.result c.source.result may c.source.ensures (c.contains.ensures.new (stops_of form.table) stored c.self.invariant.set) c.if-contains.false in
    let ready : at.next ≡ WriteBody = search rules in
    let table : IsTable form.table = search rules in
    let width : 4 ≡ stop_width form = ap (λ v. byte_count (width_of v)) (sym c.self.invariant.written) in
    let body : AreBody (stop_width form) (stops_of form.table) tree c.fill_body.new.body.items =
    subst (λ (w : ℕ). AreBody w (stops_of form.table) tree c.fill_body.new.body.items) width (c.in-Ok.ensures (stops_of form.table) (few form.table table) may.within) in
    let size : c.len-extent.result ≡ length c.fill_body.new.body.items = search rules in
    let within = fits form tree c.fill_body.new.body.items body at.place (omega (arith, size, c.if-self-ge-LIMIT.false, c.if-self-extent.false)) in
    rw (← c.self.view_is) (ready, may, new, within, c.in-Ok-write_at.ensures.counted)

pub returns-in-Err-clause-cause : goal.returns-in-Err-clause-cause
returns-in-Err-clause-cause g c =
    let at = c.self.inside in
    let form = at.form in
    let tree = c.args.tree.now in
    let stored = at.stored.items in
    let may : MayStand form tree = may_of _ _ tree c.self.view_is c.requires.may in
    let new : IsNew tree.source stored =
    new_by form tree stored c.contains.result c.source.result may c.source.ensures (c.contains.ensures.new (stops_of form.table) stored c.self.invariant.set) c.if-contains.false in
    let ready : at.next ≡ WriteBody = search rules in
    let table : IsTable form.table = search rules in
    let width : 4 ≡ stop_width form = ap (λ v. byte_count (width_of v)) (sym c.self.invariant.written) in
    let body : AreBody (stop_width form) (stops_of form.table) tree c.fill_body.new.body.items =
    subst (λ (w : ℕ). AreBody w (stops_of form.table) tree c.fill_body.new.body.items) width (c.in-Ok.ensures (stops_of form.table) (few form.table table) may.within) in
    let size : c.len-extent.result ≡ length c.fill_body.new.body.items = search rules in
    let within = fits form tree c.fill_body.new.body.items body at.place (omega (arith, size, c.if-self-ge-LIMIT.false, c.if-self-extent.false)) in
    rw (← c.self.view_is) (ready, may, new, within, grew _ _ c.in-Err.ensures.counted)

pub returns-in-Ok-write_at-clause-lasting : goal.returns-in-Ok-write_at-clause-lasting
returns-in-Ok-write_at-clause-lasting g c =
    let at = c.self.inside in
    let form = at.form in
    let tree = c.args.tree.now in
    let place = at.place in
    let disk = at.disk in
    let old = g.D.Disk.state disk in
    let bytes = c.deref-2.result.now in
    let image = with_write (place + 1) (length bytes) old.now in
    rw (← c.self.view_is) (λ trees honest rest.
    let leaves : Leaves (IsBeforeOrAfter form trees tree) image = λ left left_by. inl (body_crash form trees place (length bytes) old rest left left_by) in
    write_loses c.write_at.result form old (g.D.Disk.state c.write_at.new.self) (place + 1) bytes (c.write_at.ensures.written honest)
    (list_keeps c.stands_for_one.ensures form old.now image old.read trees tree (g.met.D.Disk.may_stay disk honest) (rest_stands form trees place old rest) leaves))

pub returns-in-Err-clause-lasting : goal.returns-in-Err-clause-lasting
returns-in-Err-clause-lasting g c =
    let at = c.self.inside in
    let form = at.form in
    let tree = c.args.tree.now in
    let place = at.place in
    let disk = at.disk in
    let old = g.D.Disk.state disk in
    let bytes = c.deref-2.result.now in
    let image = with_write (place + 1) (length bytes) old.now in
    rw (← c.self.view_is) (λ trees honest rest.
    let leaves : Leaves (IsBeforeOrAfter form trees tree) image = λ left left_by. inl (body_crash form trees place (length bytes) old rest left left_by) in
    write_loses c.write_at.result form old (g.D.Disk.state c.write_at.new.self) (place + 1) bytes (c.write_at.ensures.written honest)
    (list_keeps c.stands_for_one.ensures form old.now image old.read trees tree (g.met.D.Disk.may_stay disk honest) (rest_stands form trees place old rest) leaves))

pub invariant_of-self-in-Ok-write_at : goal.invariant_of-self-in-Ok-write_at
invariant_of-self-in-Ok-write_at g c =
    let at = c.self.inside in
    let form = at.form in
    let tree = c.args.tree.now in
    let stored = at.stored.items in
    let may : MayStand form tree = may_of _ _ tree c.self.view_is c.requires.may in
    let new : IsNew tree.source stored =
    new_by form tree stored c.contains.result c.source.result may c.source.ensures (c.contains.ensures.new (stops_of form.table) stored c.self.invariant.set) c.if-contains.false in
    let ready : at.next ≡ WriteBody = search rules in
    let table : IsTable form.table = search rules in
    let width : 4 ≡ stop_width form = ap (λ v. byte_count (width_of v)) (sym c.self.invariant.written) in
    let body : AreBody (stop_width form) (stops_of form.table) tree c.fill_body.new.body.items =
    subst (λ (w : ℕ). AreBody w (stops_of form.table) tree c.fill_body.new.body.items) width (c.in-Ok.ensures (stops_of form.table) (few form.table table) may.within) in
    let size : c.len-extent.result ≡ length c.fill_body.new.body.items = search rules in
    let same : c.reserve.new.self.items ≡ stored = search rules in
    record {
      written = c.self.invariant.written;
      inside = λ after.
          let honest = c.write_at.ensures.honest.1 after in
          written_inside at.place c.len-extent.result c.deref-2.result.now (g.D.Disk.state at.disk) (g.D.Disk.state c.write_at.new.self)
          (omega (arith, c.self.invariant.inside honest)) (size ∙ ap length (sym c.deref-2.ensures.value)) (c.in-Ok-write_at.ensures.written honest);
      low = search rules;
      set = subst (IsSetOf (stops_of form.table) at.present) (sym same) c.self.invariant.set;
      room = search rules;
      file = λ after.
          let honest = c.write_at.ensures.honest.1 after in
          let kept = kept_by form stored at.place at.extent at.source (g.D.Disk.state at.disk) at.next ready (c.self.invariant.file honest) in
          let trees = kept.0 in
          let holds = kept.1 in
          let after_body = wrote form tree c.fill_body.new.body.items body trees at.place c.len-extent.result stored c.deref-2.result.now (g.D.Disk.state at.disk) (g.D.Disk.state c.write_at.new.self)
          holds may new size c.deref-2.ensures.value (c.in-Ok-write_at.ensures.written honest) in
          subst (λ l. IsFile SyncBody form l at.place c.len-extent.result c.source-self-inside.result (g.D.Disk.state c.write_at.new.self)) (sym same)
          (body_file form stored at.place c.len-extent.result c.source-self-inside.result (g.D.Disk.state c.write_at.new.self) trees tree holds.stored_are c.source-self-inside.ensures after_body);
    }

pub returns-in-Ok-write_at-clause-written : goal.returns-in-Ok-write_at-clause-written
returns-in-Ok-write_at-clause-written g c =
    let at = c.self.inside in
    let form = at.form in
    let tree = c.args.tree.now in
    let stored = at.stored.items in
    let may : MayStand form tree = may_of _ _ tree c.self.view_is c.requires.may in
    let table : IsTable form.table = search rules in
    let width : 4 ≡ stop_width form = ap (λ v. byte_count (width_of v)) (sym c.self.invariant.written) in
    let body : AreBody (stop_width form) (stops_of form.table) tree c.fill_body.new.body.items =
    subst (λ (w : ℕ). AreBody w (stops_of form.table) tree c.fill_body.new.body.items) width (c.in-Ok.ensures (stops_of form.table) (few form.table table) may.within) in
    let size : c.len-extent.result ≡ length c.fill_body.new.body.items = search rules in
    rw (← c.self.view_is) (λ honest. record {
      bytes = c.fill_body.new.body.items;
      body = body;
      size_is = size;
      written = c.in-Ok-write_at.ensures.written honest ∙ ap (λ (b : List ℕ). after_write (at.place + 1) b (g.D.Disk.state at.disk)) c.deref-2.ensures.value;
    })

pub returns-in-Err-clause-written : goal.returns-in-Err-clause-written
returns-in-Err-clause-written g c =
    let at = c.self.inside in
    let form = at.form in
    let tree = c.args.tree.now in
    let stored = at.stored.items in
    let may : MayStand form tree = may_of _ _ tree c.self.view_is c.requires.may in
    let table : IsTable form.table = search rules in
    let width : 4 ≡ stop_width form = ap (λ v. byte_count (width_of v)) (sym c.self.invariant.written) in
    let body : AreBody (stop_width form) (stops_of form.table) tree c.fill_body.new.body.items =
    subst (λ (w : ℕ). AreBody w (stops_of form.table) tree c.fill_body.new.body.items) width (c.in-Ok.ensures (stops_of form.table) (few form.table table) may.within) in
    rw (← c.self.view_is) (λ honest is. record {
      bytes = c.fill_body.new.body.items;
      body = body;
      failed = subst (λ (b : List ℕ). WriteFailed (at.place + 1) (length b) (g.D.Disk.state at.disk) (g.D.Disk.state c.write_at.new.self)) c.deref-2.ensures.value (c.in-Err.ensures.written honest);
    })

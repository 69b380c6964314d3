use Rattle.std.proofs.Common.{rules, ◌≡◌, ◌∙◌, List, ◌++◌, [], ◌∷◌, ap, inl, inr, refl, subst, sym, not, true, false}
use Rattle.disk_model.specs.MemDisk.{state_of}
use Rattle.pattern_tree.specs.Content.{Content}
use Rattle.section_store.specs.Fault.{CauseOf, IsTooLarge}
use Rattle.section_store.specs.Lasting.{IsExact, LosesNothing}
use Rattle.timetable.specs.Table.{IsTable}
use Rattle.section_store.specs.Sections.{Form, MayStand}
use Rattle.section_store.specs.Store.{Holds, IsBody, WroteBody, BodyFailed}
use Rattle.section_store.specs.declared.step.Step.TheVariants as N
use Rattle.planner_core.specs.Views.{ArchiveView}
use Rattle.planner_core.proofs.Calling.{after_write_body, as_before, still_archive, section_made, section_failed}
use Rattle.planner_core.proofs.archive.Archive.write_body.Goals as goal
use Rattle.planner_core.proofs.archive.Archive.write_body.Goals.{in-Ok, in-Err-Device}

pub invariant_of-self-in-Err-TooLarge : goal.invariant_of-self-in-Err-TooLarge
invariant_of-self-in-Err-TooLarge c =
    let at = c.self.inside in
    let store = at.store in
    let told = c.tell.new.store in
    let new = c.write_body.new.self in
    let same = c.tell.ensures.same in
    let section = c.tell.ensures.section in
    let stored = c.tell.ensures.stored in
    let next : store.next ≡ N.WriteBody = ap (λ (a : ArchiveView). a.next) c.self.view_is ∙ c.requires.ready in
    let is = as_before same.2 stored refl refl (sym next) section.1 same.0 section.0 c.tell.ensures.state c.self.invariant in
    let kept = c.in-Err-TooLarge.ensures.same (λ device. cc (device, c.in-Err-TooLarge.field-0-is)) in
    let after : new.next ≡ N.WriteBody = kept.2 ∙ same.1 ∙ next in
    still_archive is c.write_body.ensures.form c.write_body.ensures.stored
    (rw (after, c.write_body.ensures.place, ap (λ d. state_of d) kept.0, c.reserve.ensures.items) is.stage)

pub invariant_of-self-in-Err-Memory : goal.invariant_of-self-in-Err-Memory
invariant_of-self-in-Err-Memory c =
    let at = c.self.inside in
    let store = at.store in
    let told = c.tell.new.store in
    let new = c.write_body.new.self in
    let same = c.tell.ensures.same in
    let section = c.tell.ensures.section in
    let stored = c.tell.ensures.stored in
    let next : store.next ≡ N.WriteBody = ap (λ (a : ArchiveView). a.next) c.self.view_is ∙ c.requires.ready in
    let is = as_before same.2 stored refl refl (sym next) section.1 same.0 section.0 c.tell.ensures.state c.self.invariant in
    let kept = c.in-Err-Memory.ensures.same (λ device. cc (device, c.in-Err-Memory.field-0-is)) in
    let after : new.next ≡ N.WriteBody = kept.2 ∙ same.1 ∙ next in
    still_archive is c.write_body.ensures.form c.write_body.ensures.stored
    (rw (after, c.write_body.ensures.place, ap (λ d. state_of d) kept.0, c.reserve.ensures.items) is.stage)

pub invariant_of-self-in_err-as_told : goal.invariant_of-self-in_err-as_told
invariant_of-self-in_err-as_told c =
    let at = c.self.inside in
    let store = at.store in
    let told = c.tell.new.store in
    let new = c.write_body.new.self in
    let same = c.tell.ensures.same in
    let section = c.tell.ensures.section in
    let stored = c.tell.ensures.stored in
    let next : store.next ≡ N.WriteBody = ap (λ (a : ArchiveView). a.next) c.self.view_is ∙ c.requires.ready in
    let is = as_before same.2 stored refl refl (sym next) section.1 same.0 section.0 c.tell.ensures.state c.self.invariant in
    let tree = c.tree-content.result.now in
    let more : c.push_reserved.new.self.items ≡ at.storing.items ++ tree.source ∷ [] =
    c.push_reserved.ensures.items ∙ ap (λ l. l ++ c.source.result ∷ []) c.reserve.ensures.items ∙ ap (λ n. at.storing.items ++ n ∷ []) c.source.ensures in
    let finished = c.tree-content.ensures.finished in
    let form = same.2 ∙ ap (λ (a : ArchiveView). a.form) c.self.view_is in
    let table : c.args.tree.now.table ≡ told.form.table = c.requires.table ∙ sym (ap (λ (f : Form). f.table) form) in
    let rides : c.args.tree.now.rides ≡ told.form.rides = c.requires.rides ∙ sym (ap (λ (f : Form). f.rides) form) in
    let of_tree : IsExact told.form c.args.tree.now.tree = rw (← table, ← rides) finished.is in
    let exact : IsExact told.form tree = rw c.tree-content.ensures.value of_tree in
    still_archive is c.write_body.ensures.form c.write_body.ensures.stored
    (after_write_body told.form is.trees at.storing.items c.push_reserved.new.self.items tree new.source told.place new.place new.extent (state_of told.disk) (state_of new.disk) new.next
    is.stage (c.write_body.ensures.moments is.trees tt is.stage.rest) exact more
    (elim c.match-write_body.branch [
      | in-Ok w ↦ inl (w.in-Ok.ensures.next, w.in-Ok.ensures.body is.trees tt (record { rest = is.stage.rest; stored_are = is.stored_are }), w.in-Ok.ensures.source)
      | in-Err-Device w ↦ inr (w.in-Err-Device.ensures.failed w.in-Err-Device.field-0-is)
    ]))

pub invariant_of-self-2 : goal.invariant_of-self-2
invariant_of-self-2 c =
    let at = c.self.inside in
    let store = at.store in
    let told = c.tell.new.store in
    let new = c.write_body.new.self in
    let same = c.tell.ensures.same in
    let section = c.tell.ensures.section in
    let stored = c.tell.ensures.stored in
    let next : store.next ≡ N.WriteBody = ap (λ (a : ArchiveView). a.next) c.self.view_is ∙ c.requires.ready in
    let is = as_before same.2 stored refl refl (sym next) section.1 same.0 section.0 c.tell.ensures.state c.self.invariant in
    let tree = c.tree-content.result.now in
    let more : c.push_reserved.new.self.items ≡ at.storing.items ++ tree.source ∷ [] =
    c.push_reserved.ensures.items ∙ ap (λ l. l ++ c.source.result ∷ []) c.reserve.ensures.items ∙ ap (λ n. at.storing.items ++ n ∷ []) c.source.ensures in
    let finished = c.tree-content.ensures.finished in
    let form = same.2 ∙ ap (λ (a : ArchiveView). a.form) c.self.view_is in
    let table : c.args.tree.now.table ≡ told.form.table = c.requires.table ∙ sym (ap (λ (f : Form). f.table) form) in
    let rides : c.args.tree.now.rides ≡ told.form.rides = c.requires.rides ∙ sym (ap (λ (f : Form). f.rides) form) in
    let of_tree : IsExact told.form c.args.tree.now.tree = rw (← table, ← rides) finished.is in
    let exact : IsExact told.form tree = rw c.tree-content.ensures.value of_tree in
    still_archive is c.write_body.ensures.form c.write_body.ensures.stored
    (after_write_body told.form is.trees at.storing.items c.push_reserved.new.self.items tree new.source told.place new.place new.extent (state_of told.disk) (state_of new.disk) new.next
    is.stage (c.write_body.ensures.moments is.trees tt is.stage.rest) exact more
    (elim c.match-write_body.branch [
      | in-Ok w ↦ inl (w.in-Ok.ensures.next, w.in-Ok.ensures.body is.trees tt (record { rest = is.stage.rest; stored_are = is.stored_are }), w.in-Ok.ensures.source)
      | in-Err-Device w ↦ inr (w.in-Err-Device.ensures.failed w.in-Err-Device.field-0-is)
    ]))

pub returns : goal.returns
returns c =
    let at = c.self.inside in
    let store = at.store in
    let mid = c.tell.new.store in
    let new = c.write_body.new.self in
    let t = c.args.tree.now in
    let a = c.args.self.now in
    let v = c.self.view_is in
    let same = c.tell.ensures.same in
    let form : mid.form ≡ a.form = same.2 ∙ ap (λ (x : ArchiveView). x.form) v in
    let place : mid.place ≡ a.place = same.0 ∙ ap (λ (x : ArchiveView). x.place) v in
    let state : state_of mid.disk ≡ a.disk = c.tell.ensures.state ∙ ap (λ (x : ArchiveView). x.disk) v in
    let storing : c.push_reserved.new.self.items ≡ a.storing ++ t.tree.source ∷ [] =
    c.push_reserved.ensures.items ∙ ap (λ l. l ++ c.source.result ∷ []) (c.reserve.ensures.items ∙ ap (λ (x : ArchiveView). x.storing) v)
    ∙ ap (λ n. a.storing ++ n ∷ []) (c.source.ensures ∙ ap (λ (x : Content). x.source) c.tree-content.ensures.value) in
    let before : mid.stored ≡ a.stored = c.tell.ensures.stored ∙ ap (λ (x : ArchiveView). x.stored) v in
    let stored = c.write_body.ensures.stored ∙ before in
    let acknowledged = ap (λ (x : ArchiveView). x.acknowledged) v in
    let next : store.next ≡ N.WriteBody = ap (λ (x : ArchiveView). x.next) v ∙ c.requires.ready in
    let is = as_before same.2 c.tell.ensures.stored refl refl (sym next) c.tell.ensures.section.1 same.0 c.tell.ensures.section.0 c.tell.ensures.state c.self.invariant in
    let lasts : LosesNothing a.form a.disk (state_of new.disk) = rw (← form, ← state) (c.write_body.ensures.lasting is.trees tt is.stage.rest) in
    elim c.match-write_body.branch [
      | in-Ok w ↦
          let fails : c.args.fails ≡ false = c.in_ok-as_told.ensures ∙ ap not w.made-is in
          let small : ¬ IsTooLarge a.form t.tree a.place = rw (← form, ← place, ← c.tree-content.ensures.value) w.in-Ok.ensures.cause.3 in
          let wrote : WroteBody a.form t.tree a.place new.extent a.disk (state_of new.disk) = rw (← form, ← place, ← state, ← c.tree-content.ensures.value) (w.in-Ok.ensures.written tt) in
          let adds : (trees : List Content) → Holds a.form trees a.place a.stored a.disk → IsBody a.form trees t.tree new.place new.extent (state_of new.disk) =
          rw (← form, ← place, ← state, ← before, ← c.tree-content.ensures.value) (λ trees holds. w.in-Ok.ensures.body trees tt holds) in (
            small,
            section_made c.args.fails t a new.form new.stored new.place new.extent new.next (state_of new.disk) c.push_reserved.new.self.items at.acknowledged.items
                fails wrote w.in-Ok.ensures.next (c.write_body.ensures.form ∙ form) stored (c.write_body.ensures.place ∙ place) storing acknowledged lasts adds,
          )
      | in-Err-Device w ↦
          let fails : c.args.fails ≡ true = c.in_ok-as_told.ensures ∙ ap not w.made-is in
          let cause = subst (λ f. CauseOf _ _ _ _ _ _ f) w.in-Err-Device.field-0-is w.in-Err-Device.ensures.cause in
          let small : ¬ IsTooLarge a.form t.tree a.place = rw (← form, ← place, ← c.tree-content.ensures.value) cause.3 in
          let wrote : BodyFailed a.form t.tree a.place a.disk (state_of new.disk) = rw (← form, ← place, ← state, ← c.tree-content.ensures.value) (w.in-Err-Device.ensures.written tt w.in-Err-Device.field-0-is) in (
            small,
            section_failed c.args.fails t a new.form new.stored new.place new.extent new.next (state_of new.disk) c.push_reserved.new.self.items at.acknowledged.items
                fails wrote (w.in-Err-Device.ensures.failed w.in-Err-Device.field-0-is) (c.write_body.ensures.form ∙ form) stored (c.write_body.ensures.place ∙ place) storing acknowledged lasts,
          )
    ]

pub write_body-requires : goal.write_body-requires
write_body-requires c =
    let f = c.args.tree.now in
    let told = c.tell.new.store in
    let form = c.tell.ensures.same.2 ∙ ap (λ (a : ArchiveView). a.form) c.self.view_is in
    let table : f.table ≡ told.form.table = c.requires.table ∙ sym (ap (λ (x : Form). x.table) form) in
    let rides : f.rides ≡ told.form.rides = c.requires.rides ∙ sym (ap (λ (x : Form). x.rides) form) in
    let valid : IsTable f.table = search rules in
    let both = c.finished_may_stand.ensures f valid c.tree-content.ensures.finished in
    let made : MayStand told.form f.tree = record { within = rw (← table) both.0.within; shallow = rw (← rides) both.0.shallow } in
    record { may = rw c.tree-content.ensures.value made }

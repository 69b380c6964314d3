use Rattle.std.proofs.Common.{◌≡◌, ◌∙◌, List, OnOk, ap, not, refl, sym}
use Rattle.std.proofs.lemmas.Result.{on_ok_weaker}
use Rattle.disk_model.specs.Disk.{Syncs}
use Rattle.disk_model.specs.MemDisk.{state_of}
use Rattle.pattern_tree.specs.Content.{Content}
use Rattle.section_store.specs.Lasting.{LosesNothing}
use Rattle.section_store.specs.Store.{IsBody}
use Rattle.section_store.specs.declared.step.Step.{Step}
use Rattle.section_store.specs.declared.step.Step.TheVariants as N
use Rattle.planner_core.specs.Calls.{extent_of}
use Rattle.planner_core.specs.Views.{ArchiveView}
use Rattle.planner_core.proofs.Calling.{after_sync_body, as_before, body_kept, still_archive, synced_case}
use Rattle.planner_core.proofs.archive.Archive.sync_body.Goals as goal

pub invariant_of-self : goal.invariant_of-self
invariant_of-self c =
    let at = c.self.inside in
    let store = at.store in
    let told = c.tell.new.store in
    let new = c.sync_body.new.self in
    let same = c.tell.ensures.same in
    let section = c.tell.ensures.section in
    let stored = c.tell.ensures.stored in
    let next : store.next ≡ N.SyncBody = ap (λ (a : ArchiveView). a.next) c.self.view_is ∙ c.requires in
    let is = as_before same.2 stored refl refl (sym next) section.1 same.0 section.0 c.tell.ensures.state c.self.invariant in
    still_archive is c.sync_body.ensures.form c.sync_body.ensures.stored
    (after_sync_body told.form is.trees at.storing.items told.source told.place told.extent (state_of told.disk) is.stage c.sync_body.result new.source new.place new.extent (state_of new.disk) new.next
    (λ tree body. c.sync_body.ensures.body told.form is.trees tree tt body)
    (λ tree body. c.sync_body.ensures.moments told.form is.trees tree tt body)
    (c.sync_body.ensures.synced tt) c.sync_body.ensures.next c.sync_body.ensures.source)

pub returns : goal.returns
returns c =
    let at = c.self.inside in
    let store = at.store in
    let told = c.tell.new.store in
    let new = c.sync_body.new.self in
    let same = c.tell.ensures.same in
    let a = c.args.self.now in
    let v = c.self.view_is in
    let next : store.next ≡ N.SyncBody = ap (λ (x : ArchiveView). x.next) v ∙ c.requires in
    let place : told.place ≡ a.place = same.0 ∙ ap (λ (x : ArchiveView). x.place) v in
    let extent : told.extent ≡ a.extent = c.tell.ensures.section.0 ∙ sym (ap (λ (n : Step). extent_of n store.extent) next) ∙ ap (λ (x : ArchiveView). x.extent) v in
    let form : told.form ≡ a.form = same.2 ∙ ap (λ (x : ArchiveView). x.form) v in
    let disk : state_of told.disk ≡ a.disk = c.tell.ensures.state ∙ ap (λ (x : ArchiveView). x.disk) v in
    let synced : Syncs c.sync_body.result a.disk (state_of new.disk) = rw (← disk) (c.sync_body.ensures.synced tt) in
    let lasts : LosesNothing a.form a.disk (state_of new.disk) = rw (← disk) (c.sync_body.ensures.lasting a.form tt) in
    let keeps : OnOk c.sync_body.result ((trees : List Content) (tree : Content) → IsBody a.form trees tree a.place a.extent a.disk
    → IsBody a.form trees tree new.place new.extent (state_of new.disk)) =
    rw (← place, ← extent, ← disk) (body_kept c.sync_body.result a.form told.place told.extent new.place new.extent (state_of told.disk) (state_of new.disk)
    (λ trees tree body. c.sync_body.ensures.body a.form trees tree tt body)) in
    on_ok_weaker c.as_told.result
    (λ made.
    synced_case c.sync_body.result c.args.fails a new.form new.stored new.place new.extent new.next (state_of new.disk) at.storing.items at.acknowledged.items
    (made ∙ ap not c.is_ok-made.ensures.value) synced c.sync_body.ensures.next
    (c.sync_body.ensures.form ∙ form)
    (c.sync_body.ensures.stored ∙ c.tell.ensures.stored ∙ ap (λ (x : ArchiveView). x.stored) v)
    (c.sync_body.ensures.place ∙ place) (c.sync_body.ensures.extent ∙ extent) (ap (λ (x : ArchiveView). x.storing) v) (ap (λ (x : ArchiveView). x.acknowledged) v) lasts keeps)
    c.as_told.ensures

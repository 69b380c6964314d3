use Rattle.std.proofs.Common.{◌≡◌, ◌∙◌, ◌+◌, OnOk, List, [], ◌∷◌, ◌++◌, ap, not, refl, sym}
use Rattle.std.proofs.lemmas.Result.{on_ok_weaker}
use Rattle.disk_model.specs.Disk.{Writes}
use Rattle.disk_model.specs.MemDisk.{state_of}
use Rattle.pattern_tree.specs.Content.{Content}
use Rattle.section_store.specs.Lasting.{LosesNothing}
use Rattle.section_store.specs.Store.{IsBody, IsOpened}
use Rattle.section_store.specs.Sections.{open_gate}
use Rattle.section_store.specs.declared.step.Step.{Step}
use Rattle.section_store.specs.declared.step.Step.TheVariants as N
use Rattle.planner_core.specs.Calls.{extent_of}
use Rattle.planner_core.specs.Views.{ArchiveView}
use Rattle.planner_core.proofs.Calling.{after_open_gate, as_before, body_opened, gate_case, still_archive}
use Rattle.planner_core.proofs.archive.Archive.open_gate.Goals as goal

pub invariant_of-self : goal.invariant_of-self
invariant_of-self c =
    let at = c.self.inside in
    let store = at.store in
    let told = c.tell.new.store in
    let new = c.open_gate.new.self in
    let same = c.tell.ensures.same in
    let section = c.tell.ensures.section in
    let stored = c.tell.ensures.stored in
    let next : store.next ≡ N.OpenGate = ap (λ (a : ArchiveView). a.next) c.self.view_is ∙ c.requires in
    let is = as_before same.2 stored refl refl (sym next) section.1 same.0 section.0 c.tell.ensures.state c.self.invariant in
    still_archive is c.open_gate.ensures.form c.open_gate.ensures.stored
    (after_open_gate told.form is.trees at.storing.items told.source told.place told.extent (state_of told.disk) is.stage c.open_gate.result new.source new.place new.extent (state_of new.disk) new.next
    (λ tree body. c.open_gate.ensures.opened told.form is.trees tree tt body)
    (λ tree body durable. c.open_gate.ensures.moments told.form is.trees tree tt body durable)
    c.open_gate.ensures.next c.open_gate.ensures.source)

pub returns : goal.returns
returns c =
    let at = c.self.inside in
    let store = at.store in
    let told = c.tell.new.store in
    let new = c.open_gate.new.self in
    let same = c.tell.ensures.same in
    let a = c.args.self.now in
    let v = c.self.view_is in
    let next : store.next ≡ N.OpenGate = ap (λ (x : ArchiveView). x.next) v ∙ c.requires in
    let place : told.place ≡ a.place = same.0 ∙ ap (λ (x : ArchiveView). x.place) v in
    let extent : told.extent ≡ a.extent = c.tell.ensures.section.0 ∙ sym (ap (λ (n : Step). extent_of n store.extent) next) ∙ ap (λ (x : ArchiveView). x.extent) v in
    let disk : state_of told.disk ≡ a.disk = c.tell.ensures.state ∙ ap (λ (x : ArchiveView). x.disk) v in
    let is = as_before same.2 c.tell.ensures.stored refl refl (sym next) c.tell.ensures.section.1 same.0 c.tell.ensures.section.0 c.tell.ensures.state c.self.invariant in
    let form : told.form ≡ a.form = same.2 ∙ ap (λ (x : ArchiveView). x.form) v in
    let at_gate = is.stage.at in
    let lasts : LosesNothing a.form a.disk (state_of new.disk) =
    rw (← form, ← disk) (c.open_gate.ensures.lasting told.form is.trees is.stage.tree tt at_gate.1 at_gate.2) in
    let written : Writes a.place (open_gate ∷ []) c.open_gate.result a.disk (state_of new.disk) = rw (← place, ← disk) (c.open_gate.ensures.written tt) in
    let opens : OnOk c.open_gate.result ((trees : List Content) (tree : Content) → IsBody a.form trees tree a.place a.extent a.disk
    → IsOpened a.form (trees ++ tree ∷ []) (new.place + new.extent) (state_of new.disk)) =
    rw (← place, ← extent, ← disk) (body_opened c.open_gate.result a.form told.place told.extent new.place new.extent (state_of told.disk) (state_of new.disk)
    (λ trees tree body. c.open_gate.ensures.opened a.form trees tree tt body)) in
    on_ok_weaker c.as_told.result
    (λ made.
    gate_case c.open_gate.result c.args.fails a new.form new.stored new.place new.extent new.next (state_of new.disk) at.storing.items at.acknowledged.items
    (made ∙ ap not c.is_ok-made.ensures.value) written c.open_gate.ensures.next
    (c.open_gate.ensures.form ∙ same.2 ∙ ap (λ (x : ArchiveView). x.form) v)
    (c.open_gate.ensures.stored ∙ c.tell.ensures.stored ∙ ap (λ (x : ArchiveView). x.stored) v)
    (c.open_gate.ensures.place ∙ place) (c.open_gate.ensures.extent ∙ extent) (ap (λ (x : ArchiveView). x.storing) v) (ap (λ (x : ArchiveView). x.acknowledged) v) lasts opens)
    c.as_told.ensures

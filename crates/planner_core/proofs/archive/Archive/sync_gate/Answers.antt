use Rattle.std.proofs.Common.{◌≡◌, ◌∙◌, ◌+◌, ◌++◌, OnOk, List, [], ◌∷◌, ap, is_ok, not, refl, sym}
use Rattle.std.specs.Prelude.{MatchResult}
use Rattle.std.proofs.lemmas.Result.{on_ok_weaker}
use Rattle.disk_model.specs.Disk.{after_sync}
use Rattle.disk_model.specs.MemDisk.{state_of}
use Rattle.pattern_tree.specs.Content.{Content}
use Rattle.section_store.specs.Lasting.{LosesNothing}
use Rattle.section_store.specs.Store.{IsOpened, IsRest}
use Rattle.section_store.specs.declared.step.Step.{Step}
use Rattle.section_store.specs.declared.step.Step.TheVariants as N
use Rattle.planner_core.specs.Calls.{extent_of}
use Rattle.planner_core.specs.Views.{ArchiveView}
use Rattle.planner_core.proofs.Calling.{after_sync_gate, as_before, put_rests, receipt_case, same_source}
use Rattle.planner_core.proofs.archive.Archive.sync_gate.Goals.{then-made, else-made}
use Rattle.planner_core.proofs.archive.Archive.sync_gate.Goals as goal

pub invariant_of-self-then-made : goal.invariant_of-self-then-made
invariant_of-self-then-made c =
    let at = c.self.inside in
    let store = at.store in
    let told = c.tell.new.store in
    let new = c.sync_gate.new.self in
    let same = c.tell.ensures.same in
    let section = c.tell.ensures.section in
    let stored = c.tell.ensures.stored in
    let v = c.self.view_is in
    let next : store.next ≡ N.SyncGate = ap (λ (a : ArchiveView). a.next) v ∙ c.requires.ready in
    let is = as_before same.2 stored refl refl (sym next) section.1 same.0 section.0 c.tell.ensures.state c.self.invariant in
    let storing : at.storing.items ≡ told.stored ++ c.args.source ∷ [] =
    ap (λ (a : ArchiveView). a.storing) v ∙ c.requires.source ∙ ap (λ (a : ArchiveView). a.stored ++ c.args.source ∷ []) (sym v) ∙ ap (λ l. l ++ c.args.source ∷ []) (sym stored) in
    let answer : c.is_ok-made.result ≡ is_ok c.sync_gate.result = c.is_ok-made.ensures.value in
    after_sync_gate told.form new.form told.stored new.stored at.storing.items at.acknowledged.items c.push_reserved.new.self.items told.source told.place told.extent (state_of told.disk)
    is c.sync_gate.result new.source new.place new.extent (state_of new.disk) new.next c.args.source
    (λ trees opened. c.sync_gate.ensures.rest told.form trees tt opened) (c.sync_gate.ensures.synced tt) c.sync_gate.ensures.next c.sync_gate.ensures.stored c.sync_gate.ensures.form storing
    (rw (sym answer ∙ c.if-made.true) (c.push_reserved.ensures.items ∙ ap (λ l. l ++ c.args.source ∷ []) c.reserve.ensures.items))

pub invariant_of-self-else-made : goal.invariant_of-self-else-made
invariant_of-self-else-made c =
    let at = c.self.inside in
    let store = at.store in
    let told = c.tell.new.store in
    let new = c.sync_gate.new.self in
    let same = c.tell.ensures.same in
    let section = c.tell.ensures.section in
    let stored = c.tell.ensures.stored in
    let v = c.self.view_is in
    let next : store.next ≡ N.SyncGate = ap (λ (a : ArchiveView). a.next) v ∙ c.requires.ready in
    let is = as_before same.2 stored refl refl (sym next) section.1 same.0 section.0 c.tell.ensures.state c.self.invariant in
    let storing : at.storing.items ≡ told.stored ++ c.args.source ∷ [] =
    ap (λ (a : ArchiveView). a.storing) v ∙ c.requires.source ∙ ap (λ (a : ArchiveView). a.stored ++ c.args.source ∷ []) (sym v) ∙ ap (λ l. l ++ c.args.source ∷ []) (sym stored) in
    let answer : c.is_ok-made.result ≡ is_ok c.sync_gate.result = c.is_ok-made.ensures.value in
    after_sync_gate told.form new.form told.stored new.stored at.storing.items at.acknowledged.items c.reserve.new.self.items told.source told.place told.extent (state_of told.disk)
    is c.sync_gate.result new.source new.place new.extent (state_of new.disk) new.next c.args.source
    (λ trees opened. c.sync_gate.ensures.rest told.form trees tt opened) (c.sync_gate.ensures.synced tt) c.sync_gate.ensures.next c.sync_gate.ensures.stored c.sync_gate.ensures.form storing
    (rw (sym answer ∙ c.if-made.false) c.reserve.ensures.items)

pub returns : goal.returns
returns c =
    let at = c.self.inside in
    let store = at.store in
    let told = c.tell.new.store in
    let new = c.sync_gate.new.self in
    let same = c.tell.ensures.same in
    let section = c.tell.ensures.section in
    let stored = c.tell.ensures.stored in
    let a = c.args.self.now in
    let v = c.self.view_is in
    let next : store.next ≡ N.SyncGate = ap (λ (x : ArchiveView). x.next) v ∙ c.requires.ready in
    let is = as_before same.2 stored refl refl (sym next) section.1 same.0 section.0 c.tell.ensures.state c.self.invariant in
    let storing : at.storing.items ≡ told.stored ++ c.args.source ∷ [] =
    ap (λ (x : ArchiveView). x.storing) v ∙ c.requires.source ∙ ap (λ (x : ArchiveView). x.stored ++ c.args.source ∷ []) (sym v) ∙ ap (λ l. l ++ c.args.source ∷ []) (sym stored) in
    let source : c.args.source ≡ told.source = same_source told.form told.stored at.storing.items at.acknowledged.items told.source told.place told.extent (state_of told.disk) is c.args.source storing in
    let answer : c.is_ok-made.result ≡ is_ok c.sync_gate.result = c.is_ok-made.ensures.value in
    let place : told.place ≡ a.place = same.0 ∙ ap (λ (x : ArchiveView). x.place) v in
    let extent : told.extent ≡ a.extent = section.0 ∙ sym (ap (λ (n : Step). extent_of n store.extent) next) ∙ ap (λ (x : ArchiveView). x.extent) v in
    let disk : state_of told.disk ≡ a.disk = c.tell.ensures.state ∙ ap (λ (x : ArchiveView). x.disk) v in
    let before : told.stored ≡ a.stored = stored ∙ ap (λ (x : ArchiveView). x.stored) v in
    let synced : MatchResult c.sync_gate.result (λ _. state_of new.disk ≡ after_sync a.disk) (λ _. state_of new.disk ≡ a.disk) = rw (← disk) (c.sync_gate.ensures.synced tt) in
    let grown : MatchResult c.sync_gate.result (λ _. new.stored ≡ a.stored ++ c.args.source ∷ []) (λ _. new.stored ≡ a.stored) = rw (source, ← before) c.sync_gate.ensures.stored in
    let moved : MatchResult c.sync_gate.result (λ _. new.place ≡ a.place + a.extent) (λ _. new.place ≡ a.place) = rw (← place, ← extent) c.sync_gate.ensures.place in
    let lasts : LosesNothing a.form a.disk (state_of new.disk) = rw (← disk) (c.sync_gate.ensures.lasting a.form tt) in
    let going : new.form ≡ a.form = c.sync_gate.ensures.form ∙ same.2 ∙ ap (λ (x : ArchiveView). x.form) v in
    let noted : at.storing.items ≡ a.storing = ap (λ (x : ArchiveView). x.storing) v in
    let held : c.reserve.new.self.items ≡ a.acknowledged = c.reserve.ensures.items ∙ ap (λ (x : ArchiveView). x.acknowledged) v in
    let rests : OnOk c.sync_gate.result ((trees : List Content) → IsOpened a.form trees (a.place + a.extent) a.disk → IsRest a.form trees new.place (state_of new.disk)) =
    rw (← place, ← extent, ← disk) (put_rests c.sync_gate.result a.form (told.place + told.extent) new.place (state_of told.disk) (state_of new.disk)
    (λ trees opened. c.sync_gate.ensures.rest a.form trees tt opened)) in
    elim c.if-made.branch [
      | then-made w ↦ rw w.self-is (on_ok_weaker c.as_told.result
          (λ made.
          receipt_case c.sync_gate.result c.args.fails c.args.source a new.form new.stored new.place new.extent new.next (state_of new.disk) at.storing.items w.push_reserved.new.self.items
          (made ∙ ap not answer) synced c.sync_gate.ensures.next going grown moved noted
          (rw (sym answer ∙ w.if-made.true) (w.push_reserved.ensures.items ∙ ap (λ l. l ++ c.args.source ∷ []) held)) lasts rests)
          c.as_told.ensures)
      | else-made w ↦ rw w.self-is (on_ok_weaker c.as_told.result
          (λ made.
          receipt_case c.sync_gate.result c.args.fails c.args.source a new.form new.stored new.place new.extent new.next (state_of new.disk) at.storing.items c.reserve.new.self.items
          (made ∙ ap not answer) synced c.sync_gate.ensures.next going grown moved noted
          (rw (sym answer ∙ w.if-made.false) held) lasts rests)
          c.as_told.ensures)
    ]

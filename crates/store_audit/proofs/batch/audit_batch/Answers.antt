use Rattle.std.proofs.Common.{◌≡◌, ◌∙◌, ◌++◌, List, length, take, drop, arith, subst, sym, Result, Ok, Err, OnOk}
use Rattle.std.proofs.lemmas.List.{take_at}
use Rattle.std.specs.List.{AllZip}
use Rattle.section_store.specs.Sections.{form_of}
use Rattle.store_audit.specs.Hands.{AreInHand, Gathers, IsDone}
use Rattle.store_audit.specs.declared.due.Due.{Due}
use Rattle.store_audit.proofs.HandFacts.{batch_done}
use Rattle.store_audit.proofs.ListFacts.{zip_each}
use Rattle.store_audit.proofs.batch.audit_batch.Goals as goal

-- what is so if all went well
done_then : {T E : Type 0} (r : Result T E) (P Q : Type 0) → (P → Q) → OnOk r P → OnOk r Q
done_then (Ok x) P Q f p = f p
done_then (Err e) P Q f p = tt

pub returns : goal.returns
returns g c =
    let form = form_of c.args.crew.now.network.now c.args.crew.now.rides in
    let before = c.args.done.now.items in
    let after = c.gather.new.done.items in
    let waited : List Due = c.args.batch.now.items in
    let old : List Due = c.deref_mut.result.now in
    let new : List Due = c.audit_each.new.due in
    let len = c.args.batch.now.len in
    let long : length new ≡ len = omega (arith, c.audit_each.ensures.len, c.deref_mut.ensures.len) in
    let whole : take len (new ++ drop (length new) waited) ≡ new = take_at new (drop (length new) waited) len long in
    let zipped : AllZip (IsDone form) old new = zip_each (IsDone form) old new c.audit_each.ensures.len c.audit_each.ensures.each in
    done_then c.gather.result (Gathers c.deref.result.now before after) _
    (λ gathered trees rest h.
    batch_done form trees before after old new rest
    (subst (λ (l : List Due). AreInHand form trees before (l ++ rest)) (sym c.deref_mut.ensures.value) h) zipped
    (subst (λ (l : List Due). Gathers l before after) (c.deref.ensures.value ∙ whole) gathered))
    c.gather.ensures

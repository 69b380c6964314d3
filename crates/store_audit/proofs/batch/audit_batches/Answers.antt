use Rattle.std.proofs.Common.{◌≡◌, ◌∙◌, ◌∷◌, [], List, length, arith, ap, refl, subst, sym}
use Rattle.std.specs.Global.{Vec}
use Rattle.std.specs.Vec.Iter.{into_iter_items}
use Rattle.section_store.specs.Sections.{form_of}
use Rattle.store_audit.specs.Hands.{AreInHand, joined}
use Rattle.store_audit.specs.declared.due.Due.{Due}
use Rattle.store_audit.proofs.batch.audit_batches.Goals as goal

nothing_left : {X : Type 0} (l : List X) → length l ≡ 0 → l ≡ []
nothing_left [] h = refl
nothing_left (x ∷ xs) h = absurd (omega arith)

pub loop-batch-preserved : goal.loop-batch-preserved
loop-batch-preserved g c =
    let at = c.loop-batch in
    let batch : Vec Due = c.in-Some.batch in
    let steps : into_iter_items at.batch-iterator ≡ batch ∷ into_iter_items c.next.new.self = c.in-Some.ensures.steps.0 in
    let form = form_of c.args.crew.now.network.now c.args.crew.now.rides in
    record {
      count = let was = at.invariant.count in let gone = c.in-Some.ensures.steps.1 in let short = ap length steps in omega arith;
      hand = λ trees h. c.in_ok-audit_batch.ensures trees (joined (into_iter_items c.next.new.self))
          (subst (λ (l : List (Vec Due)). AreInHand form trees at.done.items (joined l)) steps (at.invariant.hand trees h));
    }

pub returns : goal.returns
returns g c = λ trees h.
    let at = c.loop-batch in
    let none = c.in-None.ensures.steps in
    let form = form_of c.args.crew.now.network.now c.args.crew.now.rides in
    let empty : into_iter_items at.batch-iterator ≡ [] = nothing_left _ (sym at.invariant.count ∙ none.0) in
    let all : into_iter_items c.into_iter-batch-iterator.result ≡ c.args.batches.items = c.into_iter-batch-iterator.ensures.into_iter_gives.0 in
    subst (λ (l : List (Vec Due)). AreInHand form trees at.done.items (joined l)) empty
    (at.invariant.hand trees (subst (λ (l : List (Vec Due)). AreInHand form trees c.args.done.now.items (joined l)) (sym all) h))

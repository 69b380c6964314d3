use Rattle.std.proofs.Common.{◌≡◌, ◌∙◌, ◌∷◌, ◌++◌, [], List, ap, append_assoc, append-nil, sym}
use Rattle.std.specs.Global.{Vec}
use Rattle.store_audit.specs.Hands.{joined}
use Rattle.store_audit.specs.declared.due.Due.{Due}
use Rattle.store_audit.proofs.HandFacts.{joined_more}
use Rattle.store_audit.proofs.waiting.WaitingKeeper.take.Goals as goal

pub returns-then-len-self : goal.returns-then-len-self
returns-then-len-self g c =
    let own = c.args.self.now in
    record {
      due = c.in_ok-of.field-0;
      held = c.in_ok-of.ensures;
      are = ap (λ (l : List Due). joined own.whole.items ++ l) c.in_ok-push.ensures.items
          ∙ sym (append_assoc (joined own.whole.items) own.last.items (c.in_ok-of.field-0 ∷ []));
    }

pub returns : goal.returns
returns g c =
    let own = c.args.self.now in
    let one : Due = c.in_ok-of.field-0 in
    let batch : Vec Due = c.replace-batch.result in
    let before : List Due = joined own.whole.items in
    let full : batch.items ≡ own.last.items ++ one ∷ [] = ap (λ (v : Vec Due). v.items) c.replace-batch.ensures.value ∙ c.in_ok-push.ensures.items in
    let none : c.replace-batch.new.dest.items ≡ [] = ap (λ (v : Vec Due). v.items) c.replace-batch.ensures.after ∙ c.new.ensures.items in
    let whole : joined c.push-2.new.self.items ≡ before ++ (own.last.items ++ one ∷ []) =
    ap joined c.in_ok-push-2.ensures.items ∙ joined_more own.whole.items batch ∙ ap (λ (l : List Due). before ++ l) full in
    record {
      due = one;
      held = c.in_ok-of.ensures;
      are = ap (λ (l : List Due). l ++ c.replace-batch.new.dest.items) whole
          ∙ ap (λ (l : List Due). (before ++ (own.last.items ++ one ∷ [])) ++ l) none
          ∙ append-nil (before ++ (own.last.items ++ one ∷ []))
          ∙ sym (append_assoc before own.last.items (one ∷ []));
    }

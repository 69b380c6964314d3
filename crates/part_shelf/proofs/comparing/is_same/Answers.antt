use Rattle.std.proofs.Common.{◌≡◌, ◌↔◌, IsTrue, ℕ, List, take, drop, sym, subst}
use Rattle.section_store.specs.Sections.{IsSection}
use Rattle.merging.specs.Reads.{IsSteady}
use Rattle.part_shelf.proofs.ComparingFacts.{text_steady}
use Rattle.part_shelf.proofs.ReadingFacts.{same_texts}
use Rattle.part_shelf.proofs.comparing.is_same.Goals as goal

pub returns-in-Ok-clause-same : goal.returns-in-Ok-clause-same
returns-in-Ok-clause-same g c = λ form states tree other honest here are within at_spot at_entry.
    let left = c.read_spot.new.text.items in
    let right = c.read_text.new.text.items in
    let l : IsSection form left other = c.in_default.ensures.text form states other honest are within at_spot in
    let read : right ≡ take c.args.entry.now.size (drop c.args.entry.now.place (g.D.Disk.state c.args.disk.now).read) = c.in-Ok.ensures.text here at_entry.within in
    let r : IsSection form right tree = subst (λ (z : List ℕ). IsSection form z tree) (sym read) at_entry.section in
    let told : IsTrue c.same_bytes.result ↔ left ≡ right =
    subst (λ (z : List ℕ). IsTrue c.same_bytes.result ↔ z ≡ right) c.deref.ensures.value
    (subst (λ (z : List ℕ). IsTrue c.same_bytes.result ↔ c.deref.result.now ≡ z) c.deref-in-Ok.ensures.value c.same_bytes.ensures) in
    same_texts c.texts_apart.ensures c.one_text.ensures form left right tree other c.same_bytes.result l r told

pub returns-in-Err-clause-same : goal.returns-in-Err-clause-same
returns-in-Err-clause-same g c = λ form states tree other honest here are within at_spot at_entry.
    subst IsSteady (sym c.of_text.ensures)
    (text_steady c.args.spot.part c.in-Err.fault (c.in-Err.ensures.text form states other honest are within at_spot))

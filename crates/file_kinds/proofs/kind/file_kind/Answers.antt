use Rattle.std.proofs.Common.{rules, ◌≡◌, ◌≢◌, ◌⊎◌, ◌<◌, length, take, get_or, sym, ◌∙◌, ap, subst}
use Rattle.std.proofs.lemmas.Bool.{false≢true}
use Rattle.disk_model.specs.Disk.{State}
use Rattle.section_store.specs.Beginnings.{CanBegin}
use Rattle.section_store.specs.Sections.{form_of, open_gate}
use Rattle.file_kinds.specs.Kinds.{IsNamedAfterGate}
use Rattle.file_kinds.proofs.FirstBytes.{kept_out, named_read, named_head}
use Rattle.file_kinds.proofs.kind.file_kind.Goals as goal

pub returns-in-Ok-false-clause-kind : goal.returns-in-Ok-false-clause-kind
returns-in-Ok-false-clause-kind g c = λ honest.
    let form = form_of c.args.table.now c.args.rides in
    let read = (g.D.Disk.state c.args.disk.now).read in
    let head = c.read_up_to.new.out.items in
    let there = c.in-Ok.ensures.honest.0 honest in
    let seen = c.in_ok-read_up_to.ensures.same there ∙ c.in-Ok.ensures.same honest in
    let is : head ≡ take 15 read = c.in_ok-read_up_to.ensures.bytes there ∙ ap (λ (s : State). take 15 s.read) (c.in-Ok.ensures.same honest) in
    let shut : (length head < 15) ⊎ (get_or head 0 0 ≢ open_gate) = search rules in
    let none : CanBegin form read → ⊥ = λ can.
    false≢true (sym c.in-Ok-false.field-0-test ∙ (c.in-Ok-false.ensures.can (c.in_ok-read_up_to.ensures.honest.0 there)).1 (subst (λ (s : State). CanBegin form s.read) (sym seen) can)) in
    (kept_out read head is form shut none, named_read read head is (subst IsNamedAfterGate c.deref-2.ensures.value (c.is_named-named.ensures.0 c.if-named.true)))

pub returns-clause-kind : goal.returns-clause-kind
returns-clause-kind g c = λ honest.
    let form = form_of c.args.table.now c.args.rides in
    let read = (g.D.Disk.state c.args.disk.now).read in
    let head = c.read_up_to.new.out.items in
    let there = c.in-Ok.ensures.honest.0 honest in
    let seen = c.in_ok-read_up_to.ensures.same there ∙ c.in-Ok.ensures.same honest in
    let is : head ≡ take 15 read = c.in_ok-read_up_to.ensures.bytes there ∙ ap (λ (s : State). take 15 s.read) (c.in-Ok.ensures.same honest) in
    let shut : (length head < 15) ⊎ (get_or head 0 0 ≢ open_gate) = search rules in
    let none : CanBegin form read → ⊥ = λ can.
    false≢true (sym c.in-Ok-false.field-0-test ∙ (c.in-Ok-false.ensures.can (c.in_ok-read_up_to.ensures.honest.0 there)).1 (subst (λ (s : State). CanBegin form s.read) (sym seen) can)) in (
      kept_out read head is form shut none,
      λ named.
          false≢true (sym c.if-named.false ∙ c.is_named-named.ensures.1 (subst IsNamedAfterGate (sym c.deref-2.ensures.value) (named_head read head is named))),
    )

use Rattle.std.proofs.Common.{rules, ◌≡◌, ◌↔◌, IsTrue, true, false, [], List, ℕ, All, length, take, sym, ◌∙◌, ap, subst}
use Rattle.std.proofs.lemmas.Bool.{false≢true}
use Rattle.std.specs.Arc.{arc_value}
use Rattle.disk_model.specs.Moments.{LeavesOnly}
use Rattle.pattern_tree.specs.Content.{Content}
use mathlib.Core.List.{IsPrefix}
use Rattle.section_store.specs.Lasting.{IsExact, StaysTrusted}
use Rattle.section_store.specs.Sections.{Form, AreApart, form_of, old_form_of, sources}
use Rattle.recovery.specs.Recovery.{StandsAsBefore}
use Rattle.migration.specs.Migration.{Migrates, OneIsTooLarge}
use Rattle.migration.proofs.Apart.{stands_apart}
use Rattle.migration.proofs.Fronts.{take_front}
use Rattle.migration.proofs.Joining.{whole, exact_now, joined}
use Rattle.migration.proofs.Steps.{moved_goes, moved_holds}
use Rattle.migration.proofs.migrating.migrate.Goals as goal

pub returns-then-not-begin-clause-stopped : goal.returns-then-not-begin-clause-stopped
returns-then-not-begin-clause-stopped g c = λ honest_old honest_new.
    let form = form_of (arc_value c.args.table.now) c.args.rides in
    let trees = c.in-Ok.read.1.items in
    let found = c.in-Ok-recover.recovered.trees.items in
    let target = g.E.Disk.state c.args.target in
    let begins : IsTrue c.in-Ok-begin_with.begin ↔ IsPrefix found trees =
    subst (λ (l : List Content). IsTrue c.in-Ok-begin_with.begin ↔ IsPrefix l trees) c.deref-in-Ok-recover.ensures.value
    (subst (λ (l : List Content). IsTrue c.in-Ok-begin_with.begin ↔ IsPrefix c.deref-in-Ok-recover.result.now l) c.deref.ensures.value c.in-Ok-begin_with.ensures) in
    let differs : c.in-Ok-begin_with.begin ≡ false = search rules in (
      trees,
      record { stands = c.in-Ok.ensures.stands honest_old; settled = c.in-Ok.ensures.settled honest_old },
      record {
        found = found;
        stands = c.in-Ok-recover.ensures.stands honest_new;
        other = λ front. false≢true (sym differs ∙ begins.1 front);
        before = subst (λ d. LeavesOnly target (g.E.Disk.state d) (StandsAsBefore form target)) (sym c.into_disk-then-not-begin.ensures) (c.in-Ok-recover.ensures.opening honest_new).leaves;
      },
    )

pub returns-in-Err-put_rest-clause-stopped : goal.returns-in-Err-put_rest-clause-stopped
returns-in-Err-put_rest-clause-stopped g c = λ honest_old honest_new.
    let was = old_form_of (arc_value c.args.table.now) c.args.rides in
    let form = form_of (arc_value c.args.table.now) c.args.rides in
    let trees = c.in-Ok.read.1.items in
    let found = c.in-Ok-recover.recovered.trees.items in
    let store = c.in-Ok-recover.recovered.store in
    let old = g.D.Disk.state c.args.source in
    let target = g.E.Disk.state c.args.target in
    let mid = g.E.Disk.state store.disk in
    let new = g.E.Disk.state c.put_rest.new.store.disk in
    let begins : IsTrue c.in-Ok-begin_with.begin ↔ IsPrefix found trees =
    subst (λ (l : List Content). IsTrue c.in-Ok-begin_with.begin ↔ IsPrefix l trees) c.deref-in-Ok-recover.ensures.value
    (subst (λ (l : List Content). IsTrue c.in-Ok-begin_with.begin ↔ IsPrefix c.deref-in-Ok-recover.result.now l) c.deref.ensures.value c.in-Ok-begin_with.ensures) in
    let same : c.in-Ok-begin_with.begin ≡ true = search rules in
    let front = begins.0 same in
    let list = c.deref-in-Ok-begin_with.result.now in
    let list_is : list ≡ trees = c.deref-in-Ok-begin_with.ensures.value in
    let count : c.len.result ≡ length found = search rules in
    let part : take c.len.result list ≡ found = ap (λ (n : ℕ). take n list) count ∙ ap (λ (l : List Content). take (length found) l) list_is ∙ take_front found trees front in
    let h1 = c.in-Ok-recover.ensures.honest.0 honest_new in
    let form_is : store.form ≡ form = c.in-Ok-recover.ensures.ready.1 in
    let holds = c.in-Ok-recover.ensures.holds honest_new in
    let held = moved_holds store.form form found (take c.len.result list) store.place store.stored mid (sym form_is) (sym part) holds in
    let goes = moved_goes form store.form (take c.len.result list) found list trees mid new form_is part list_is (c.put_rest.ensures.goes h1 held) in
    let trusts : All (IsExact form) trees → StaysTrusted form mid new = λ exact.
    subst (λ (f : Form). StaysTrusted f mid new) form_is
    (c.put_rest.ensures.trusted h1 held (subst (λ (f : Form). All (IsExact f) list) (sym form_is) (subst (All (IsExact form)) (sym list_is) exact))) in
    let all : Migrates was form old target new trees =
    joined was form old target mid new trees found front (c.in-Ok-recover.ensures.opening honest_new).leaves
    (c.goes_between.ensures.rest form found found found store.place store.stored mid holds (whole found) (whole found)) goes
    (λ trusted. exact_now (arc_value c.args.table.now) c.args.rides trees (c.in-Ok.ensures.exact honest_old trusted)) trusts in (
      trees,
      record { stands = c.in-Ok.ensures.stands honest_old; settled = c.in-Ok.ensures.settled honest_old },
      subst (λ d. Migrates was form old target (g.E.Disk.state d) trees) (sym c.into_disk-in-Err-put_rest.ensures) all,
      c.in-Err-put_rest.ensures.apart h1 held (subst (λ (l : List Content). AreApart [] (sources l)) (sym list_is) (stands_apart was old.read trees (c.in-Ok.ensures.stands honest_old))),
      λ is. subst (λ (f : Form). OneIsTooLarge f trees) form_is (subst (OneIsTooLarge store.form) list_is (c.in-Err-put_rest.ensures.large is)),
    )

pub returns-clause-done : goal.returns-clause-done
returns-clause-done g c = λ honest_old honest_new.
    let was = old_form_of (arc_value c.args.table.now) c.args.rides in
    let form = form_of (arc_value c.args.table.now) c.args.rides in
    let trees = c.in-Ok.read.1.items in
    let found = c.in-Ok-recover.recovered.trees.items in
    let store = c.in-Ok-recover.recovered.store in
    let last = c.put_rest.new.store in
    let old = g.D.Disk.state c.args.source in
    let target = g.E.Disk.state c.args.target in
    let mid = g.E.Disk.state store.disk in
    let new = g.E.Disk.state last.disk in
    let begins : IsTrue c.in-Ok-begin_with.begin ↔ IsPrefix found trees =
    subst (λ (l : List Content). IsTrue c.in-Ok-begin_with.begin ↔ IsPrefix l trees) c.deref-in-Ok-recover.ensures.value
    (subst (λ (l : List Content). IsTrue c.in-Ok-begin_with.begin ↔ IsPrefix c.deref-in-Ok-recover.result.now l) c.deref.ensures.value c.in-Ok-begin_with.ensures) in
    let same : c.in-Ok-begin_with.begin ≡ true = search rules in
    let front = begins.0 same in
    let list = c.deref-in-Ok-begin_with.result.now in
    let list_is : list ≡ trees = c.deref-in-Ok-begin_with.ensures.value in
    let count : c.len.result ≡ length found = search rules in
    let part : take c.len.result list ≡ found = ap (λ (n : ℕ). take n list) count ∙ ap (λ (l : List Content). take (length found) l) list_is ∙ take_front found trees front in
    let h1 = c.in-Ok-recover.ensures.honest.0 honest_new in
    let form_is : store.form ≡ form = c.in-Ok-recover.ensures.ready.1 in
    let holds = c.in-Ok-recover.ensures.holds honest_new in
    let held = moved_holds store.form form found (take c.len.result list) store.place store.stored mid (sym form_is) (sym part) holds in
    let goes = moved_goes form store.form (take c.len.result list) found list trees mid new form_is part list_is (c.put_rest.ensures.goes h1 held) in
    let trusts : All (IsExact form) trees → StaysTrusted form mid new = λ exact.
    subst (λ (f : Form). StaysTrusted f mid new) form_is
    (c.put_rest.ensures.trusted h1 held (subst (λ (f : Form). All (IsExact f) list) (sym form_is) (subst (All (IsExact form)) (sym list_is) exact))) in
    let all : Migrates was form old target new trees =
    joined was form old target mid new trees found front (c.in-Ok-recover.ensures.opening honest_new).leaves
    (c.goes_between.ensures.rest form found found found store.place store.stored mid holds (whole found) (whole found)) goes
    (λ trusted. exact_now (arc_value c.args.table.now) c.args.rides trees (c.in-Ok.ensures.exact honest_old trusted)) trusts in (
      trees,
      record { stands = c.in-Ok.ensures.stands honest_old; settled = c.in-Ok.ensures.settled honest_old },
      all,
      moved_holds form store.form list trees last.place last.stored new form_is list_is (c.in-Ok-put_rest.ensures.holds h1 held),
    )

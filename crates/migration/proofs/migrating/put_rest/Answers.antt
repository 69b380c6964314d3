use Rattle.std.proofs.Common.{rules, arith, ◌+◌, ◌<◌, ◌≤◌, ◌++◌, [], ◌∷◌, List, length, take, refl, sym, ◌∙◌, subst}
use Rattle.std.proofs.lemmas.List.{take_all}
use Rattle.std.proofs.lemmas.Result.{err_from_is_err_and}
use Rattle.disk_model.specs.Moments.{LeavesOnly}
use Rattle.pattern_tree.specs.Content.{Content}
use Rattle.section_store.specs.Fault.{IsTooLarge}
use Rattle.section_store.specs.Lasting.{IsExact, LosesNothing, StaysTrusted}
use Rattle.section_store.specs.Sections.{Form, IsBeforeOrAfter}
use Rattle.section_store.specs.Store.{Holds}
use Rattle.migration.proofs.Apart.{new_tree, not_stored}
use Rattle.migration.proofs.Steps.{one_put, held_more, to_all, moved_holds, too_large}
use Rattle.migration.proofs.migrating.put_rest.Goals as goal

pub returns-in_err-put_tree-clause-goes : goal.returns-in_err-put_tree-clause-goes
returns-in_err-put_tree-clause-goes g c = λ honest holds.
    let form = c.args.store.now.form in
    let at = c.loop-i.store in
    let inv = c.loop-i.invariant in
    let trees = c.args.trees.now in
    let tree : Content = c.index-trees-i.result in
    let i = c.loop-i.i in
    let lt : i < length trees = search rules in
    let s0 = g.E.Disk.state c.args.store.now.disk in
    let s1 = g.E.Disk.state at.disk in
    let s2 = g.E.Disk.state c.put_tree.new.self.disk in
    let h1 = inv.honest.0 honest in
    let here = moved_holds at.form form (take i trees) (take i trees) at.place at.stored s1 (sym inv.form) refl (inv.holds honest holds) in
    let moments = subst (λ (f : Form). LeavesOnly s1 s2 (IsBeforeOrAfter f (take i trees) tree)) inv.form (c.put_tree.ensures.moments (take i trees) h1 here) in
    let loses = subst (λ (f : Form). LosesNothing f s1 s2) inv.form (c.put_tree.ensures.lasting (take i trees) h1 here) in
    let laws = c.goes_between.ensures in
    to_all laws.nothing laws.put laws.turn form trees c.args.from (i + 1) (omega (arith, inv.from)) s0 s2
    (one_put laws.nothing laws.put laws.turn form trees c.args.from i tree lt inv.from tree c.index-trees-i.is s0 s1 s2 (inv.goes honest holds) moments loses)

pub returns-in_err-put_tree-clause-trusted : goal.returns-in_err-put_tree-clause-trusted
returns-in_err-put_tree-clause-trusted g c = λ honest holds exact.
    let form = c.args.store.now.form in
    let at = c.loop-i.store in
    let inv = c.loop-i.invariant in
    let trees = c.args.trees.now in
    let tree : Content = c.index-trees-i.result in
    let i = c.loop-i.i in
    let lt : i < length trees = search rules in
    let s0 = g.E.Disk.state c.args.store.now.disk in
    let s1 = g.E.Disk.state at.disk in
    let s2 = g.E.Disk.state c.put_tree.new.self.disk in
    let h1 = inv.honest.0 honest in
    let here = moved_holds at.form form (take i trees) (take i trees) at.place at.stored s1 (sym inv.form) refl (inv.holds honest holds) in
    let one : IsExact form tree = subst (IsExact form) (sym c.index-trees-i.is) (exact i tree lt) in
    let step = subst (λ (f : Form). StaysTrusted f s1 s2) inv.form (c.put_tree.ensures.trusted (take i trees) h1 here (subst (λ (f : Form). IsExact f tree) (sym inv.form) one)) in
    c.goes_on.ensures.trust form s0 s1 s2 (inv.trusted honest holds exact) step

pub loop-i-preserved : goal.loop-i-preserved
loop-i-preserved g c =
    let form = c.args.store.now.form in
    let at = c.loop-i.store in
    let new = c.put_tree.new.self in
    let inv = c.loop-i.invariant in
    let trees = c.args.trees.now in
    let tree : Content = c.index-trees-i.result in
    let i = c.loop-i.i in
    let lt : i < length trees = search rules in
    let s0 = g.E.Disk.state c.args.store.now.disk in
    let s1 = g.E.Disk.state at.disk in
    let s2 = g.E.Disk.state new.disk in
    let laws = c.goes_between.ensures in
    record {
      from = omega (arith, inv.from);
      honest = (λ h. c.put_tree.ensures.honest.0 (inv.honest.0 h), λ h. inv.honest.1 (c.put_tree.ensures.honest.1 h));
      ready = c.in_ok-put_tree.ensures.next;
      form = c.put_tree.ensures.form ∙ inv.form;
      failures = c.in_ok-put_tree.ensures.cause.4 ∙ inv.failures;
      holds = λ honest holds.
          let h1 = inv.honest.0 honest in
          let here = moved_holds at.form form (take i trees) (take i trees) at.place at.stored s1 (sym inv.form) refl (inv.holds honest holds) in
          let after = c.in_ok-put_tree.ensures.holds (take i trees) h1 here in
          held_more laws.nothing laws.put laws.turn form trees c.args.from i tree lt inv.from tree c.index-trees-i.is new.place new.stored s2
          (subst (λ (f : Form). Holds f (take i trees ++ tree ∷ []) new.place new.stored s2) inv.form after);
      goes = λ honest holds.
          let h1 = inv.honest.0 honest in
          let here = moved_holds at.form form (take i trees) (take i trees) at.place at.stored s1 (sym inv.form) refl (inv.holds honest holds) in
          let moments = subst (λ (f : Form). LeavesOnly s1 s2 (IsBeforeOrAfter f (take i trees) tree)) inv.form (c.put_tree.ensures.moments (take i trees) h1 here) in
          let loses = subst (λ (f : Form). LosesNothing f s1 s2) inv.form (c.put_tree.ensures.lasting (take i trees) h1 here) in
          one_put laws.nothing laws.put laws.turn form trees c.args.from i tree lt inv.from tree c.index-trees-i.is s0 s1 s2 (inv.goes honest holds) moments loses;
      trusted = λ honest holds exact.
          let h1 = inv.honest.0 honest in
          let here = moved_holds at.form form (take i trees) (take i trees) at.place at.stored s1 (sym inv.form) refl (inv.holds honest holds) in
          let one : IsExact form tree = subst (IsExact form) (sym c.index-trees-i.is) (exact i tree lt) in
          let step = subst (λ (f : Form). StaysTrusted f s1 s2) inv.form (c.put_tree.ensures.trusted (take i trees) h1 here (subst (λ (f : Form). IsExact f tree) (sym inv.form) one)) in
          c.goes_on.ensures.trust form s0 s1 s2 (inv.trusted honest holds exact) step;
    }

pub returns-clause-holds : goal.returns-clause-holds
returns-clause-holds g c = λ honest holds.
    let form = c.args.store.now.form in
    let at = c.loop-i.store in
    let trees = c.args.trees.now in
    let done : length trees ≤ c.loop-i.i = search rules in
    subst (λ (l : List Content). Holds form l at.place at.stored (g.E.Disk.state at.disk)) (take_all c.loop-i.i trees done) (c.loop-i.invariant.holds honest holds)

pub returns-clause-goes : goal.returns-clause-goes
returns-clause-goes g c = λ honest holds.
    let form = c.args.store.now.form in
    let laws = c.goes_between.ensures in
    to_all laws.nothing laws.put laws.turn form c.args.trees.now c.args.from c.loop-i.i c.loop-i.invariant.from (g.E.Disk.state c.args.store.now.disk) (g.E.Disk.state c.loop-i.store.disk)
    (c.loop-i.invariant.goes honest holds)

pub returns-in_err-put_tree-clause-large : goal.returns-in_err-put_tree-clause-large
returns-in_err-put_tree-clause-large g c = let p = err_from_is_err_and c.from_residual.result c.from_residual.ensures.1 in rw (p.1, p.2) (λ is.
    let form = c.args.store.now.form in
    let at = c.loop-i.store in
    let trees = c.args.trees.now in
    let tree : Content = c.index-trees-i.result in
    let lt : c.loop-i.i < length trees = search rules in
    record {
      tree = tree;
      one = (c.loop-i.i, lt, sym c.index-trees-i.is);
      place = at.place;
      large = subst (λ (f : Form). IsTooLarge f tree at.place) c.loop-i.invariant.form (too_large _ _ _ _ _ _ c.in_err-put_tree.field-0.0 c.in_err-put_tree.ensures.cause is);
    })

pub returns-in_err-put_tree-clause-apart : goal.returns-in_err-put_tree-clause-apart
returns-in_err-put_tree-clause-apart g c = λ honest holds apart.
    let p = err_from_is_err_and c.from_residual.result c.from_residual.ensures.1 in rw (p.1, p.2) (
    let trees = c.args.trees.now in
    let tree : Content = c.index-trees-i.result in
    let lt : c.loop-i.i < length trees = search rules in
    let new = new_tree trees c.loop-i.i tree c.loop-i.store.stored lt apart c.index-trees-i.is (c.loop-i.invariant.holds honest holds).stored_are in
    not_stored _ _ _ _ _ _ c.in_err-put_tree.field-0.0 c.in_err-put_tree.ensures.cause new)

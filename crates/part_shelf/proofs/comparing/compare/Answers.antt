use Rattle.std.proofs.Common.{rules, ◌<◌, ◌≤◌, [], length, get_or, sym, ◌∙◌, subst, arith}
use Rattle.std.proofs.lemmas.List.{take_all}
use Rattle.std.proofs.lemmas.Result.{err_from_is_err_and}
use Rattle.disk_model.specs.Disk.{State}
use Rattle.pattern_tree.specs.Content.{Content}
use Rattle.part_shelf.specs.Comparing.{AgreeWith}
use Rattle.part_shelf.specs.Spots.{IsEntry}
use Rattle.part_shelf.specs.declared.entry.Entry.{Entry}
use Rattle.part_shelf.proofs.ComparingFacts.{fails_since, more_agree, one_of}
use Rattle.part_shelf.proofs.SpotFacts.{zip_at, zip_long}
use Rattle.part_shelf.proofs.comparing.compare.Goals as goal

blank : Content
blank = record { source = 0; pairs = [] }

pub loop-i-preserved : goal.loop-i-preserved
loop-i-preserved g c =
    let at = c.loop-i in
    let inv = at.invariant in
    let did = c.compare_one.ensures in
    let entries = c.args.entries.now in
    let below : at.i < length entries = search rules in
    let state = g.D.Disk.state in
    record {
      honest = λ all. did.honest.0 (inv.honest all);
      same = λ all. did.still.0 (inv.honest all) ∙ inv.same all;
      disk_honest = (λ h. did.honest.1.0 (inv.disk_honest.0 h), λ h. inv.disk_honest.1 (did.honest.1.1 h));
      disk_same = λ h. did.still.1 (inv.disk_honest.0 h) ∙ inv.disk_same h;
      failures = c.in_ok-compare_one.ensures.counted.0 ∙ inv.failures;
      disk_failures = c.in_ok-compare_one.ensures.counted.1 ∙ inv.disk_failures;
      agree = λ form states all trees honest here are spots each.
          let tree = get_or trees at.i blank in
          let read = (state c.args.disk.now).read in
          let entry : Entry = c.index-entries-i.result in
          let own : IsEntry form read entry tree =
          subst (λ (e : Entry). IsEntry form read e tree) (sym c.index-entries-i.is) (zip_at (IsEntry form read) entries trees each at.i entry blank below) in
          let now : IsEntry form (state at.disk).read entry tree = subst (λ (s : State). IsEntry form s.read entry tree) (sym (inv.disk_same here)) own in
          more_agree form read entries all trees at.i blank each below (inv.agree form states all trees honest here are spots each)
          (c.in_ok-compare_one.ensures.agree form states all tree (inv.honest honest) (inv.disk_honest.0 here) (are ∙ sym (inv.same honest)) spots now);
    }

pub returns-in_err-compare_one-clause-agree : goal.returns-in_err-compare_one-clause-agree
returns-in_err-compare_one-clause-agree g c = λ form states all trees honest here are spots each.
    let at = c.loop-i in
    let inv = at.invariant in
    let state = g.D.Disk.state in
    let entries = c.args.entries.now in
    let below : at.i < length entries = search rules in
    let tree = get_or trees at.i blank in
    let read = (state c.args.disk.now).read in
    let entry : Entry = c.index-entries-i.result in
    let own : IsEntry form read entry tree =
    subst (λ (e : Entry). IsEntry form read e tree) (sym c.index-entries-i.is) (zip_at (IsEntry form read) entries trees each at.i entry blank below) in
    let now : IsEntry form (state at.disk).read entry tree = subst (λ (s : State). IsEntry form s.read entry tree) (sym (inv.disk_same here)) own in
    let long = zip_long (IsEntry form read) entries trees each in
    let p = err_from_is_err_and c.from_residual.result c.from_residual.ensures.1 in
    rw (p.1, p.2) (one_of form states all trees at.i blank c.in_err-compare_one.field-0.0 (omega (arith, below, long))
    (c.in_err-compare_one.ensures.agree form states all tree (inv.honest honest) (inv.disk_honest.0 here) (are ∙ sym (inv.same honest)) spots now))

pub returns-clause-agree : goal.returns-clause-agree
returns-clause-agree g c = λ form states all trees honest here are spots each.
    let at = c.loop-i in
    let read = (g.D.Disk.state c.args.disk.now).read in
    let long = zip_long (IsEntry form read) c.args.entries.now trees each in
    let done : length trees ≤ at.i = omega (arith, long, c.loop-i-test.false) in
    subst (AgreeWith all) (take_all at.i trees done) (at.invariant.agree form states all trees honest here are spots each)

pub returns-in_err-compare_one-clause-honest : goal.returns-in_err-compare_one-clause-honest
returns-in_err-compare_one-clause-honest g c =
    let inv = c.loop-i.invariant in
    let did = c.compare_one.ensures in
    (λ all. did.honest.0 (inv.honest all), (λ h. did.honest.1.0 (inv.disk_honest.0 h), λ h. inv.disk_honest.1 (did.honest.1.1 h)))

pub returns-in_err-compare_one-clause-still : goal.returns-in_err-compare_one-clause-still
returns-in_err-compare_one-clause-still g c =
    let inv = c.loop-i.invariant in
    let did = c.compare_one.ensures in
    (λ all. did.still.0 (inv.honest all) ∙ inv.same all, λ h. did.still.1 (inv.disk_honest.0 h) ∙ inv.disk_same h)

pub returns-in_err-compare_one-clause-counted : goal.returns-in_err-compare_one-clause-counted
returns-in_err-compare_one-clause-counted g c =
    let inv = c.loop-i.invariant in
    let p = err_from_is_err_and c.from_residual.result c.from_residual.ensures.1 in
    rw (p.1, p.2) (fails_since _ _ _ _ _ _ c.in_err-compare_one.field-0.0 inv.failures inv.disk_failures c.in_err-compare_one.ensures.counted)

use Rattle.std.proofs.Common.{rules, ◌≡◌, ◌+◌, ◌≤◌, ℕ, List, sym, ◌∙◌, subst, arith}
use mathlib.Core.List.{IsPrefix}
use Rattle.disk_model.specs.Disk.{State}
use Rattle.timetable.specs.Table.{stops_of}
use Rattle.pattern_tree.specs.Content.{Content}
use Rattle.section_store.specs.Sections.{Form}
use Rattle.section_store.specs.Store.{Holds}
use Rattle.merging.specs.Merging.{Goes, lacked, merged, with_next}
use Rattle.merging.proofs.MergeFacts.{front_next, front_of, one_more, starts}
use Rattle.merging.proofs.GoingFacts.{Laws, in_turn, to_more}
use Rattle.merging.proofs.merging.merge.Goals as goal

-- of equal forms and stops
held : (form other : Form) (list all : List Content) (stop n : ℕ) (place : ℕ) (stored : List ℕ) (s : State) → other ≡ form → stop ≡ n
    → Holds other (with_next list (lacked list all stop)) place stored s → Holds form (with_next list (lacked list all n)) place stored s
held form other list all stop n place stored s same is holds =
    subst (λ (m : ℕ). Holds form (with_next list (lacked list all m)) place stored s) is
    (subst (λ (f : Form). Holds f (with_next list (lacked list all stop)) place stored s) same holds)

went : (form other : Form) (list all : List Content) (stop n : ℕ) (s t : State) → other ≡ form → stop ≡ n
    → Goes other list (with_next list (lacked list all stop)) all s t → Goes form list (with_next list (lacked list all n)) all s t
went form other list all stop n s t same is goes =
    subst (λ (m : ℕ). Goes form list (with_next list (lacked list all m)) all s t) is
    (subst (λ (f : Form). Goes f list (with_next list (lacked list all stop)) all s t) same goes)

pub loop-number-preserved : goal.loop-number-preserved
loop-number-preserved g c =
    let form = c.args.store.now.form in
    let was = c.args.store.now in
    let at = c.loop-number.store in
    let new = c.put_next.new.store in
    let inv = c.loop-number.invariant in
    let did = c.put_next.ensures in
    let n : ℕ = c.loop-number.number in
    let state = g.E.Disk.state in
    let laws : Laws = record {
      nothing = c.goes_between.ensures.nothing;
      put = c.goes_between.ensures.put;
      turn = c.goes_between.ensures.turn;
      still = c.goes_on.ensures.nothing;
      trust = c.goes_on.ensures.trust;
    } in
    record {
      ready = c.in_ok-put_next.ensures.ready;
      form = did.form.0 ∙ inv.form;
      shelf = did.form.1 ∙ inv.shelf;
      failures = c.in_ok-put_next.ensures.device.0 ∙ inv.failures;
      shelf_failures = c.in_ok-put_next.ensures.device.1 ∙ inv.shelf_failures;
      honest = (λ h. did.honest.0 (inv.honest.0 h), λ h. inv.honest.1 (did.honest.1 h));
      still = λ disks all has. did.still disks all (inv.still disks all has);
      holds = λ disks before all honest has holds.
          let now = merged before all n in
          let here = subst (λ (f : Form). Holds f now at.place at.stored (state at.disk)) (sym inv.form) (inv.holds disks before all honest has holds) in
          subst (λ (l : List Content). Holds form l new.place new.stored (state new.disk)) (sym (one_more before all n))
          (held form at.form now all c.new.result n new.place new.stored (state new.disk) inv.form c.new.ensures
          (c.in_ok-put_next.ensures.holds disks now all (inv.honest.0 honest) (inv.still disks all has) here));
      goes = λ disks before all honest has holds.
          let now = merged before all n in
          let here = subst (λ (f : Form). Holds f now at.place at.stored (state at.disk)) (sym inv.form) (inv.holds disks before all honest has holds) in
          let step = went form at.form now all c.new.result n (state at.disk) (state new.disk) inv.form c.new.ensures
          (did.goes disks now all (inv.honest.0 honest) (inv.still disks all has) here) in
          subst (λ (l : List Content). Goes form before l all (state was.disk) (state new.disk)) (sym (one_more before all n))
          (in_turn laws form before now (with_next now (lacked now all n)) all (state was.disk) (state at.disk) (state new.disk)
          (subst (λ (l : List Content). IsPrefix l now) (starts before all) (front_of before all 0 n (omega arith)))
          (front_next before all now (lacked now all n)) (inv.goes disks before all honest has holds) step);
    }

-- while the tree of a stop is put, the list is a front of the whole merged one
pub returns-in_err-put_next-clause-merges : goal.returns-in_err-put_next-clause-merges
returns-in_err-put_next-clause-merges g c = λ disks before all honest has holds.
    let form = c.args.store.now.form in
    let was = c.args.store.now in
    let at = c.loop-number.store in
    let new = c.put_next.new.store in
    let inv = c.loop-number.invariant in
    let n : ℕ = c.loop-number.number in
    let state = g.E.Disk.state in
    let laws : Laws = record {
      nothing = c.goes_between.ensures.nothing;
      put = c.goes_between.ensures.put;
      turn = c.goes_between.ensures.turn;
      still = c.goes_on.ensures.nothing;
      trust = c.goes_on.ensures.trust;
    } in
    let now = merged before all n in
    let here = subst (λ (f : Form). Holds f now at.place at.stored (state at.disk)) (sym inv.form) (inv.holds disks before all honest has holds) in
    let step = went form at.form now all c.new.result n (state at.disk) (state new.disk) inv.form c.new.ensures
    (c.put_next.ensures.goes disks now all (inv.honest.0 honest) (inv.still disks all has) here) in
    let first : IsPrefix before now = subst (λ (l : List Content). IsPrefix l now) (starts before all) (front_of before all 0 n (omega arith)) in
    let next = with_next now (lacked now all n) in
    let whole = in_turn laws form before now next all (state was.disk) (state at.disk) (state new.disk) first
    (front_next before all now (lacked now all n)) (inv.goes disks before all honest has holds) step in
    let stops : c.stops-stops.result ≡ stops_of form.table = search rules in
    let within : n + 1 ≤ stops_of form.table = omega (arith, c.loop-number-test.true, stops) in
    let more : IsPrefix next (merged before all (stops_of form.table)) =
    subst (λ (l : List Content). IsPrefix l (merged before all (stops_of form.table))) (one_more before all n) (front_of before all (n + 1) (stops_of form.table) within) in
    let begins : IsPrefix before next = subst (λ (l : List Content). IsPrefix before l) (one_more before all n)
    (subst (λ (l : List Content). IsPrefix l (merged before all (n + 1))) (starts before all) (front_of before all 0 (n + 1) (omega arith))) in
    to_more laws form before next (merged before all (stops_of form.table)) all (state was.disk) (state new.disk) begins more whole

-- at the end it is the whole one
pub returns-clause-merges : goal.returns-clause-merges
returns-clause-merges g c = λ disks before all honest has holds.
    let form = c.args.store.now.form in
    let stops : c.loop-number.number ≡ stops_of form.table = search rules in
    subst (λ (n : ℕ). Goes form before (merged before all n) all (g.E.Disk.state c.args.store.now.disk) (g.E.Disk.state c.loop-number.store.disk)) stops
    (c.loop-number.invariant.goes disks before all honest has holds)

pub returns-clause-holds : goal.returns-clause-holds
returns-clause-holds g c = λ disks before all honest has holds.
    let form = c.args.store.now.form in
    let at = c.loop-number.store in
    let stops : c.loop-number.number ≡ stops_of form.table = search rules in
    subst (λ (n : ℕ). Holds form (merged before all n) at.place at.stored (g.E.Disk.state at.disk)) stops
    (c.loop-number.invariant.holds disks before all honest has holds)

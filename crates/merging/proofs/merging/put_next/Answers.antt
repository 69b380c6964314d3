use Rattle.std.proofs.Common.{◌≡◌, ℕ, Bool, List, Some, false, sym, ◌∙◌, subst}
use Rattle.pattern_tree.specs.Content.{Content}
use Rattle.section_store.specs.Lasting.{IsExact}
use Rattle.section_store.specs.Sections.{Form, IsNew, MayStand}
use Rattle.section_store.specs.Sources.{is_among}
use Rattle.section_store.specs.declared.fault.PutFault.TheVariants.{AlreadyStored, Failed, OtherTimetable, TooLarge}
use Rattle.merging.specs.Merging.{Goes, tree_of}
use Rattle.merging.proofs.Finding.{found_all, found_in}
use Rattle.merging.proofs.GoingFacts.{Laws, adds, is_new, lacked_some, not_failed, not_other, not_stored, puts, too_large}
use Rattle.merging.proofs.merging.put_next.Goals as goal

not_among : (stop : ℕ) (stored : List ℕ) (has : Bool) → has ≡ is_among stop stored → has ≡ false → is_among stop stored ≡ false
not_among stop stored has is isnt = sym is ∙ isnt

-- whether the tree was put or its put began
pub returns-in-Err-put_tree-clause-goes : goal.returns-in-Err-put_tree-clause-goes
returns-in-Err-put_tree-clause-goes g c = λ disks now all honest has holds.
    let was = c.args.store.now in
    let form = was.form in
    let tree : Content = c.in-Some.tree in
    let s = g.E.Disk.state was.disk in
    let t = g.E.Disk.state c.put_tree.new.self.disk in
    let laws : Laws = record {
      nothing = c.goes_between.ensures.nothing;
      put = c.goes_between.ensures.put;
      turn = c.goes_between.ensures.turn;
      still = c.goes_on.ensures.nothing;
      trust = c.goes_on.ensures.trust;
    } in
    let isnt : is_among c.args.stop was.stored ≡ false = not_among c.args.stop was.stored c.has.result (c.has.ensures c.requires.known) c.if-has.false in
    let found : Some tree ≡ tree_of all c.args.stop = rw c.in-Some.is at (c.in-Ok.ensures.found disks all has) in
    let some = lacked_some now all c.args.stop was.stored tree holds.stored_are isnt found in
    let put = c.put_tree.ensures in
    subst (λ (l : List Content). Goes form now l all s t) (adds now all c.args.stop tree some)
    (puts laws form now all tree s t (put.moments now honest holds) (put.lasting now honest holds)
    (λ each. found_all (IsExact form) all c.args.stop tree (sym found) each) (put.trusted now honest holds))

pub returns-clause-goes : goal.returns-clause-goes
returns-clause-goes g c = λ disks now all honest has holds.
    let was = c.args.store.now in
    let form = was.form in
    let tree : Content = c.in-Some.tree in
    let s = g.E.Disk.state was.disk in
    let t = g.E.Disk.state c.put_tree.new.self.disk in
    let laws : Laws = record {
      nothing = c.goes_between.ensures.nothing;
      put = c.goes_between.ensures.put;
      turn = c.goes_between.ensures.turn;
      still = c.goes_on.ensures.nothing;
      trust = c.goes_on.ensures.trust;
    } in
    let isnt : is_among c.args.stop was.stored ≡ false = not_among c.args.stop was.stored c.has.result (c.has.ensures c.requires.known) c.if-has.false in
    let found : Some tree ≡ tree_of all c.args.stop = rw c.in-Some.is at (c.in-Ok.ensures.found disks all has) in
    let some = lacked_some now all c.args.stop was.stored tree holds.stored_are isnt found in
    let put = c.put_tree.ensures in
    subst (λ (l : List Content). Goes form now l all s t) (adds now all c.args.stop tree some)
    (puts laws form now all tree s t (put.moments now honest holds) (put.lasting now honest holds)
    (λ each. found_all (IsExact form) all c.args.stop tree (sym found) each) (put.trusted now honest holds))

-- why it wasn't put
pub returns-in-Err-put_tree-clause-large : goal.returns-in-Err-put_tree-clause-large
returns-in-Err-put_tree-clause-large g c = λ disks all has is.
    let tree : Content = c.in-Some.tree in
    let found : Some tree ≡ tree_of all c.args.stop = rw c.in-Some.is at (c.in-Ok.ensures.found disks all has) in
    let large : c.in-Err-put_tree.fault ≡ TooLarge = cc in
    record {
      tree = tree;
      one = found_in all c.args.stop tree (sym found);
      place = c.args.store.now.place;
      large = too_large _ _ _ _ _ _ c.in-Err-put_tree.fault c.in-Err-put_tree.ensures.cause large;
    }

pub returns-in-Err-put_tree-clause-kinds : goal.returns-in-Err-put_tree-clause-kinds
returns-in-Err-put_tree-clause-kinds g c =
    let was = c.args.store.now in
    let tree : Content = c.in-Some.tree in
    let fault = c.in-Err-put_tree.fault in
    let cause = c.in-Err-put_tree.ensures.cause in
    let isnt : is_among c.args.stop was.stored ≡ false = not_among c.args.stop was.stored c.has.result (c.has.ensures c.requires.known) c.if-has.false in
    let of : tree.source ≡ c.args.stop = rw c.in-Some.is at c.in-Ok.ensures.of in
    let may : MayStand was.form tree = subst (λ (f : Form). MayStand f tree) c.requires.form (rw c.in-Some.is at c.in-Ok.ensures.may) in
    let new : IsNew tree.source was.stored = subst (λ (n : ℕ). IsNew n was.stored) (sym of) (is_new c.args.stop was.stored isnt) in (
      λ is. not_failed _ _ _ _ _ _ fault cause c.requires.ready (let same : fault ≡ Failed = cc in same),
      λ is. not_other _ _ _ _ _ _ fault cause may (let same : fault ≡ OtherTimetable = cc in same),
      λ is. not_stored _ _ _ _ _ _ fault cause new (let same : fault ≡ AlreadyStored = cc in same),
    )

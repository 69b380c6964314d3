use Rattle.std.proofs.Common.{rules, ◌≡◌, ◌⊎◌, inl, inr, [], ◌+◌, List, length, refl, sym, ◌∙◌, ap, subst, arith}
use Rattle.std.specs.Arc.{arc_value}
use Rattle.std.specs.List.{AllZip}
use Rattle.std.proofs.lemmas.List.Elements.{All-nil}
use Rattle.disk_model.specs.Disk.{State, after_sync}
use Rattle.timetable.specs.Canonical.{canonical}
use Rattle.timetable.specs.declared.width.Width.TheVariants.{Four}
use Rattle.section_store.specs.Lasting.{IsExact, IsTrusted}
use Rattle.section_store.specs.Sections.{IsFresh, Stands, form_of, table_bytes}
use Rattle.recovery.specs.Recovery.{IsOutside, StandsForNoList}
use Rattle.part_shelf.specs.Spots.{IsEntry}
use Rattle.part_shelf.specs.declared.entry.Entry.{Entry}
use Rattle.part_shelf.proofs.ListingFacts.{all_listed, fresh_by}
use Rattle.part_shelf.proofs.listing.list_trees.Goals as goal

pub returns-in-Err-recover_to-clause-refused : goal.returns-in-Err-recover_to-clause-refused
returns-in-Err-recover_to-clause-refused g c = λ honest.
    let form = form_of (arc_value c.args.table.now) c.args.rides in
    subst (λ (s : State). IsOutside c.in-Err-recover_to.refused.0 ⊎ StandsForNoList form s.read) (c.is_begun.ensures.same honest)
    (c.in-Err-recover_to.ensures.refused (c.is_begun.ensures.honest.0 honest))

-- a fresh file has no trees
pub returns-in-Ok-false-clause-listed : goal.returns-in-Ok-false-clause-listed
returns-in-Ok-false-clause-listed g c = λ honest.
    let form = form_of (arc_value c.args.table.now) c.args.rides in
    let s = g.D.Disk.state c.args.disk in
    let begun = c.in-Ok-false.ensures.begun honest in
    let none : c.new-in-Ok-false.result.items ≡ [] = c.new-in-Ok-false.ensures.items in
    let fresh : IsFresh s.read = fresh_by s.read (λ old. let is = begun.1 old in let isnt = c.in-Ok-false.field-0-test in let no : ⊥ = search rules in no) in
    record {
      trees = [];
      stands = inl (fresh, refl);
      are = subst (λ (l : List Entry). AllZip (IsEntry form s.read) l []) (sym none) tt;
      alone = inl (c.is_begun.ensures.same honest);
      exact = λ trusted. All-nil (IsExact form);
    }

pub returns-in-Ok-clause-listed : goal.returns-in-Ok-clause-listed
returns-in-Ok-clause-listed g c = λ honest.
    let form = form_of (arc_value c.args.table.now) c.args.rides in
    let s = g.D.Disk.state c.args.disk in
    let mid = g.D.Disk.state c.is_begun.new.disk in
    let there = c.is_begun.ensures.honest.0 honest in
    let same : mid ≡ s = c.is_begun.ensures.same honest in
    let begun : IsFresh s.read → ⊥ = (c.in-Ok-true.ensures.begun honest).0 c.in-Ok-true.field-0-test in
    let given = c.in-Ok.ensures.given in
    let stands : Stands form s.read given.trees = subst (λ (x : State). Stands form x.read given.trees) same (given.stands there) in
    let table : c.deref.result.now ≡ form.table = search rules in
    let start : 14 + c.from.result ≡ 14 + length (table_bytes form) =
    omega (arith, c.from.ensures, c.canonical_len.ensures, ap (λ t. length (canonical Four t)) table) in
    let did : g.D.Disk.state c.in-Ok.store.disk ≡ after_sync mid =
    c.in-Ok.ensures.written there (subst (λ (x : State). IsFresh x.read → ⊥) (sym same) begun) in
    record {
      trees = given.trees;
      stands = stands;
      are = all_listed c.one_text.ensures form refl s.read given.trees _ c.recover_to.new.keeper given.given begun stands start c.new.ensures.items;
      alone = inr (ap g.D.Disk.state c.into_disk.ensures ∙ did ∙ ap after_sync same);
      exact = λ trusted. given.exact there (subst (λ (x : State). IsTrusted form x) (sym same) trusted);
    }

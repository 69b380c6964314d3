use Rattle.std.proofs.Common.{◌<◌, ◌++◌, List, All, sym, ◌∙◌, ap, subst}
use Rattle.std.specs.Arc.{arc_value}
use Rattle.timetable.specs.Table.{stops_of}
use Rattle.pattern_tree.specs.Content.{Content}
use Rattle.section_store.specs.Lasting.{IsExact}
use Rattle.section_store.specs.Sections.{Stands, form_of, sources}
use Rattle.section_store.specs.Store.{Holds}
use Rattle.recovery.proofs.Excerpts.{kept_all}
use Rattle.recovery.proofs.calls.recover.Goals as goal

pub returns-in-Ok-clause-stands : goal.returns-in-Ok-clause-stands
returns-in-Ok-clause-stands g c = λ honest.
    let given = c.in-Ok.ensures.given in
    let are = kept_all _ _ given.trees given.given ∙ ap (λ (l : List Content). l ++ given.trees) c.new.ensures.items in
    subst (Stands (form_of (arc_value c.args.table.now) c.args.rides) (g.D.Disk.state c.args.disk).read) (sym are) (given.stands honest)

pub returns-in-Ok-clause-holds : goal.returns-in-Ok-clause-holds
returns-in-Ok-clause-holds g c = λ honest.
    let form = form_of (arc_value c.args.table.now) c.args.rides in
    let store = c.in-Ok.store in
    let given = c.in-Ok.ensures.given in
    let are = kept_all _ _ given.trees given.given ∙ ap (λ (l : List Content). l ++ given.trees) c.new.ensures.items in
    subst (λ (l : List Content). Holds form l store.place store.stored (g.D.Disk.state store.disk)) (sym are) (given.holds honest)

pub returns-in-Ok-clause-exact : goal.returns-in-Ok-clause-exact
returns-in-Ok-clause-exact g c = λ honest trusted.
    let form = form_of (arc_value c.args.table.now) c.args.rides in
    let given = c.in-Ok.ensures.given in
    let are = kept_all _ _ given.trees given.given ∙ ap (λ (l : List Content). l ++ given.trees) c.new.ensures.items in
    subst (All (IsExact form)) (sym are) (given.exact honest trusted)

pub returns-in-Ok-clause-stored : goal.returns-in-Ok-clause-stored
returns-in-Ok-clause-stored g c =
    let given = c.in-Ok.ensures.given in
    let are = kept_all _ _ given.trees given.given ∙ ap (λ (l : List Content). l ++ given.trees) c.new.ensures.items in
    given.stored_are ∙ ap sources (sym are)

pub returns-in-Ok-clause-known : goal.returns-in-Ok-clause-known
returns-in-Ok-clause-known g c =
    let stops = stops_of (arc_value c.args.table.now) in
    let given = c.in-Ok.ensures.given in
    let are = kept_all _ _ given.trees given.given ∙ ap (λ (l : List Content). l ++ given.trees) c.new.ensures.items in
    subst (All (λ (t : Content). t.source < stops)) (sym are) given.known

use Rattle.std.proofs.Common.{◌≡◌, ◌<◌, ◌∙◌, List, All, refl, sym, subst, inl, inr}
use Rattle.std.specs.Arc.{arc_value}
use Rattle.std.specs.List.{Contains}
use Rattle.disk_model.specs.Disk.{State}
use Rattle.disk_model.specs.MemDisk.{state_of}
use Rattle.timetable.specs.Table.{stops_of}
use Rattle.pattern_tree.specs.Content.{Content}
use mathlib.Core.List.{IsPrefix}
use Rattle.section_store.specs.Lasting.{IsExact, LosesNothing}
use Rattle.section_store.specs.Sections.{Form, Stands, form_of, sources}
use Rattle.planner_core.specs.Cores.{running_of}
use Rattle.planner_core.specs.Safety.{IsSafeDisk}
use Rattle.planner_core.specs.Steps.{Begins}
use Rattle.planner_core.proofs.Files.{recovered, safe_stands}
use Rattle.planner_core.proofs.Starting.{begin_sound}
use Rattle.planner_core.proofs.phase.restart.Goals as goal

pub out_of_memory-requires : goal.out_of_memory-requires
out_of_memory-requires c =
    let d = c.args.stopped in
    let same : form_of (arc_value c.table.result.now) c.rides.result ≡ c.args.tools.now.form = rw c.rides.ensures c.table.ensures.own in
    let safe : IsSafeDisk (form_of (arc_value c.table.result.now) c.rides.result) d.storing.items d.acknowledged.items (state_of d.disk) =
    subst (λ (f : Form). IsSafeDisk f d.storing.items d.acknowledged.items (state_of d.disk)) (sym same) c.requires in
    elim (c.in-Err.ensures.refused tt) [
      | inl outside ↦ outside
      | inr none ↦ absurd (safe_stands _ d.storing.items d.acknowledged.items (state_of d.disk) safe d.disk.sound none)
    ]

pub begin-requires-clause-exact : goal.begin-requires-clause-exact
begin-requires-clause-exact c =
    let d = c.args.stopped in
    let same : form_of (arc_value c.table.result.now) c.rides.result ≡ c.args.tools.now.form = rw c.rides.ensures c.table.ensures.own in
    let safe = subst (λ (f : Form). IsSafeDisk f d.storing.items d.acknowledged.items (state_of d.disk)) (sym same) c.requires in
    let exact = c.in-Ok.ensures.exact tt safe.trusted in
    subst (λ (f : Form). All (IsExact f) c.deref.result.now) (sym c.in-Ok.ensures.ready.1) (subst (λ (l : List Content). All (IsExact (form_of (arc_value c.table.result.now) c.rides.result)) l) (sym c.deref.ensures.value) exact)

pub begin-requires-clause-held : goal.begin-requires-clause-held
begin-requires-clause-held c =
    let d = c.args.stopped in
    let trees = c.in-Ok.recovered.trees.items in
    let same : form_of (arc_value c.table.result.now) c.rides.result ≡ c.args.tools.now.form = rw c.rides.ensures c.table.ensures.own in
    let stands = subst (λ (f : Form). Stands f (state_of d.disk).read trees) same (c.in-Ok.ensures.stands tt) in
    let is = recovered c.stands_for_one.ensures c.args.tools.now.form d.storing.items d.acknowledged.items (state_of d.disk) trees c.requires d.disk.sound stands in
    subst (λ l. All (Contains l) d.acknowledged.items) (sym c.in-Ok.ensures.stored) is.1

pub returns-in-Ok-begin-clause-steps : goal.returns-in-Ok-begin-clause-steps
returns-in-Ok-begin-clause-steps c =
    let d = c.args.stopped in
    let trees = c.in-Ok.recovered.trees.items in
    let same : form_of (arc_value c.table.result.now) c.rides.result ≡ c.args.tools.now.form = rw c.rides.ensures c.table.ensures.own in
    record {
      trees = trees;
      list = c.in_ok-sources.sources;
      stands = subst (λ (f : Form). Stands f (state_of d.disk).read trees) same (c.in-Ok.ensures.stands tt);
      reply_is = refl;
      list_is = c.in_ok-sources.ensures.items ∙ c.stored.ensures ∙ c.in-Ok.ensures.stored;
      begins = subst (λ (l : List Content). Begins c.args.tools.now l (running_of c.in-Ok-begin.running)) c.deref.ensures.value c.in-Ok-begin.ensures.begins;
      written = λ fresh. c.in-Ok-begin.ensures.disk ∙ c.in-Ok.ensures.written tt fresh;
      acknowledged = c.in-Ok-begin.ensures.acknowledged;
      lasts = subst (λ (f : Form). LosesNothing f (state_of d.disk) c.in-Ok-begin.running.archive.disk) same
          (subst (λ (s : State). LosesNothing (form_of (arc_value c.table.result.now) c.rides.result) (state_of d.disk) s) (sym c.in-Ok-begin.ensures.disk) (c.in-Ok.ensures.opening tt).loses);
    }

pub returns-in-Ok-begin-clause-sound : goal.returns-in-Ok-begin-clause-sound
returns-in-Ok-begin-clause-sound c =
    let d = c.args.stopped in
    let trees = c.in-Ok.recovered.trees.items in
    let same : form_of (arc_value c.table.result.now) c.rides.result ≡ c.args.tools.now.form = rw c.rides.ensures c.table.ensures.own in
    let safe = subst (λ (f : Form). IsSafeDisk f d.storing.items d.acknowledged.items (state_of d.disk)) (sym same) c.requires in
    let exact = c.in-Ok.ensures.exact tt safe.trusted in
    let begins = subst (λ (l : List Content). Begins c.args.tools.now l (running_of c.in-Ok-begin.running)) c.deref.ensures.value c.in-Ok-begin.ensures.begins in
    begin_sound c.args.tools.now trees (running_of c.in-Ok-begin.running) begins (subst (λ (f : Form). All (IsExact f) trees) same exact)
    (subst (λ (f : Form). All (λ (tree : Content). tree.source < stops_of f.table) trees) same c.in-Ok.ensures.known)

pub returns-in-Ok-begin-clause-gives : goal.returns-in-Ok-begin-clause-gives
returns-in-Ok-begin-clause-gives c =
    let d = c.args.stopped in
    let trees = c.in-Ok.recovered.trees.items in
    let same : form_of (arc_value c.table.result.now) c.rides.result ≡ c.args.tools.now.form = rw c.rides.ensures c.table.ensures.own in
    let stands = subst (λ (f : Form). Stands f (state_of d.disk).read trees) same (c.in-Ok.ensures.stands tt) in
    let is = recovered c.stands_for_one.ensures c.args.tools.now.form d.storing.items d.acknowledged.items (state_of d.disk) trees c.requires d.disk.sound stands in
    let list : c.in_ok-sources.sources.items ≡ sources trees = c.in_ok-sources.ensures.items ∙ c.stored.ensures ∙ c.in-Ok.ensures.stored in
    subst (λ l. IsPrefix l d.storing.items × All (Contains l) d.acknowledged.items) (sym list) is

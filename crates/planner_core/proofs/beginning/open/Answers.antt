use Rattle.std.proofs.Common.{◌≡◌, ◌<◌, ◌∙◌, List, All, sym, subst, inl, inr}
use Rattle.std.specs.Arc.{arc_value}
use Rattle.std.specs.List.{Contains}
use Rattle.std.proofs.lemmas.List.Elements.{All-contains_itself}
use Rattle.disk_model.specs.MemDisk.{state_of}
use Rattle.timetable.specs.Table.{stops_of}
use Rattle.pattern_tree.specs.Content.{Content}
use Rattle.section_store.specs.Lasting.{IsExact, IsTrusted}
use Rattle.section_store.specs.Sections.{Form, Stands, form_of}
use Rattle.recovery.specs.Opening.{IsOpening}
use Rattle.planner_core.specs.Cores.{running_of}
use Rattle.planner_core.specs.Steps.{Begins}
use Rattle.planner_core.proofs.Starting.{begin_sound}
use Rattle.planner_core.proofs.beginning.open.Goals as goal

pub returns-in-Err-clause-fault : goal.returns-in-Err-clause-fault
returns-in-Err-clause-fault c =
    let form : Form = form_of (arc_value c.table.result.now) c.rides.result in
    let same : form ≡ c.args.tools.now.form = rw c.rides.ensures c.table.ensures.own in
    let disk = state_of c.args.disk in
    let trusted : IsTrusted form disk = subst (λ (f : Form). IsTrusted f disk) (sym same) c.requires in
    let file = trusted disk.read c.args.disk.sound in
    elim (c.in-Err.ensures.refused tt) [
      | inl outside ↦ outside
      | inr none ↦ absurd (none file.trees file.stands)
    ]

pub returns-in-Err-clause-trusted : goal.returns-in-Err-clause-trusted
returns-in-Err-clause-trusted c =
    let form : Form = form_of (arc_value c.table.result.now) c.rides.result in
    let same : form ≡ c.args.tools.now.form = rw c.rides.ensures c.table.ensures.own in
    let trusted : IsTrusted form (state_of c.args.disk) = rw same c.requires in
    subst (λ (f : Form). IsTrusted f (state_of c.in-Err.refused.1)) same
    (c.trust_lasts.ensures form (state_of c.args.disk) (state_of c.in-Err.refused.1) trusted (c.in-Err.ensures.opening tt).trusts)

pub returns-in_default-clause-trusted : goal.returns-in_default-clause-trusted
returns-in_default-clause-trusted c =
    let form : Form = form_of (arc_value c.table.result.now) c.rides.result in
    let same : form ≡ c.args.tools.now.form = rw c.rides.ensures c.table.ensures.own in
    let trusted : IsTrusted form (state_of c.args.disk) = rw same c.requires in
    let disk = c.in-Ok.recovered.store.disk in
    rw c.into_disk.ensures (subst (λ (f : Form). IsTrusted f (state_of disk)) same
    (c.trust_lasts.ensures form (state_of c.args.disk) (state_of disk) trusted (c.in-Ok.ensures.opening tt).trusts))

pub begin-requires-clause-exact : goal.begin-requires-clause-exact
begin-requires-clause-exact c =
    let form : Form = form_of (arc_value c.table.result.now) c.rides.result in
    let same : form ≡ c.args.tools.now.form = rw c.rides.ensures c.table.ensures.own in
    let trusted : IsTrusted form (state_of c.args.disk) = rw same c.requires in
    let exact = c.in-Ok.ensures.exact tt trusted in
    subst (λ (f : Form). All (IsExact f) c.deref.result.now) (sym c.in-Ok.ensures.ready.1) (subst (λ (l : List Content). All (IsExact form) l) (sym c.deref.ensures.value) exact)

pub begin-requires-clause-held : goal.begin-requires-clause-held
begin-requires-clause-held c =
    let list = c.in-Ok.recovered.store.stored in
    subst (λ l. All (Contains list) l) (sym (c.in-Ok-from_slice.ensures.items ∙ c.stored.ensures)) (All-contains_itself list)

pub returns-in-Ok-begin-clause-opened : goal.returns-in-Ok-begin-clause-opened
returns-in-Ok-begin-clause-opened c =
    let form : Form = form_of (arc_value c.table.result.now) c.rides.result in
    let same : form ≡ c.args.tools.now.form = rw c.rides.ensures c.table.ensures.own in
    let trees = c.in-Ok.recovered.trees.items in (
      trees,
      subst (λ (f : Form). Stands f (state_of c.args.disk).read trees) same (c.in-Ok.ensures.stands tt),
      subst (λ (l : List Content). Begins c.args.tools.now l (running_of c.in-Ok-begin.running)) c.deref.ensures.value c.in-Ok-begin.ensures.begins,
      c.in-Ok-begin.ensures.acknowledged ∙ c.in-Ok-from_slice.ensures.items ∙ c.stored.ensures ∙ c.in-Ok.ensures.stored,
    )

pub returns-in-Ok-begin-clause-sound : goal.returns-in-Ok-begin-clause-sound
returns-in-Ok-begin-clause-sound c =
    let form : Form = form_of (arc_value c.table.result.now) c.rides.result in
    let same : form ≡ c.args.tools.now.form = rw c.rides.ensures c.table.ensures.own in
    let trees = c.in-Ok.recovered.trees.items in
    let trusted : IsTrusted form (state_of c.args.disk) = rw same c.requires in
    let exact = c.in-Ok.ensures.exact tt trusted in
    let begins = subst (λ (l : List Content). Begins c.args.tools.now l (running_of c.in-Ok-begin.running)) c.deref.ensures.value c.in-Ok-begin.ensures.begins in
    begin_sound c.args.tools.now trees (running_of c.in-Ok-begin.running) begins (subst (λ (f : Form). All (IsExact f) trees) same exact)
    (subst (λ (f : Form). All (λ (tree : Content). tree.source < stops_of f.table) trees) same c.in-Ok.ensures.known)

pub returns-clause-trusted : goal.returns-clause-trusted
returns-clause-trusted c =
    let form : Form = form_of (arc_value c.table.result.now) c.rides.result in
    let same : form ≡ c.args.tools.now.form = rw c.rides.ensures c.table.ensures.own in
    let trusted : IsTrusted form (state_of c.args.disk) = rw same c.requires in
    let disk = c.in-Ok.recovered.store.disk in
    rw c.in-Err-begin.ensures.disk (subst (λ (f : Form). IsTrusted f (state_of disk)) same
    (c.trust_lasts.ensures form (state_of c.args.disk) (state_of disk) trusted (c.in-Ok.ensures.opening tt).trusts))

pub returns-in-Err-clause-given_back : goal.returns-in-Err-clause-given_back
returns-in-Err-clause-given_back c =
    let form : Form = form_of (arc_value c.table.result.now) c.rides.result in
    let same : form ≡ c.args.tools.now.form = rw c.rides.ensures c.table.ensures.own in
    let is = c.in-Err.ensures in
    subst (λ (f : Form). IsOpening f (state_of c.args.disk) (state_of c.in-Err.refused.1)) same
    (is.opening tt)

pub returns-in_default-clause-given_back : goal.returns-in_default-clause-given_back
returns-in_default-clause-given_back c =
    let form : Form = form_of (arc_value c.table.result.now) c.rides.result in
    let same : form ≡ c.args.tools.now.form = rw c.rides.ensures c.table.ensures.own in
    let is = c.in-Ok.ensures in
    rw c.into_disk.ensures (subst (λ (f : Form). IsOpening f (state_of c.args.disk) (state_of c.in-Ok.recovered.store.disk)) same
    (is.opening tt))

pub returns-clause-given_back : goal.returns-clause-given_back
returns-clause-given_back c =
    let form : Form = form_of (arc_value c.table.result.now) c.rides.result in
    let same : form ≡ c.args.tools.now.form = rw c.rides.ensures c.table.ensures.own in
    let is = c.in-Ok.ensures in
    rw c.in-Err-begin.ensures.disk (subst (λ (f : Form). IsOpening f (state_of c.args.disk) (state_of c.in-Ok.recovered.store.disk)) same
    (is.opening tt))

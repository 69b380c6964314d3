use Rattle.std.proofs.Common.{rules, ◌≡◌, ◌+◌, ◌++◌, [], ◌∷◌, sym, subst}
use Rattle.disk_model.proofs.Moments.{sync_moments}
use Rattle.timetable.specs.Table.{stops_of}
use Rattle.section_store.specs.Sections.{IsSections}
use Rattle.section_store.specs.Sources.{IsSetOf}
use Rattle.section_store.specs.Stages.{IsFile}
use Rattle.section_store.proofs.Outcomes.{opened_stands, at_rest}
use Rattle.section_store.proofs.Lasting.{sync_loses}
use Rattle.section_store.proofs.Stages.{next_of, put_file, file_of}
use Rattle.section_store.specs.declared.step.Step.TheVariants.{WriteBody, SyncGate}
use Rattle.section_store.proofs.store.SectionStore.sync_gate.Goals as goal

pub returns-in-Ok-clause-rest : goal.returns-in-Ok-clause-rest
returns-in-Ok-clause-rest g c =
    let at = c.self.inside in
    rw (← c.self.view_is) (λ form trees honest opened.
    at_rest form trees (at.place + at.extent) (g.D.Disk.state at.disk) (g.D.Disk.state c.sync.new.self) opened (c.in-Ok.ensures.synced honest))

pub returns-in-Ok-clause-moments : goal.returns-in-Ok-clause-moments
returns-in-Ok-clause-moments g c =
    let at = c.self.inside in
    let old = g.D.Disk.state at.disk in
    rw (← c.self.view_is) (λ form trees honest opened.
    sync_moments c.sync.result old (g.D.Disk.state c.sync.new.self) (λ bytes. IsSections form bytes trees) (c.sync.ensures.synced honest)
    (opened_stands form trees (at.place + at.extent) old opened))

pub returns-in-Ok-clause-lasting : goal.returns-in-Ok-clause-lasting
returns-in-Ok-clause-lasting g c =
    let disk = c.self.inside.disk in
    rw (← c.self.view_is) (λ form honest. sync_loses c.sync.result form (g.D.Disk.state disk) (g.D.Disk.state c.sync.new.self) (g.met.D.Disk.may_stay disk honest) (c.sync.ensures.synced honest))

pub returns-in-Err-clause-lasting : goal.returns-in-Err-clause-lasting
returns-in-Err-clause-lasting g c =
    let disk = c.self.inside.disk in
    rw (← c.self.view_is) (λ form honest. sync_loses c.sync.result form (g.D.Disk.state disk) (g.D.Disk.state c.sync.new.self) (g.met.D.Disk.may_stay disk honest) (c.sync.ensures.synced honest))

pub invariant_of-self : goal.invariant_of-self
invariant_of-self g c =
    let at = c.self.inside in
    let stored = at.stored.items in
    let pushed : c.push.new.self.items ≡ stored ++ at.source ∷ [] = search rules in
    let next = next_of _ _ SyncGate c.self.view_is c.requires in
    record {
      written = c.self.invariant.written;
      inside = search rules;
      low = search rules;
      set = subst (IsSetOf (stops_of at.form.table) c.insert.new.self) (sym pushed) (c.insert.ensures (stops_of at.form.table) stored c.self.invariant.set);
      room = λ none. absurd none;
      file = λ honest.
          let before = c.sync.ensures.honest.1 honest in
          subst (λ l. IsFile WriteBody at.form l (at.place + at.extent) 0 at.source (g.D.Disk.state c.sync.new.self)) (sym pushed)
          (file_of at.form (stored ++ at.source ∷ []) (at.place + at.extent) 0 at.source (g.D.Disk.state c.sync.new.self)
          (put_file at.form stored at.place at.extent at.source (g.D.Disk.state at.disk) at.next (g.D.Disk.state c.sync.new.self) next (c.self.invariant.file before) (c.in-Ok.ensures.synced before)));
    }

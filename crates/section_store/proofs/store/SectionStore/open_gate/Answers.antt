use Rattle.std.proofs.Common.{rules, [], ◌∷◌, sym, subst}
use Rattle.section_store.specs.Step.{IsBegun}
use Rattle.disk_model.proofs.Moments.{write_moments}
use Rattle.section_store.specs.Sections.{IsBeforeOrAfter, open_gate}
use Rattle.section_store.proofs.Outcomes.{body_stands, gate_crash, gate_opened}
use Rattle.disk_model.specs.Image.{with_write}
use Rattle.section_store.proofs.Lasting.{list_keeps, write_loses}
use Rattle.section_store.proofs.Stages.{next_of, opened_file}
use Rattle.section_store.specs.declared.step.Step.TheVariants.{OpenGate}
use Rattle.section_store.proofs.store.SectionStore.open_gate.Goals as goal

pub returns-in-Ok-clause-opened : goal.returns-in-Ok-clause-opened
returns-in-Ok-clause-opened g c =
    let at = c.self.inside in
    rw (← c.self.view_is) (λ form trees tree honest body.
    gate_opened form trees tree at.place at.extent (g.D.Disk.state at.disk) (g.D.Disk.state c.write_at.new.self) body (c.in-Ok.ensures.written honest))

pub returns-in-Ok-clause-moments : goal.returns-in-Ok-clause-moments
returns-in-Ok-clause-moments g c =
    let at = c.self.inside in
    let old = g.D.Disk.state at.disk in
    rw (← c.self.view_is) (λ form trees tree honest body durable.
    write_moments c.write_at.result old (g.D.Disk.state c.write_at.new.self) (IsBeforeOrAfter form trees tree) at.place (open_gate ∷ []) (c.write_at.ensures.written honest)
    (gate_crash form trees tree at.place at.extent old body durable))

pub returns-in-Ok-clause-lasting : goal.returns-in-Ok-clause-lasting
returns-in-Ok-clause-lasting g c =
    let at = c.self.inside in
    let disk = at.disk in
    let old = g.D.Disk.state disk in
    rw (← c.self.view_is) (λ form trees tree honest body durable.
    write_loses c.write_at.result form old (g.D.Disk.state c.write_at.new.self) at.place (open_gate ∷ []) (c.write_at.ensures.written honest)
    (list_keeps c.stands_for_one.ensures form old.now (with_write at.place 1 old.now) old.read trees tree (g.met.D.Disk.may_stay disk honest) (body_stands form trees tree at.place at.extent old body) (gate_crash form trees tree at.place at.extent old body durable)))

pub returns-in-Err-clause-moments : goal.returns-in-Err-clause-moments
returns-in-Err-clause-moments g c =
    let at = c.self.inside in
    let old = g.D.Disk.state at.disk in
    rw (← c.self.view_is) (λ form trees tree honest body durable.
    write_moments c.write_at.result old (g.D.Disk.state c.write_at.new.self) (IsBeforeOrAfter form trees tree) at.place (open_gate ∷ []) (c.write_at.ensures.written honest)
    (gate_crash form trees tree at.place at.extent old body durable))

pub returns-in-Err-clause-lasting : goal.returns-in-Err-clause-lasting
returns-in-Err-clause-lasting g c =
    let at = c.self.inside in
    let disk = at.disk in
    let old = g.D.Disk.state disk in
    rw (← c.self.view_is) (λ form trees tree honest body durable.
    write_loses c.write_at.result form old (g.D.Disk.state c.write_at.new.self) at.place (open_gate ∷ []) (c.write_at.ensures.written honest)
    (list_keeps c.stands_for_one.ensures form old.now (with_write at.place 1 old.now) old.read trees tree (g.met.D.Disk.may_stay disk honest) (body_stands form trees tree at.place at.extent old body) (gate_crash form trees tree at.place at.extent old body durable)))

pub returns-in-Err-clause-written : goal.returns-in-Err-clause-written
returns-in-Err-clause-written g c = rw (← c.self.view_is) c.in-Err.ensures.written

pub invariant_of-self : goal.invariant_of-self
invariant_of-self g c =
    let at = c.self.inside in
    let next = next_of _ _ OpenGate c.self.view_is c.requires in
    record {
      written = c.self.invariant.written;
      inside = search rules;
      low = search rules;
      set = c.self.invariant.set;
      room = λ begun. c.self.invariant.room (subst IsBegun (sym next) tt);
      file = λ after.
          let honest = c.write_at.ensures.honest.1 after in
          opened_file at.form at.stored.items at.place at.extent at.source (g.D.Disk.state at.disk) at.next (g.D.Disk.state c.write_at.new.self) next (c.self.invariant.file honest) (c.in-Ok.ensures.written honest);
    }

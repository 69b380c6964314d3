use Rattle.disk_model.proofs.Moments.{sync_moments}
use Rattle.section_store.specs.Sections.{IsSections}
use Rattle.section_store.proofs.Outcomes.{body_stands, body_durable}
use Rattle.section_store.proofs.Lasting.{sync_loses}
use Rattle.section_store.proofs.store.SectionStore.sync_body.Goals as goal

pub returns-in-Ok-clause-body : goal.returns-in-Ok-clause-body
returns-in-Ok-clause-body g c =
    let at = c.self.inside in
    rw (← c.self.view_is) (λ form trees tree honest body.
    body_durable form trees tree at.place at.extent (g.D.Disk.state at.disk) (g.D.Disk.state c.sync.new.self) body (c.in-Ok.ensures.synced honest))

pub returns-in-Ok-clause-moments : goal.returns-in-Ok-clause-moments
returns-in-Ok-clause-moments g c =
    let at = c.self.inside in
    rw (← c.self.view_is) (λ form trees tree honest body.
    sync_moments c.sync.result (g.D.Disk.state at.disk) (g.D.Disk.state c.sync.new.self) (λ bytes. IsSections form bytes trees) (c.sync.ensures.synced honest)
    (body_stands form trees tree at.place at.extent (g.D.Disk.state at.disk) body))

pub returns-in-Ok-clause-lasting : goal.returns-in-Ok-clause-lasting
returns-in-Ok-clause-lasting g c =
    let disk = c.self.inside.disk in
    rw (← c.self.view_is) (λ form honest. sync_loses c.sync.result form (g.D.Disk.state disk) (g.D.Disk.state c.sync.new.self) (g.met.D.Disk.may_stay disk honest) (c.sync.ensures.synced honest))

pub returns-in-Err-clause-lasting : goal.returns-in-Err-clause-lasting
returns-in-Err-clause-lasting g c =
    let disk = c.self.inside.disk in
    rw (← c.self.view_is) (λ form honest. sync_loses c.sync.result form (g.D.Disk.state disk) (g.D.Disk.state c.sync.new.self) (g.met.D.Disk.may_stay disk honest) (c.sync.ensures.synced honest))

use Rattle.service_days.proofs.cover.Cover.before.Goals as goal

pub returns-clause-noon : goal.returns-clause-noon
returns-clause-noon c =
    let zone = c.self.invariant.2 in
    rw (← c.self.view_is) (zone.0, zone.2)

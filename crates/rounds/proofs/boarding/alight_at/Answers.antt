use Rattle.std.proofs.Common.{true≢false, sym, ◌∙◌, refl}
use Rattle.rounds.proofs.boarding.alight_at.Goals as goal

pub returns-then-halt-clause-closed : goal.returns-then-halt-clause-closed
returns-then-halt-clause-closed c = λ closed. absurd (closed c.if-halt.true)

pub returns-else-halt-clause-some : goal.returns-else-halt-clause-some
returns-else-halt-clause-some c = λ t b may read ready. absurd (true≢false (sym may ∙ c.if-halt.false))

pub times_at-requires : goal.times_at-requires
times_at-requires c = c.requires.position

pub alight-requires-clause-to : goal.alight-requires-clause-to
alight-requires-clause-to c = c.requires.known

pub alight-requires-clause-short : goal.alight-requires-clause-short
alight-requires-clause-short c = c.requires.short

pub returns-then-halt-clause-same : goal.returns-then-halt-clause-same
returns-then-halt-clause-same c = c.alight.ensures.same

pub returns-else-halt-clause-closed : goal.returns-else-halt-clause-closed
returns-else-halt-clause-closed c = λ _. refl

pub returns-else-halt-clause-same : goal.returns-else-halt-clause-same
returns-else-halt-clause-same c = record { size = refl; settled = refl }

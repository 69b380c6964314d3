use Rattle.std.proofs.Common.{Option, ◌≡◌, ℕ, ◌≤◌, Some, None, IfSome, sym, ◌∙◌, refl}
use Rattle.timetable.proofs.Rows.{walk_short}
use Rattle.pattern_query.proofs.feet.foot.Goals as goal

each : (o : Option ℕ) → ((w : ℕ) → o ≡ Some w → w ≤ 86400) → IfSome o (λ w. w ≤ 86400)
each None h = tt
each (Some w) h = h w refl

pub returns-clause-short : goal.returns-clause-short
returns-clause-short c =
    each c.walk.result (λ w e. walk_short c.timetable-table.result.now c.args.from c.args.to w c.walk.ensures.valid (sym c.walk.ensures.value ∙ e))

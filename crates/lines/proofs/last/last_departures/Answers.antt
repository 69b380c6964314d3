use Rattle.std.proofs.Common.{ℕ, sym, ◌∙◌, subst}
use Rattle.std.specs.List.{All}
use Rattle.lines.specs.Lines.{CallsAt}
use Rattle.lines.proofs.last.last_departures.Goals as goal

pub of-requires : goal.of-requires
of-requires c =
    let row = c.at-item.result in
    subst (All (λ at. (stop : ℕ) × CallsAt c.args.lines.now stop at)) (sym (c.row.ensures ∙ c.at-item.is)) (c.requires c.loop-at.at-index row c.loop-at-test.true)

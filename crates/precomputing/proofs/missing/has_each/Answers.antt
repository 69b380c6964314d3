use Rattle.std.proofs.Common.{◌≡◌, ◌+◌, ◌-◌, true, ℕ, List, sym, ◌∙◌, ap, arith}
use Rattle.precomputing.specs.Missing.{is_missing, missing_of}
use Rattle.precomputing.proofs.MissingFacts.{missing_same, one_missing}
use Rattle.precomputing.proofs.missing.has_each.Goals as goal

pub returns-then-lacks : goal.returns-then-lacks
returns-then-lacks g c =
    let n : ℕ = c.loop-number.number in
    let part = c.args.part in
    let stored : List ℕ = c.args.desk.now.stored in
    let lacks : is_missing part stored n ≡ true = sym c.lacks.ensures ∙ c.if-lacks.true in
    let all : n + 1 + (c.args.stops - (n + 1)) ≡ c.args.stops = omega arith in (
      λ is. absurd cc,
      λ none. absurd (one_missing part stored n (c.args.stops - (n + 1)) lacks (ap (λ (k : ℕ). missing_of part k stored) all ∙ none)),
    )

pub loop-number-preserved : goal.loop-number-preserved
loop-number-preserved g c =
    missing_same c.args.part c.args.desk.now.stored c.loop-number.number (sym c.lacks.ensures ∙ c.if-lacks.false) ∙ c.loop-number.invariant

use Rattle.std.proofs.Common.{rules, ◌≡◌, ℕ, length, take, refl, sym, ◌∙◌, ap, arith}
use Rattle.std.proofs.lemmas.List.{take_all}
use Rattle.migration.proofs.Fronts.{front_by}
use Rattle.migration.proofs.comparing.begin_with.Goals as goal

pub returns : goal.returns
returns c =
    let front = c.args.front.now in
    let trees = c.args.trees.now in
    let end : c.loop-i.i ≡ length front = search rules in
    let same : take (length front) trees ≡ front =
    ap (λ (n : ℕ). take n trees) (sym end) ∙ c.loop-i.invariant ∙ take_all c.loop-i.i front (omega (arith, end)) in
    (λ _. front_by front trees same, λ _. refl)

use Rattle.std.proofs.Common.{◌≡◌, ℕ, replicate, arith}
use Rattle.std.proofs.lemmas.List.{length-replicate}
use Rattle.rounds.specs.Noted.{no_position}
use Rattle.rounds.proofs.NotedSteps.{noted_nothing, all_past}
use Rattle.rounds.proofs.noted.Noted.none.Goals as goal

pub invariant_of-result : goal.invariant_of-result
invariant_of-result c =
    let n = c.args.lines in
    let e : c.in_ok-vec.field-0.items ≡ replicate {A = ℕ} n no_position = c.in_ok-vec.ensures.items_if_clones_equal (λ y same. same) in
    let room = c.in_ok-with_capacity.ensures.capacity in
    let long = length-replicate {A = ℕ} n no_position in
    rw e (noted_nothing (replicate {A = ℕ} n no_position) _ _ c.in_ok-with_capacity.ensures.items (omega (arith, room, long)) (all_past n))

use Rattle.std.proofs.Common.{◌≡◌, ℕ, zero, suc, ◌++◌, List, [], ◌∷◌, length, arith, ap, refl, ◌∙◌}
use Rattle.std.proofs.lemmas.List.{length-append}
use Rattle.reaching.specs.declared.steps.Step.{Step}
use Rattle.reaching.specs.Steps.{steps_at}
use Rattle.reaching.proofs.gathering.no_steps.Goals as goal

none_at : (t : ℕ) → steps_at [] t ≡ []
none_at zero = refl
none_at (suc t) = refl

-- one more stop without steps
one_more : (all : List (List Step)) → ((t : ℕ) → steps_at all t ≡ []) → (t : ℕ) → steps_at (all ++ [] ∷ []) t ≡ []
one_more [] none zero = refl
one_more [] none (suc t) = none_at t
one_more (steps ∷ all) none zero = none 0
one_more (steps ∷ all) none (suc t) = one_more all (λ u. none (suc u)) t

pub loop-init : goal.loop-init
loop-init c = record {
  count = ap length c.in_ok-all.ensures.items;
  none = λ t. ap (λ (all : List (List Step)). steps_at all t) c.in_ok-all.ensures.items ∙ none_at t;
}

pub loop-preserved : goal.loop-preserved
loop-preserved c =
    let all = c.loop.all.items in
    let count = c.loop.invariant.count in
    let items = c.in_ok-push.ensures.items ∙ ap (λ (steps : List Step). all ++ steps ∷ []) c.none.ensures in
    record {
      count = ap length items ∙ (omega (arith, count, length-append all ([] ∷ [])));
      none = λ t. ap (λ (all : List (List Step)). steps_at all t) items ∙ one_more all c.loop.invariant.none t;
    }

pub returns-clause-count : goal.returns-clause-count
returns-clause-count c =
    let count = c.loop.invariant.count in
    let past = c.loop-test.false in
    let most = c.loop.auto.counter-end in
    omega (arith, count, past, most)

pub returns-clause-none : goal.returns-clause-none
returns-clause-none c = c.loop.invariant.none

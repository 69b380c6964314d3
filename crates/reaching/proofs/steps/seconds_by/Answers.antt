use Rattle.std.proofs.Common.{◌≡◌, ℕ, ◌+◌, ◌-◌, max, false, Option, arith, refl, sym, ◌∙◌, subst}
use Rattle.reaching.specs.Steps.{is_some_by, tally}
use Rattle.reaching.proofs.TallyFacts.{tally-from, tally-none}
use Rattle.reaching.proofs.steps.seconds_by.Goals as goal

pub returns-in-Some : goal.returns-in-Some
returns-in-Some c =
    let low = c.args.from in
    let n : ℕ = c.args.end - low in
    let x = c.args.seconds in
    let a = c.in-Some.arrival in
    let count = tally-from a x low n in
    let le = c.requires in
    let is : c.saturating_sub-in-Some.result ≡ low + n - max low (a - x) = omega (
      arith,
      le,
      c.saturating_sub-in-Some.ensures,
      c.max.ensures,
      c.from.ensures,
      c.saturating_sub.ensures,
    ) in
    subst (λ (o : Option ℕ). c.saturating_sub-in-Some.result ≡ tally (λ d. is_some_by o (d + x)) low n) (sym c.in-Some.is) (is ∙ sym count)

pub returns-in-None : goal.returns-in-None
returns-in-None c =
    let low = c.args.from in
    let n : ℕ = c.args.end - low in
    let x = c.args.seconds in
    subst (λ (o : Option ℕ). 0 ≡ tally (λ d. is_some_by o (d + x)) low n) (sym c.in-None.is)
    (sym (tally-none (λ d. false) low n (λ d. refl)))

use Rattle.std.proofs.Common.{◌≡◌, ℕ, ◌+◌, ◌-◌, ◌/◌, ◌≤◌, arith, subst, inl, inr}
use Rattle.std.proofs.lemmas.Bool.{cases_lt}
use Rattle.reaching.specs.Steps.{is_within, tally}
use Rattle.reaching.proofs.StepFacts.{within_more, within_most}
use Rattle.reaching.proofs.steps.Steps.rank.Goals as goal

pub loop-low-preserved-then-count_within-enough-2 : goal.loop-low-preserved-then-count_within-enough-2
loop-low-preserved-then-count_within-enough-2 c =
    let middle : ℕ = c.loop-low.low + (c.loop-low.high - c.loop-low.low) / 2 in
    let some = c.loop-low-test.true in
    record {
      within = (let z : middle + 1 ≤ c.loop-low.high = omega (arith, some) in z);
      enough = c.loop-low.invariant.enough;
      fewer = λ x lt.
          let more = within_more c.args.walk c.args.self.now x middle c.args.first (c.args.last + 1 - c.args.first) (omega (arith, lt)) in
          let few = c.if-count_within-enough-2.true in
          let is = c.count_within-in-loop-low.ensures in
          omega (arith, more, few, is);
    }

pub returns : goal.returns
returns c = (
  c.loop-low.invariant.enough,
  λ x enough. elim (cases_lt x c.loop-low.low) [
    | inl lt ↦ (let few = c.loop-low.invariant.fewer x lt in absurd (let z : ⊥ = omega (arith, few, enough) in z))
    | inr le ↦ (let past = c.loop-low-test.false in let z : c.loop-low.high ≤ x = omega (arith, le, past) in z)
  ],
)

pub returns-then-count_within-enough : goal.returns-then-count_within-enough
returns-then-count_within-enough c = λ x enough.
    let most = within_most c.args.walk c.args.self.now x c.args.first (c.args.last + 1 - c.args.first) c.requires.steps.small in
    let is = c.count_within.ensures in
    let few = c.if-count_within-enough.true in
    let high = subst (λ (h : ℕ). c.count_within.result
    ≡ tally (is_within c.args.walk c.args.self.now h) c.args.first (c.args.last + 1 - c.args.first)) c.unwrap_or-high.ensures is in
    let z : ⊥ = omega (arith, most, high, few, enough) in z

use Rattle.std.proofs.Common.{◌≡◌, ℕ, get_or, true≢false, arith, sym, ◌∙◌, ap, subst, inl, inr}
use Rattle.std.proofs.lemmas.Bool.{cases_eq}
use Rattle.std.proofs.lemmas.List.{get_or_default}
use Rattle.pattern_query.specs.Answer.{PointData}
use Rattle.connections.specs.Found.{IsNoWorse}
use Rattle.connections.proofs.asking.is_there.Goals as goal

pub loop-point-preserved : goal.loop-point-preserved
loop-point-preserved c = λ i d lt in' worse. elim (cases_eq i c.loop-point.point-index) [
  | inl e ↦
      let q = c.point-item.result in
      let same : get_or c.args.next.now i d ≡ q =
      ap (λ (x : ℕ). get_or c.args.next.now x d) e ∙ get_or_default c.args.next.now c.loop-point.point-index d q c.loop-point-test.true ∙ sym c.point-item.is in
      true≢false (sym (c.is_no_worse.ensures.1 (subst (λ (p : PointData). IsNoWorse p c.args.journey.now) same worse)) ∙ c.if-is_no_worse.false)
  | inr apart ↦ c.loop-point.invariant i d (omega (arith, lt, apart)) in' worse
]

pub returns : goal.returns
returns c = (
  λ t. absurd (true≢false (sym t)),
  λ there.
      let at = there.1 in
      let lt = at.1 in
      let past = c.loop-point-test.false in
      absurd (c.loop-point.invariant at.0 there.0 (omega (arith, lt, past)) lt (subst (λ (p : PointData). IsNoWorse p c.args.journey.now) (sym at.2) there.2)),
)

use Rattle.std.proofs.Common.{◌≡◌, ap, refl, arith, true, false, pos, neg_ℤ, ◌<ℤ◌}
use Rattle.jiff.proofs.Family.{epoch_day_range, same_date}
use Rattle.jiff_core.proofs.SignedLemmas.{signed_arith}
use Rattle.jiff_core.specs.Date.{epoch_day}
use Rattle.feed_report.proofs.service.week_around.Goals as goal

pub returns-in_default : goal.returns-in_default
returns-in_default c = record {
  before = c.loop-before.before;
  few = omega arith;
  first_is = c.loop-before.invariant;
  days_is = refl;
  all = λ less earlier is.
      let low = (epoch_day_range earlier).0 in
      let lt : neg_ℤ (pos 4_371_587) <ℤ epoch_day c.loop-before.first = omega (arith, signed_arith, low, is) in
      let never : false ≡ true = c.in_default.ensures.succeeds.1 lt in
      absurd (let bottom : ⊥ = cc in bottom);
}

pub returns-then-year-lt0 : goal.returns-then-year-lt0
returns-then-year-lt0 c = record {
  before = c.loop-before.before;
  few = omega arith;
  first_is = c.loop-before.invariant;
  days_is = refl;
  all = λ less earlier is.
      let value = c.in-Ok.ensures.value in
      let same : earlier ≡ c.in-Ok.day = same_date earlier c.in-Ok.day (omega (arith, signed_arith, is, value)) in
      let negative = c.if-year-lt0.true in
      let year = ap (λ d. d.year) same in
      omega (arith, signed_arith, negative, year);
}

use Rattle.std.proofs.Common.{◌≡◌, ℕ, Some, sym, subst}
use Rattle.std.specs.List.{Contains}
use Rattle.std.proofs.lemmas.List.{take_all}
use Rattle.timetable.specs.Journeys.{IsLeast, foot}
use Rattle.told_connections.proofs.WalkFacts.{least_more, least_none, least_one}
use Rattle.told_connections.proofs.walks.least_from.Goals as goal

pub loop-to-init : goal.loop-to-init
loop-to-init c = least_none (λ t w. foot c.args.table.now c.args.from t ≡ Some w)

pub loop-to-preserved : goal.loop-to-preserved
loop-to-preserved c =
    let T = c.args.table.now in
    let s = c.args.from in
    let t = c.to-item.result in
    least_more (λ t w. foot T s t ≡ Some w) c.args.tos.now c.loop-to.to-index t c.loop-to.least c.foot.result c.shorter-least.result
    c.loop-to-test.true c.to-item.is c.loop-to.invariant
    (subst (λ o. IsLeast (λ w. foot T s t ≡ Some w) o) (sym c.foot.ensures) (least_one (foot T s t)))
    c.shorter-least.ensures.one c.shorter-least.ensures.other c.shorter-least.ensures.either

pub returns : goal.returns
returns c =
    subst (λ l. IsLeast (λ w. (t : ℕ) × Contains l t × (foot c.args.table.now c.args.from t ≡ Some w)) c.loop-to.least)
    (take_all c.loop-to.to-index c.args.tos.now c.loop-to-test.false) c.loop-to.invariant

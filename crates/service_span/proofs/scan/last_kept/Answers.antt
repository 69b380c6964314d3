use Rattle.std.proofs.Common.{◌≡◌, ◌∙◌, sym, ◌<ℤ◌, true, false, pos, neg_ℤ}
use Rattle.jiff_core.specs.Date.{epoch_day}
use Rattle.service_span.proofs.ScanFacts.{at_most, above, none_after_end, before_after, none_right, first_day, fewer_before}
use Rattle.service_span.proofs.scan.last_kept.Goals as goal

pub dates-init : goal.dates-init
dates-init c = none_after_end c.args.removed.now c.args.row.now

pub returns-in_default : goal.returns-in_default
returns-in_default c =
    let within = at_most (epoch_day c.args.row.now.start) (epoch_day c.dates.date) c.le.result c.le.ensures c.dates-test.true in
    let after : ¬ (neg_ℤ (pos 4_371_587) <ℤ epoch_day c.dates.date) = λ lt. (let never : false ≡ true = c.in_default.ensures.succeeds.1 lt in let bottom : ⊥ = cc in bottom) in
    first_day c.args.removed.now c.args.row.now c.dates.date c.dates.invariant within after (sym c.is_kept.ensures ∙ c.if-is_kept.false)

pub dates-smaller : goal.dates-smaller
dates-smaller c =
    fewer_before (epoch_day c.args.row.now.start) (epoch_day c.dates.date) (epoch_day c.in-Ok.next) (at_most (epoch_day c.args.row.now.start) (epoch_day c.dates.date) c.le.result c.le.ensures c.dates-test.true) c.in-Ok.ensures.value

pub dates-preserved : goal.dates-preserved
dates-preserved c =
    before_after c.args.removed.now c.args.row.now c.dates.date c.in-Ok.next c.dates.invariant (at_most (epoch_day c.args.row.now.start) (epoch_day c.dates.date) c.le.result c.le.ensures c.dates-test.true)
    c.in-Ok.ensures.value (sym c.is_kept.ensures ∙ c.if-is_kept.false)

pub returns : goal.returns
returns c = none_right c.args.removed.now c.args.row.now c.dates.date c.dates.invariant (above (epoch_day c.args.row.now.start) (epoch_day c.dates.date) c.le.result c.le.ensures c.dates-test.false)

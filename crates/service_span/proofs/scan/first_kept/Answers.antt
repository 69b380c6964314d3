use Rattle.std.proofs.Common.{◌≡◌, ◌∙◌, sym, ◌<ℤ◌, true, false, pos}
use Rattle.jiff_core.specs.Date.{epoch_day}
use Rattle.service_span.proofs.ScanFacts.{at_most, above, none_before_start, next_before, none_left, last_day, fewer}
use Rattle.service_span.proofs.scan.first_kept.Goals as goal

pub dates-init : goal.dates-init
dates-init c = none_before_start c.args.removed.now c.args.row.now

pub returns-in_default : goal.returns-in_default
returns-in_default c =
    let within = at_most (epoch_day c.dates.date) (epoch_day c.args.row.now.end) c.le.result c.le.ensures c.dates-test.true in
    let after : ¬ (epoch_day c.dates.date <ℤ pos 2_932_896) = λ lt. (let never : false ≡ true = c.in_default.ensures.succeeds.1 lt in let bottom : ⊥ = cc in bottom) in
    last_day c.args.removed.now c.args.row.now c.dates.date c.dates.invariant within after (sym c.is_kept.ensures ∙ c.if-is_kept.false)

pub dates-smaller : goal.dates-smaller
dates-smaller c =
    fewer (epoch_day c.args.row.now.end) (epoch_day c.dates.date) (epoch_day c.in-Ok.next) (at_most (epoch_day c.dates.date) (epoch_day c.args.row.now.end) c.le.result c.le.ensures c.dates-test.true) c.in-Ok.ensures.value

pub dates-preserved : goal.dates-preserved
dates-preserved c =
    next_before c.args.removed.now c.args.row.now c.dates.date c.in-Ok.next c.dates.invariant (at_most (epoch_day c.dates.date) (epoch_day c.args.row.now.end) c.le.result c.le.ensures c.dates-test.true)
    c.in-Ok.ensures.value (sym c.is_kept.ensures ∙ c.if-is_kept.false)

pub returns : goal.returns
returns c = none_left c.args.removed.now c.args.row.now c.dates.date c.dates.invariant (above (epoch_day c.dates.date) (epoch_day c.args.row.now.end) c.le.result c.le.ensures c.dates-test.false)

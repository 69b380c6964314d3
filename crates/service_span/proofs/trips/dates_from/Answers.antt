use Rattle.std.proofs.Common.{◌≡◌, arith, ap}
use Rattle.jiff_core.proofs.DateLemmas.{epoch_day_range}
use Rattle.jiff_core.proofs.SignedLemmas.{signed_arith}
use Rattle.service_span.proofs.trips.dates_from.Goals as goal
use Rattle.service_span.proofs.trips.dates_from.Goals.{then-from-behind, else-from-behind}

pub returns-clause-all : goal.returns-clause-all
returns-clause-all c = λ less date is.
    let count : c.new.result.count ≡ c.if-from-behind.count = ap (λ d. d.count) c.new.ensures in
    let number = c.day_number-behind.ensures.number in
    let last = (epoch_day_range date).1 in
    elim c.if-from-behind.branch [
      | then-from-behind w ↦ let e = w.count-is in omega (arith, signed_arith, less, e, count)
      | else-from-behind w ↦ let e = w.count-is in let f = w.if-from-behind.false in omega (arith, signed_arith, e, f, count, number, last, is)
    ]

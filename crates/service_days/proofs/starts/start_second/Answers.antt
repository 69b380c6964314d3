use Rattle.std.proofs.Common.{rules, arith, ◌≡◌, ◌-ℤ◌, pos, w64, FitsSigned}
use Rattle.std.proofs.lemmas.Int.{to_z-of_z}
use Rattle.jiff_core.proofs.SignedLemmas.{signed_arith}
use Rattle.jiff_core.specs.Timestamp.{nanos_of_seconds}
use Rattle.service_days.specs.Noon.{noon_instant}
use Rattle.service_days.proofs.starts.start_second.Goals as goal

pub returns-clause-seconds : goal.returns-clause-seconds
returns-clause-seconds c =
    let noon : nanos_of_seconds c.noon_second.result ≡ noon_instant c.args.zone.now c.args.date =
    rw (c.from_plain-zone.ensures, c.from_plain.ensures, c.plain.ensures) at c.noon_second.ensures.seconds in
    let fits : FitsSigned w64 c.noon_second.result = search rules in
    let start : FitsSigned w64 (c.noon_second.result -ℤ pos 43_200) = search rules in
    rw (to_z-of_z w64 c.noon_second.result fits, to_z-of_z w64 (c.noon_second.result -ℤ pos 43_200) start) (omega (arith, signed_arith, noon))

use Rattle.std.proofs.Common.{◌%◌, arith, eq-eqb, refl, sym}
use Rattle.std.proofs.lemmas.Bool.{eqb-true}
use Rattle.stop_parts.proofs.laws.each_once.Goals as goal

pub returns : goal.returns
returns c = λ count stop some. (
  stop % count,
  omega arith,
  eq-eqb (stop % count) (stop % count) refl,
  λ other is. sym (eqb-true (stop % count) other is),
)

use Rattle.std.proofs.Common.{◌≡◌, ◌%◌, arith, eq-eqb}
use Rattle.stop_parts.proofs.laws.whole_has_all.Goals as goal

pub returns : goal.returns
returns c = λ stop. let none : stop % 1 ≡ 0 = omega arith in eq-eqb (stop % 1) 0 none

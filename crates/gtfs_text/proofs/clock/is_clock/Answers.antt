use Rattle.std.proofs.Common.{◌≤◌, arith, codes, get_or, take}
use Rattle.std.proofs.lemmas.List.{get_or-take}
use Rattle.gtfs_text.proofs.clock.is_clock.Goals as goal

pub returns-then-none_below : goal.returns-then-none_below
returns-then-none_below c within = record {
  least = λ k bound.
      let low : get_or (codes "00:00:00") k 0 ≤ get_or (take 8 c.args.text.now) k 0 = c.none_below.ensures c.if-none_below.true k bound in
      omega (arith, low, get_or-take 8 c.args.text.now k 0 bound);
  most = λ k bound.
      let high : get_or (take 8 c.args.text.now) k 0 ≤ get_or (codes "99:59:59") k 0 = c.none_below-then-none_below.ensures within k bound in
      omega (arith, high, get_or-take 8 c.args.text.now k 0 bound);
}

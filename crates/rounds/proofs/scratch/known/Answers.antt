use Rattle.std.proofs.Common.{◌<◌, length, arith, ap}
use Rattle.rounds.specs.declared.layer.Layer.{Layer}
use Rattle.rounds.proofs.LayerLists.{read_at}
use Rattle.rounds.proofs.scratch.known.Goals as goal

pub returns-then-index-eq0-clause-first : goal.returns-then-index-eq0-clause-first
returns-then-index-eq0-clause-first c = λ _.
    let in' : 0 < length c.args.layers.now = omega (arith, c.requires, c.if-index-eq0.true) in
    ap (λ (x : Layer). x.rode) (read_at c.args.layers.now 0 c.index-layers-0.result in')

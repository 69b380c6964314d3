use Rattle.std.proofs.Common.{sym, subst}
use Rattle.std.proofs.lemmas.Result.{MatchResult-weaker}
use Rattle.pattern_tree.specs.Completeness.{Complete}
use Rattle.pattern_tree.specs.Content.{Content}
use Rattle.rounds.specs.Scratch.{rides_of}
use Rattle.pattern_building.proofs.finishing.build_and_copy.Goals as goal

pub returns-clause-complete : goal.returns-clause-complete
returns-clause-complete c =
    MatchResult-weaker c.copy_to.result c.copy_to.ensures
    (λ tree same. subst (λ (t : Content). Complete c.args.table.now (rides_of c.args.scratch.now) c.args.source t.pairs) (sym same) c.in_ok-tree.ensures.complete)
    (λ fault _. tt)

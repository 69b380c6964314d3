use Rattle.std.proofs.Common.{◌++◌, List, ◌∙◌, ap}
use Rattle.std.specs.Arc.{arc_value}
use Rattle.timetable.specs.Table.{stops_of}
use Rattle.pattern_tree.specs.Content.{Content}
use Rattle.recovery.specs.Excerpts.{trees_of}
use Rattle.recovery.proofs.Excerpts.{kept_all, sources_below}
use Rattle.recovery.proofs.calls.recover_trees_of.Goals as goal

pub returns-in-Ok-clause-excerpt : goal.returns-in-Ok-clause-excerpt
returns-in-Ok-clause-excerpt g c = λ honest.
    let given = c.in-Ok.ensures.given in
    let are = kept_all _ _ given.trees given.given ∙ ap (λ (l : List Content). l ++ trees_of c.args.stops.now given.trees) c.new.ensures.items in
    record {
      trees = given.trees;
      stands = given.stands honest;
      holds = given.holds honest;
      exact = given.exact honest;
      kept_are = are;
    }

pub returns-in-Ok-clause-known : goal.returns-in-Ok-clause-known
returns-in-Ok-clause-known g c =
    let given = c.in-Ok.ensures.given in
    sources_below (stops_of (arc_value c.args.table.now)) given.trees c.in-Ok.store.stored given.stored_are given.known

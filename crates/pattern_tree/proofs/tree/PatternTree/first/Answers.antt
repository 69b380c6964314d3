use Rattle.std.proofs.Common.{ap, arith}
use Rattle.pattern_tree.specs.Content.{Content}
use Rattle.pattern_tree.proofs.tree.PatternTree.first.Goals as goal

pub returns-clause-content : goal.returns-clause-content
returns-clause-content g c = rw c.as_slice.ensures.value (ap (λ (v : Content). v.pairs) c.self.view_is)

pub returns-clause-ordered : goal.returns-clause-ordered
returns-clause-ordered g c = rw c.as_slice.ensures.value c.self.invariant.ordered

pub returns-clause-not_deep : goal.returns-clause-not_deep
returns-clause-not_deep g c = rw c.as_slice.ensures.value c.self.invariant.not_deep

pub returns-clause-few_nodes : goal.returns-clause-few_nodes
returns-clause-few_nodes g c = rw c.as_slice.ensures.value (omega (arith, c.self.invariant.nodes_counted, c.self.invariant.few_nodes))

pub returns-clause-few_ends : goal.returns-clause-few_ends
returns-clause-few_ends g c = rw c.as_slice.ensures.value (omega (arith, c.self.invariant.ends_counted, c.self.invariant.few_ends))

use Rattle.std.proofs.Common.{rules}
use Rattle.std.proofs.lemmas.List.Sorted.{answers_always}
use Rattle.reaching.proofs.SortFacts.{key_of, sorted-before}
use Rattle.reaching.proofs.reaching.sort_stops.Goals as goal

pub returns-clause-sorted : goal.returns-clause-sorted
returns-clause-sorted c = λ rising.
    sorted-before c.args.list.now.items c.sort_by_key.new.self.items rising c.sort_by_key.ensures.permutation
    (c.in_ok-sort_by_key.ensures.sorted key_of (answers_always _ _ _ (λ f a r g h. search rules)))

use Rattle.std.proofs.Common.{◌≡◌, ◌∙◌, List, [], length, arith, ap, subst}
use Rattle.std.specs.List.Sorted.{IsPermutation}
use Rattle.std.proofs.lemmas.List.{length-map}
use Rattle.std.proofs.lemmas.List.Sorted.{IsPermutation-map}
use Rattle.pattern_tree.specs.Forest.{Pair, forest}
use Rattle.pattern_tree.specs.Branch.{branches}
use Rattle.packed_patterns.specs.Patterns.{pair_of, pairs_of, path_to, Packs}
use Rattle.packed_patterns.proofs.PackFacts.{packed_tree, path_of_none}
use Rattle.packed_patterns.proofs.patterns.Patterns.of.Goals as goal

pub returns-clause-pairs : goal.returns-clause-pairs
returns-clause-pairs g c =
    let bs = c.pack_level.new.beginnings.items in
    let ps = c.pack_level.new.patterns.items in
    let f = forest (branches c.first.result.now) in
    let packs : Packs [] [] 0 f bs ps = rw (c.in_ok-beginnings.ensures.items, c.in_ok-patterns.ensures.items) at c.in_ok-pack_level.ensures in
    let all : pairs_of bs ps ≡ c.args.tree.now.pairs = packed_tree f bs ps packs ∙ c.first.ensures.content in
    subst (λ (l : List Pair). IsPermutation l (pairs_of bs c.in_ok-sorted.field-0.items)) all
    (IsPermutation-map (pair_of bs) ps c.in_ok-sorted.field-0.items c.in_ok-sorted.ensures.permutation)

pub pack_level-requires-clause-deep : goal.pack_level-requires-clause-deep
pack_level-requires-clause-deep g c =
    let none : length (path_to 8 c.in_ok-beginnings.beginnings.items 0) ≡ 0 = ap length (path_of_none c.in_ok-beginnings.beginnings.items) in
    omega (arith, none, c.first.ensures.not_deep)

pub sorted-requires : goal.sorted-requires
sorted-requires g c =
    let bs = c.pack_level.new.beginnings.items in
    let ps = c.pack_level.new.patterns.items in
    let f = forest (branches c.first.result.now) in
    let packs : Packs [] [] 0 f bs ps = rw (c.in_ok-beginnings.ensures.items, c.in_ok-patterns.ensures.items) at c.in_ok-pack_level.ensures in
    let all : pairs_of bs ps ≡ c.args.tree.now.pairs = packed_tree f bs ps packs ∙ c.first.ensures.content in
    let size = length-map ps (pair_of bs) in
    let same = ap (λ (l : List Pair). length l) all in
    omega (arith, size, same, c.ends.ensures, c.ends.type_inv)

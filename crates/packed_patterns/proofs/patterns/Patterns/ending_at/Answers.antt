use Rattle.std.proofs.Common.{◌≡◌, ◌↔◌, ◌-◌, true, false, List, length, take, drop, ltb, sym, ◌∙◌, ap, subst, rules}
use Rattle.std.specs.List.{Contains}
use Rattle.std.specs.List.Sorted.{IsPartitionPoint}
use Rattle.std.proofs.lemmas.List.Sorted.{IsPartitionPoint-from_clause, IsPartitionedBy-ltb}
use Rattle.pattern_tree.specs.Forest.{Step}
use Rattle.packed_patterns.specs.declared.packing.Beginning.{Beginning}
use Rattle.packed_patterns.specs.declared.packing.Pattern.{Pattern}
use Rattle.packed_patterns.specs.Patterns.{paths_of, pairs_of, AreByEnd, IsFirstOther}
use Rattle.packed_patterns.proofs.EndFacts.{part_is, rest_is}
use Rattle.packed_patterns.proofs.patterns.Patterns.ending_at.Goals as goal

pub returns : goal.returns
returns g c =
    let bs : List Beginning = c.self.inside.beginnings.items in
    let ps : List Pattern = c.self.inside.by_end.items in
    let end = c.args.end in
    let from = c.partition_point-from.result in
    let n = c.first_other.result in
    let all : c.deref.result.now ≡ ps = c.deref.ensures.value in
    let part : List Pattern = take (length c.deref-2.result.now - from) (drop from c.deref-2.result.now) in
    let rest : part ≡ drop from ps = rest_is from c.deref-2.result.now ∙ ap (λ (l : List Pattern). drop from l) c.deref-2.ensures.value in
    let low = IsPartitionPoint-from_clause (λ (p : Pattern). ltb p.end end) c.deref.result.now from c.partition_point-from.ensures.partitioned
    (IsPartitionedBy-ltb (λ (p : Pattern). p.end) c.deref.result.now end (subst AreByEnd (sym all) c.self.invariant)) (λ a r f k. search rules) in
    let is = part_is bs ps end from n c.self.invariant
    (subst (λ (l : List Pattern). IsPartitionPoint (λ (p : Pattern). ltb p.end end ≡ true) (λ (p : Pattern). ltb p.end end ≡ false) l from) all low)
    (subst (λ (l : List Pattern). IsFirstOther l end n) rest c.first_other.ensures) in
    rw (← c.self.view_is, c.as_slice.ensures.value)
    (subst (λ (l : List Pattern). (path : List Step) → Contains (paths_of bs (take n l)) path ↔ Contains (pairs_of bs ps) (path, end)) (sym rest) is)

use Rattle.std.proofs.Common.{refl, List, ◌≡◌, ◌≤◌, ◌↔◌, IsTrue, inl, inr, arith, rules, sym, ap, subst}
use Rattle.std.specs.List.{Contains}
use Rattle.pattern_tree.specs.Forest.{Branch, Pair, pairs, forest}
use Rattle.pattern_tree.specs.Paths.{Has}
use Rattle.pattern_tree.specs.Branch.{branches}
use Rattle.pattern_tree.specs.Content.{Content}
use Rattle.pattern_tree.proofs.InsertionFacts.{added_pairs, found_pairs, added_tree, not_both, too_large, not_too_large, only_memory}
use Rattle.pattern_tree.proofs.PairOrderFacts.{once_as}
use Rattle.pattern_tree.proofs.KeptFacts.{ordered_added}
use Rattle.pattern_tree.proofs.tree.PatternTree.insert.Goals as goal
use Rattle.pattern_tree.proofs.tree.PatternTree.insert.Goals.{then-fresh-self-via-then-fresh-self, then-fresh-self-via-else-fresh-self+then-self-eq-MOST_ENDS}

pub returns-then-holds-clause-new : goal.returns-then-holds-clause-new
returns-then-holds-clause-new g c =
    let f = forest (branches c.self.inside.first.items) in
    let seen : pairs f ≡ c.args.self.now.pairs = ap (λ (v : Content). v.pairs) c.self.view_is in
    let found = found_pairs c.args.path.now c.args.end f c.args.self.now.pairs c.holds.result seen (rw (← c.deref.ensures.value) c.holds.ensures) in
    let there = found.0 (search rules) in
    (λ h. absurd (search rules), λ h. absurd (h there))

pub returns-then-holds-clause-added : goal.returns-then-holds-clause-added
returns-then-holds-clause-added g c p =
    let f = forest (branches c.self.inside.first.items) in
    let seen : pairs f ≡ c.args.self.now.pairs = ap (λ (v : Content). v.pairs) c.self.view_is in
    let found = found_pairs c.args.path.now c.args.end f c.args.self.now.pairs c.holds.result seen (rw (← c.deref.ensures.value) c.holds.ensures) in
    let there = found.0 (search rules) in
    (λ h. inl h, elim [ inl h ↦ h | inr is ↦ subst (λ (x : Pair). Contains c.args.self.now.pairs x) (sym is) there ])

pub overflow_cast-fresh : goal.overflow_cast-fresh
overflow_cast-fresh g c = search (rules, (let b = c.missing-fresh.ensures.bound in let s = c.in-Some.ensures.cases.1 in let h = c.requires.short in let r : c.missing-fresh.result ≤ 8 = omega (arith, b, s, h) in r))

pub invariant_of-self-2 : goal.invariant_of-self-2
invariant_of-self-2 g c =
    let f = forest (branches c.self.inside.first.items) in
    let e = c.in_ok-add.ensures.ok in
    let held : IsTrue c.holds.result ↔ Has c.args.path.now c.args.end f = rw (← c.deref.ensures.value) c.holds.ensures in
    added_tree c.self.inside.nodes c.self.inside.ends c.missing-fresh.result c.args.path.now c.in-Some.later.now c.in-Some.step.now c.args.end f _ c.self.invariant c.in-Some.ensures.cases.0 e c.requires.short
    (λ h. not_both c.holds.result c.if-holds.false (held.1 h))
    (rw (← c.deref-2.ensures.value) c.missing-fresh.ensures.count)
    (omega (arith, c.if-fresh-self.false, c.self.invariant.few_nodes))
    (omega (arith, c.if-self-eq-MOST_ENDS.false, c.self.invariant.few_ends))

pub returns-clause-new : goal.returns-clause-new
returns-clause-new g c =
    let f = forest (branches c.self.inside.first.items) in
    let seen : pairs f ≡ c.args.self.now.pairs = ap (λ (v : Content). v.pairs) c.self.view_is in
    let found = found_pairs c.args.path.now c.args.end f c.args.self.now.pairs c.holds.result seen (rw (← c.deref.ensures.value) c.holds.ensures) in
    (λ _ there. not_both c.holds.result c.if-holds.false (found.1 there), λ _. search rules)

pub returns-clause-added : goal.returns-clause-added
returns-clause-added g c =
    let f = forest (branches c.self.inside.first.items) in
    let seen : pairs f ≡ c.args.self.now.pairs = ap (λ (v : Content). v.pairs) c.self.view_is in
    added_pairs c.args.path.now c.in-Some.later.now c.in-Some.step.now c.args.end f _ c.args.self.now.pairs c.in-Some.ensures.cases.0 c.in_ok-add.ensures.ok seen

pub returns-then-holds-clause-large : goal.returns-then-holds-clause-large
returns-then-holds-clause-large g c =
    let f = forest (branches c.self.inside.first.items) in
    let seen : pairs f ≡ c.args.self.now.pairs = ap (λ (v : Content). v.pairs) c.self.view_is in
    let found = found_pairs c.args.path.now c.args.end f c.args.self.now.pairs c.holds.result seen (rw (← c.deref.ensures.value) c.holds.ensures) in
    let there = found.0 (search rules) in
    (λ is. cc, λ large. absurd (large.0 there))

pub returns-then-fresh-self-clause-large : goal.returns-then-fresh-self-clause-large
returns-then-fresh-self-clause-large g c =
    let f = forest (branches c.self.inside.first.items) in
    let seen : pairs f ≡ c.args.self.now.pairs = ap (λ (v : Content). v.pairs) c.self.view_is in
    let found = found_pairs c.args.path.now c.args.end f c.args.self.now.pairs c.holds.result seen (rw (← c.deref.ensures.value) c.holds.ensures) in (
      λ _. too_large c.self.inside.nodes c.self.inside.ends c.missing-fresh.result c.args.path.now c.in-Some.later.now c.in-Some.step.now c.args.end f c.args.self.now.pairs c.self.invariant c.in-Some.ensures.cases.0 seen
          (rw (← c.deref-2.ensures.value) c.missing-fresh.ensures.count)
          (λ there. not_both c.holds.result c.if-holds.false (found.1 there))
          (elim c.then-fresh-self.branch [
            | then-fresh-self-via-then-fresh-self w ↦ inl (omega (arith, w.if-fresh-self.true))
            | then-fresh-self-via-else-fresh-self+then-self-eq-MOST_ENDS w ↦ inr (omega (arith, w.if-self-eq-MOST_ENDS.true))
          ]),
      λ _. refl,
    )

pub returns-in_err-add-clause-large : goal.returns-in_err-add-clause-large
returns-in_err-add-clause-large g c =
    let f = forest (branches c.self.inside.first.items) in
    let seen : pairs f ≡ c.args.self.now.pairs = ap (λ (v : Content). v.pairs) c.self.view_is in (
      λ is. absurd (only_memory c.from_residual.result c.from_residual.ensures.1 is),
      λ large. absurd (not_too_large c.self.inside.nodes c.self.inside.ends c.missing-fresh.result c.args.path.now c.in-Some.later.now c.in-Some.step.now c.args.end f c.args.self.now.pairs c.self.invariant c.in-Some.ensures.cases.0 seen
          (rw (← c.deref-2.ensures.value) c.missing-fresh.ensures.count)
          (omega (arith, c.if-fresh-self.false, c.self.invariant.few_nodes))
          (omega (arith, c.if-self-eq-MOST_ENDS.false, c.self.invariant.few_ends))
          large),
    )

pub returns-clause-large : goal.returns-clause-large
returns-clause-large g c =
    let f = forest (branches c.self.inside.first.items) in
    let seen : pairs f ≡ c.args.self.now.pairs = ap (λ (v : Content). v.pairs) c.self.view_is in (
      λ is. cc,
      λ large. absurd (not_too_large c.self.inside.nodes c.self.inside.ends c.missing-fresh.result c.args.path.now c.in-Some.later.now c.in-Some.step.now c.args.end f c.args.self.now.pairs c.self.invariant c.in-Some.ensures.cases.0 seen
          (rw (← c.deref-2.ensures.value) c.missing-fresh.ensures.count)
          (omega (arith, c.if-fresh-self.false, c.self.invariant.few_nodes))
          (omega (arith, c.if-self-eq-MOST_ENDS.false, c.self.invariant.few_ends))
          large),
    )

pub returns-then-holds-clause-once : goal.returns-then-holds-clause-once
returns-then-holds-clause-once g c =
    once_as (forest (branches c.self.inside.first.items)) c.args.self.now.pairs c.self.invariant.ordered (ap (λ (v : Content). v.pairs) c.self.view_is)

pub returns-then-fresh-self-clause-once : goal.returns-then-fresh-self-clause-once
returns-then-fresh-self-clause-once g c =
    once_as (forest (branches c.self.inside.first.items)) c.args.self.now.pairs c.self.invariant.ordered (ap (λ (v : Content). v.pairs) c.self.view_is)

pub returns-in_err-add-clause-there : goal.returns-in_err-add-clause-there
returns-in_err-add-clause-there g c there =
    let f = forest (branches c.self.inside.first.items) in
    let seen : pairs f ≡ c.args.self.now.pairs = ap (λ (v : Content). v.pairs) c.self.view_is in
    let found = found_pairs c.args.path.now c.args.end f c.args.self.now.pairs c.holds.result seen (rw (← c.deref.ensures.value) c.holds.ensures) in
    absurd (not_both c.holds.result c.if-holds.false (found.1 there))

pub returns-clause-there : goal.returns-clause-there
returns-clause-there g c there =
    let f = forest (branches c.self.inside.first.items) in
    let seen : pairs f ≡ c.args.self.now.pairs = ap (λ (v : Content). v.pairs) c.self.view_is in
    let found = found_pairs c.args.path.now c.args.end f c.args.self.now.pairs c.holds.result seen (rw (← c.deref.ensures.value) c.holds.ensures) in
    absurd (not_both c.holds.result c.if-holds.false (found.1 there))

pub returns-in_err-add-clause-once : goal.returns-in_err-add-clause-once
returns-in_err-add-clause-once g c =
    once_as (forest (branches c.self.inside.first.items)) (pairs (forest (branches c.add.new.level.items))) c.self.invariant.ordered
    (ap (λ (bs : List Branch). pairs (forest bs)) (sym c.in_err-add.ensures.err))

pub returns-clause-once : goal.returns-clause-once
returns-clause-once g c =
    let f = forest (branches c.self.inside.first.items) in
    let ordered = ordered_added c.in-Some.step.now c.in-Some.later.now c.args.end f c.self.invariant.ordered in
    once_as _ (pairs (forest (branches c.add.new.level.items))) ordered (ap pairs (sym c.in_ok-add.ensures.ok))

pub returns-then-fresh-self-clause-there : goal.returns-then-fresh-self-clause-there
returns-then-fresh-self-clause-there g c there =
    let f = forest (branches c.self.inside.first.items) in
    let seen : pairs f ≡ c.args.self.now.pairs = ap (λ (v : Content). v.pairs) c.self.view_is in
    let found = found_pairs c.args.path.now c.args.end f c.args.self.now.pairs c.holds.result seen (rw (← c.deref.ensures.value) c.holds.ensures) in
    absurd (not_both c.holds.result c.if-holds.false (found.1 there))

pub returns-in_default-clause-new : goal.returns-in_default-clause-new
returns-in_default-clause-new g c = absurd (omega (arith, c.in_default.ensures.cases, c.requires.some))

pub returns-in_default-clause-added : goal.returns-in_default-clause-added
returns-in_default-clause-added g c = absurd (omega (arith, c.in_default.ensures.cases, c.requires.some))

pub returns-in_default-clause-large : goal.returns-in_default-clause-large
returns-in_default-clause-large g c = absurd (omega (arith, c.in_default.ensures.cases, c.requires.some))

pub returns-in_default-clause-once : goal.returns-in_default-clause-once
returns-in_default-clause-once g c = absurd (omega (arith, c.in_default.ensures.cases, c.requires.some))

pub holds-requires : goal.holds-requires
holds-requires g c = rw c.deref.ensures.value c.self.invariant.ordered

pub missing-fresh-requires-clause-ordered : goal.missing-fresh-requires-clause-ordered
missing-fresh-requires-clause-ordered g c = rw c.deref-2.ensures.value c.self.invariant.ordered

pub missing-fresh-requires-clause-short : goal.missing-fresh-requires-clause-short
missing-fresh-requires-clause-short g c = omega (arith, c.requires.short, c.in-Some.ensures.cases.1)

pub overflow_sub-self-inside : goal.overflow_sub-self-inside
overflow_sub-self-inside g c = c.self.invariant.few_nodes

pub add-requires : goal.add-requires
add-requires g c = c.self.invariant.ordered

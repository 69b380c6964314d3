-- An insertion, in the words of `PatternTree::insert`.
use Rattle.std.proofs.Common.{◌≡◌, ℕ, ◌+◌, ◌<◌, ◌≤◌, ◌⊎◌, ◌↔◌, IsTrue, Bool, true, false, List, ◌∷◌, length, inl, inr, arith, rules, sym, ap, subst, ◌∙◌}
use Rattle.std.proofs.Common.{Result, Ok, Err}
use Rattle.std.specs.Prelude.{IsErrAnd}
use Rattle.std.specs.List.{Contains}
use Rattle.pattern_tree.specs.declared.tree.TheConstants.{MOST_ENDS, MOST_NODES}
use Rattle.pattern_tree.specs.declared.fault.TreeFault.{TreeFault}
use Rattle.pattern_tree.specs.declared.fault.TreeFault.TheVariants.{Memory, TooLarge}
use Rattle.pattern_tree.specs.Content.{IsTree, IsTooLarge, beginnings}
use Rattle.pattern_tree.specs.Forest.{Forest, Pair, Step, pairs}
use Rattle.pattern_tree.specs.Paths.{Has, IsIn}
use Rattle.pattern_tree.specs.Added.{with_pair, missing_count}
use Rattle.pattern_tree.proofs.KeptFacts.{has_added, ordered_added, nodes_added, ends_added, levels_added}
use Rattle.pattern_tree.proofs.PairFacts.{has_in, in_has, pair_is, in_contains, contains_in}
use Rattle.pattern_tree.proofs.CountFacts.{length_pairs, known_missing, beginnings_nodes}

-- the pairs of a forest with one pair added
pub added_pairs : (path q : List Step) (s : Step) (e : ℕ) (f g : Forest) (ps : List Pair) → path ≡ s ∷ q → g ≡ with_pair s q e f → pairs f ≡ ps → (p : Pair) → Contains (pairs g) p ↔ (Contains ps p ⊎ (p ≡ (path, e)))
added_pairs path q s e f g ps is made seen p =
    let has = has_added s q e f p.0 p.1 in (
      λ i. elim (has.0 (in_has p.0 p.1 (with_pair s q e f) (subst (λ (h : Forest). IsIn p (pairs h)) made (contains_in p (pairs g) i)))) [
        | inl k ↦ inl (subst (λ (xs : List Pair). Contains xs p) seen (in_contains p (pairs f) (has_in p.0 p.1 f k)))
        | inr k ↦ inr (pair_is p path e (k.0 ∙ sym is) k.1)
      ],
      elim [
        | inl k ↦ in_contains p (pairs g) (subst (λ (h : Forest). IsIn p (pairs h)) (sym made) (has_in p.0 p.1 (with_pair s q e f) (has.1 (inl (in_has p.0 p.1 f (contains_in p (pairs f) (subst (λ (xs : List Pair). Contains xs p) (sym seen) k)))))))
        | inr k ↦ in_contains p (pairs g) (subst (λ (h : Forest). IsIn p (pairs h)) (sym made) (has_in p.0 p.1 (with_pair s q e f) (has.1 (inr (ap (λ (x : Pair). x.0) k ∙ is, ap (λ (x : Pair). x.1) k)))))
      ],
    )

-- what a search answered, of the pairs
pub found_pairs : (path : List Step) (e : ℕ) (f : Forest) (ps : List Pair) (b : Bool) → pairs f ≡ ps → IsTrue b ↔ Has path e f → IsTrue b ↔ Contains ps (path, e)
found_pairs path e f ps b seen h = (
  λ t. subst (λ (xs : List Pair). Contains xs (path, e)) seen (in_contains (path, e) (pairs f) (has_in path e f (h.0 t))),
  λ i. h.1 (in_has path e f (contains_in (path, e) (pairs f) (subst (λ (xs : List Pair). Contains xs (path, e)) (sym seen) i))),
)

pub added_tree : (nodes ends fresh : ℕ) (path q : List Step) (s : Step) (e : ℕ) (f g : Forest) → IsTree nodes ends f → path ≡ s ∷ q → g ≡ with_pair s q e f → length path ≤ 8 → (Has path e f → ⊥) → fresh ≡ missing_count s q f → nodes + fresh ≤ MOST_NODES → ends + 1 ≤ MOST_ENDS → IsTree (nodes + fresh) (ends + 1) g
added_tree nodes ends fresh path q s e f g tree is made short new count few_nodes few_ends =
    subst (IsTree (nodes + fresh) (ends + 1)) (sym made) record {
      ordered = ordered_added s q e f tree.ordered;
      not_deep = omega (arith, levels_added s q e f, tree.not_deep, short, ap length is);
      nodes_counted = omega (arith, nodes_added s q e f, tree.nodes_counted, count);
      ends_counted = omega (arith, ends_added s q e f (λ h. new (subst (λ (p : List Step). Has p e f) (sym is) h)), tree.ends_counted);
      few_nodes = few_nodes;
      few_ends = few_ends;
    }

pub not_both : (b : Bool) → b ≡ false → IsTrue b → ⊥
not_both true e t = absurd (search rules)
not_both false e t = absurd (search rules)

-- the counts with the pair put in front
counted_nodes : (nodes ends : ℕ) (path q : List Step) (s : Step) (e : ℕ) (f : Forest) (ps : List Pair) → IsTree nodes ends f → path ≡ s ∷ q → pairs f ≡ ps → beginnings ((path, e) ∷ ps) ≡ nodes + missing_count s q f
counted_nodes nodes ends path q s e f ps tree is seen =
    rw is (rw (← seen) (omega (arith, beginnings_nodes f tree.ordered, known_missing s q f tree.ordered, tree.nodes_counted)))

counted_ends : (nodes ends : ℕ) (f : Forest) (ps : List Pair) → IsTree nodes ends f → pairs f ≡ ps → length ps ≡ ends
counted_ends nodes ends f ps tree seen = rw (← seen) (omega (arith, length_pairs f, tree.ends_counted))

-- a count would pass its limit
pub too_large : (nodes ends fresh : ℕ) (path q : List Step) (s : Step) (e : ℕ) (f : Forest) (ps : List Pair) → IsTree nodes ends f → path ≡ s ∷ q → pairs f ≡ ps → fresh ≡ missing_count s q f → (Contains ps (path, e) → ⊥) → (MOST_NODES < nodes + fresh) ⊎ (MOST_ENDS ≤ ends) → IsTooLarge ps (path, e)
too_large nodes ends fresh path q s e f ps tree is seen count new over =
    let n = counted_nodes nodes ends path q s e f ps tree is seen in
    let m = counted_ends nodes ends f ps tree seen in (
      new,
      elim over [ inl more ↦ inl (omega (arith, n, count, more)) | inr most ↦ inr (omega (arith, m, most)) ],
    )

-- no count would
pub not_too_large : (nodes ends fresh : ℕ) (path q : List Step) (s : Step) (e : ℕ) (f : Forest) (ps : List Pair) → IsTree nodes ends f → path ≡ s ∷ q → pairs f ≡ ps → fresh ≡ missing_count s q f → nodes + fresh ≤ MOST_NODES → ends < MOST_ENDS → IsTooLarge ps (path, e) → ⊥
not_too_large nodes ends fresh path q s e f ps tree is seen count few_nodes few_ends large =
    let n = counted_nodes nodes ends path q s e f ps tree is seen in
    let m = counted_ends nodes ends f ps tree seen in
    elim large.1 [ inl more ↦ omega (arith, n, count, more, few_nodes) | inr more ↦ omega (arith, m, more, few_ends) ]

-- a fault that is want of memory isn't the other
pub only_memory : (r : Result Bool TreeFault) → IsErrAnd r (λ fault. fault ≡ Memory) → r ≡ Err TooLarge → ⊥
only_memory (Ok new) h is = cc
only_memory (Err fault) h is = cc

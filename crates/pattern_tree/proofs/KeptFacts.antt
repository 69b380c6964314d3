-- What an addition keeps and what it changes.
use Rattle.std.proofs.Common.{◌≡◌, ℕ, zero, suc, ◌+◌, ◌<◌, ◌≤◌, ◌⊎◌, ◌↔◌, max, List, [], ◌∷◌, length, get_or, inl, inr, arith, sym, ap, subst, refl, ◌∙◌}
use Rattle.std.proofs.lemmas.Bool.{cases_order, lt-ltb, le-ltb}
use Rattle.pattern_tree.specs.Forest.{Branch, Forest, none, node, forest, Step, IsBefore, IsBeforeFirst, IsOrdered, Rises, HasItem, step_of, node_count, end_count, levels}
use Rattle.pattern_tree.specs.Paths.{Has, IsIn}
use Rattle.pattern_tree.specs.Added.{chain_of, with_end, cons, with_pair, missing_count}
use Rattle.pattern_tree.proofs.AdditionFacts.{compared, added_first, added_later, added_here, before_true, before_false, before_self, with_pair_from}
use Rattle.pattern_tree.proofs.PairFacts.{rises_tail}
use Rattle.pattern_tree.specs.Siblings.{StepsRise, IsStepAt, IsGapAt}

abbrev pub branch_of : ℕ → ℕ → List ℕ → Forest → Branch
branch_of b a ends next = record { board = b; alight = a; ends = ends; next = next }

-- ends

end_compared : (P : List ℕ → Type 0) (e x : ℕ) (xs : List ℕ) → (e < x → P (e ∷ x ∷ xs)) → (x < e → P (x ∷ with_end e xs)) → (e ≡ x → P (x ∷ xs)) → P (with_end e (x ∷ xs))
end_compared P e x xs first later here =
    elim (cases_order e x) [
      | inr (inl less) ↦ rw (lt-ltb e x less) (first less)
      | inr (inr more) ↦ rw (le-ltb e x (omega arith), lt-ltb x e more) (later more)
      | inl same ↦ rw (le-ltb e x (omega arith), le-ltb x e (omega arith)) (here same)
    ]

rises_after : (x e : ℕ) (xs : List ℕ) → x < e → Rises (x ∷ xs) → Rises (with_end e xs) → Rises (x ∷ with_end e xs)
rises_after x e [] less r k = (less, tt)
rises_after x e (y ∷ xs) less r k =
    end_compared (λ ys. Rises ys → Rises (x ∷ ys)) e y xs (λ _ k. (less, k)) (λ _ k. (r.0, k)) (λ _ k. (r.0, k)) k

pub rises_with_end : (e : ℕ) (xs : List ℕ) → Rises xs → Rises (with_end e xs)
rises_with_end e [] r = tt
rises_with_end e (x ∷ xs) r =
    end_compared Rises e x xs (λ less. (less, r)) (λ more. rises_after x e xs more r (rises_with_end e xs (rises_tail x xs r))) (λ _. r)

pub in_with_end : (x e : ℕ) (xs : List ℕ) → IsIn x (with_end e xs) ↔ (IsIn x xs ⊎ (x ≡ e))
in_with_end x e [] = (elim [ inl is ↦ inr is | inr h ↦ absurd h ], elim [ inl h ↦ absurd h | inr is ↦ inl is ])
in_with_end x e (y ∷ xs) =
    end_compared (λ ys. IsIn x ys ↔ (IsIn x (y ∷ xs) ⊎ (x ≡ e))) e y xs
    (λ _. (elim [ inl is ↦ inr is | inr h ↦ inl h ], elim [ inl h ↦ inr h | inr is ↦ inl is ]))
    (λ _. let rec = in_with_end x e xs in (
      elim [ inl is ↦ inl (inl is) | inr h ↦ elim (rec.0 h) [ inl k ↦ inl (inr k) | inr is ↦ inr is ] ],
      elim [ inl h ↦ elim h [ inl is ↦ inl is | inr k ↦ inr (rec.1 (inl k)) ] | inr is ↦ inr (rec.1 (inr is)) ],
    ))
    (λ same. ((λ h. inl h), elim [ inl h ↦ h | inr is ↦ inl (is ∙ same) ]))

pub length_with_end : (e : ℕ) (xs : List ℕ) → (IsIn e xs → ⊥) → length (with_end e xs) ≡ length xs + 1
length_with_end e [] new = omega arith
length_with_end e (x ∷ xs) new =
    end_compared (λ ys. length ys ≡ length (x ∷ xs) + 1) e x xs (λ _. omega arith) (λ _. omega (arith, length_with_end e xs (λ h. new (inr h)))) (λ same. absurd (new (inl same)))

-- forests, by how the step stands beside a first node

pub at_first : (P : Forest → Type 0) (s : Step) (q : List Step) (e : ℕ) (b : Branch) (f : Forest) → (IsBefore s (step_of b) → P (cons (chain_of s q e) (cons b f))) → (IsBefore (step_of b) s → P (cons b (with_pair s q e f))) → (s ≡ step_of b → P (cons (with_pair_from q e b) f)) → P (with_pair s q e (cons b f))
at_first P s q e b f first later here =
    elim (compared s (step_of b)) [
      | inl less ↦ subst P (sym (added_first s q e b f less)) (first less)
      | inr (inl more) ↦ subst P (sym (added_later s q e b f more)) (later more)
      | inr (inr same) ↦ subst P (sym (added_here s q e b f same)) (here same)
    ]

chained_step : (r s : Step) (q : List Step) (e : ℕ) (f : Forest) → IsBefore r s → IsBeforeFirst r (cons (chain_of s q e) f)
chained_step r s [] e f h = h
chained_step r s (t ∷ q) e f h = h

grown_first : (r : Step) (q : List Step) (e : ℕ) (b : Branch) (f : Forest) → IsBefore r (step_of b) → IsBeforeFirst r (cons (with_pair_from q e b) f)
grown_first r [] e b f h = h
grown_first r (t ∷ q) e b f h = h

before_added : (r s : Step) (q : List Step) (e : ℕ) (f : Forest) → IsBefore r s → IsBeforeFirst r f → IsBeforeFirst r (with_pair s q e f)
before_added r s q e none less h = chained_step r s q e none less
before_added r s q e (node b a ends next rest) less h =
    at_first (IsBeforeFirst r) s q e (branch_of b a ends next) rest
    (λ _. chained_step r s q e (node b a ends next rest) less) (λ _. h) (λ _. grown_first r q e (branch_of b a ends next) rest h)

ordered_chain : (s : Step) (q : List Step) (e : ℕ) (f : Forest) → IsBeforeFirst s f → IsOrdered f → IsOrdered (cons (chain_of s q e) f)
ordered_chain s [] e f first o = (tt, tt, tt, first, o)
ordered_chain s (t ∷ q) e f first o = (tt, item t q, ordered_chain t q e none tt tt, first, o)
  where
    item : (t : Step) (q : List Step) → HasItem [] (forest (chain_of t q e ∷ []))
    item t q = tt

item_added : (xs : List ℕ) (s : Step) (q : List Step) (e : ℕ) (f : Forest) → HasItem xs (with_pair s q e f)
item_added (x ∷ xs) s q e f = tt
item_added [] s q e none = tt
item_added [] s q e (node b a ends next rest) = at_first (HasItem []) s q e (branch_of b a ends next) rest (λ _. tt) (λ _. tt) (λ _. tt)

item_with_end : (e : ℕ) (xs : List ℕ) (f : Forest) → HasItem (with_end e xs) f
item_with_end e [] f = tt
item_with_end e (x ∷ xs) f = end_compared (λ ys. HasItem ys f) e x xs (λ _. tt) (λ _. tt) (λ _. tt)

pub ordered_added : (s : Step) (q : List Step) (e : ℕ) (f : Forest) → IsOrdered f → IsOrdered (with_pair s q e f)
ordered_added s q e none o = ordered_chain s q e none tt tt
ordered_added s [] e (node b a ends next rest) o =
    at_first IsOrdered s [] e (branch_of b a ends next) rest
    (λ less. ordered_chain s [] e (node b a ends next rest) less o)
    (λ more. (o.0, o.1, o.2, before_added (b, a) s [] e rest more o.3, ordered_added s [] e rest o.4))
    (λ _. (rises_with_end e ends o.0, item_with_end e ends next, o.2, o.3, o.4))
ordered_added s (t ∷ q) e (node b a ends next rest) o =
    at_first IsOrdered s (t ∷ q) e (branch_of b a ends next) rest
    (λ less. ordered_chain s (t ∷ q) e (node b a ends next rest) less o)
    (λ more. (o.0, o.1, o.2, before_added (b, a) s (t ∷ q) e rest more o.3, ordered_added s (t ∷ q) e rest o.4))
    (λ _. (o.0, item_added ends t q e next, ordered_added t q e next o.2, o.3, o.4))

-- what a chain has

abbrev head : Step → List Step → Step
head s [] = s
head s (t ∷ q) = t

abbrev tail : List Step → List Step
tail [] = []
tail (t ∷ q) = q

two : {r s : Step} {p q : List Step} → r ≡ s → p ≡ q → r ∷ p ≡ s ∷ q
two {r} {s} {p} {q} a b = ap (λ (u : Step). u ∷ p) a ∙ ap (λ (m : List Step). s ∷ m) b

chain_has : (s : Step) (q : List Step) (e : ℕ) (f : Forest) (p : List Step) (x : ℕ) → Has p x (cons (chain_of s q e) f) ↔ (Has p x f ⊎ ((p ≡ s ∷ q) × (x ≡ e)))
chain_has s q e f [] x = (λ h. absurd h, elim [ inl h ↦ h | inr h ↦ absurd (omega (arith, ap length h.0)) ])
chain_has s [] e f (r ∷ []) x = (
  elim [ inl h ↦ elim h.1 [ inl is ↦ inr (ap (λ (u : Step). u ∷ []) h.0, is) | inr k ↦ absurd k ] | inr h ↦ inl h ],
  elim [ inl h ↦ inr h | inr h ↦ inl (ap (head s) h.0, inl h.1) ],
)
chain_has s (t ∷ q) e f (r ∷ []) x = (
  elim [ inl h ↦ absurd h.1 | inr h ↦ inl h ],
  elim [ inl h ↦ inr h | inr h ↦ absurd (omega (arith, ap length h.0)) ],
)
chain_has s [] e f (r ∷ u ∷ p) x = (
  elim [ inl h ↦ absurd h.1 | inr h ↦ inl h ],
  elim [ inl h ↦ inr h | inr h ↦ absurd (omega (arith, ap length h.0)) ],
)
chain_has s (t ∷ q) e f (r ∷ u ∷ p) x =
    let rec = chain_has t q e none (u ∷ p) x in (
      elim [ inl h ↦ elim (rec.0 h.1) [ inl k ↦ absurd k | inr k ↦ inr (two h.0 k.0, k.1) ] | inr h ↦ inl h ],
      elim [ inl h ↦ inr h | inr h ↦ inl (ap (head s) h.0, rec.1 (inr (ap tail h.0, h.1))) ],
    )

-- an addition has what was there, and the new pair
pub has_added : (s : Step) (q : List Step) (e : ℕ) (f : Forest) (p : List Step) (x : ℕ) → Has p x (with_pair s q e f) ↔ (Has p x f ⊎ ((p ≡ s ∷ q) × (x ≡ e)))
has_added s q e none p x = chain_has s q e none p x
has_added s q e (node b a ends next rest) [] x = (λ h. absurd h, elim [ inl h ↦ h | inr h ↦ absurd (omega (arith, ap length h.0)) ])
has_added s [] e (node b a ends next rest) (r ∷ []) x =
    at_first (λ f. Has (r ∷ []) x f ↔ (Has (r ∷ []) x (node b a ends next rest) ⊎ ((r ∷ [] ≡ s ∷ []) × (x ≡ e)))) s [] e (branch_of b a ends next) rest
    (λ less. chain_has s [] e (node b a ends next rest) (r ∷ []) x)
    (λ more. let rec = has_added s [] e rest (r ∷ []) x in (
      elim [ inl h ↦ inl (inl h) | inr h ↦ elim (rec.0 h) [ inl k ↦ inl (inr k) | inr k ↦ inr k ] ],
      elim [ inl h ↦ elim h [ inl k ↦ inl k | inr k ↦ inr (rec.1 (inl k)) ] | inr h ↦ inr (rec.1 (inr h)) ],
    ))
    (λ same. let ins = in_with_end x e ends in (
      elim [ inl h ↦ elim (ins.0 h.1) [ inl k ↦ inl (inl (h.0, k)) | inr k ↦ inr (ap (λ (u : Step). u ∷ []) (h.0 ∙ sym same), k) ] | inr h ↦ inl (inr h) ],
      elim [ inl h ↦ elim h [ inl k ↦ inl (k.0, ins.1 (inl k.1)) | inr k ↦ inr k ] | inr h ↦ inl (ap (head s) h.0 ∙ same, ins.1 (inr h.1)) ],
    ))
has_added s (t ∷ q) e (node b a ends next rest) (r ∷ []) x =
    at_first (λ f. Has (r ∷ []) x f ↔ (Has (r ∷ []) x (node b a ends next rest) ⊎ ((r ∷ [] ≡ s ∷ t ∷ q) × (x ≡ e)))) s (t ∷ q) e (branch_of b a ends next) rest
    (λ less. chain_has s (t ∷ q) e (node b a ends next rest) (r ∷ []) x)
    (λ more. let rec = has_added s (t ∷ q) e rest (r ∷ []) x in (
      elim [ inl h ↦ inl (inl h) | inr h ↦ elim (rec.0 h) [ inl k ↦ inl (inr k) | inr k ↦ inr k ] ],
      elim [ inl h ↦ elim h [ inl k ↦ inl k | inr k ↦ inr (rec.1 (inl k)) ] | inr h ↦ inr (rec.1 (inr h)) ],
    ))
    (λ same. (λ h. inl h, elim [ inl h ↦ h | inr h ↦ absurd (omega (arith, ap length h.0)) ]))
has_added s [] e (node b a ends next rest) (r ∷ u ∷ p) x =
    at_first (λ f. Has (r ∷ u ∷ p) x f ↔ (Has (r ∷ u ∷ p) x (node b a ends next rest) ⊎ ((r ∷ u ∷ p ≡ s ∷ []) × (x ≡ e)))) s [] e (branch_of b a ends next) rest
    (λ less. chain_has s [] e (node b a ends next rest) (r ∷ u ∷ p) x)
    (λ more. let rec = has_added s [] e rest (r ∷ u ∷ p) x in (
      elim [ inl h ↦ inl (inl h) | inr h ↦ elim (rec.0 h) [ inl k ↦ inl (inr k) | inr k ↦ inr k ] ],
      elim [ inl h ↦ elim h [ inl k ↦ inl k | inr k ↦ inr (rec.1 (inl k)) ] | inr h ↦ inr (rec.1 (inr h)) ],
    ))
    (λ same. (λ h. inl h, elim [ inl h ↦ h | inr h ↦ absurd (omega (arith, ap length h.0)) ]))
has_added s (t ∷ q) e (node b a ends next rest) (r ∷ u ∷ p) x =
    at_first (λ f. Has (r ∷ u ∷ p) x f ↔ (Has (r ∷ u ∷ p) x (node b a ends next rest) ⊎ ((r ∷ u ∷ p ≡ s ∷ t ∷ q) × (x ≡ e)))) s (t ∷ q) e (branch_of b a ends next) rest
    (λ less. chain_has s (t ∷ q) e (node b a ends next rest) (r ∷ u ∷ p) x)
    (λ more. let rec = has_added s (t ∷ q) e rest (r ∷ u ∷ p) x in (
      elim [ inl h ↦ inl (inl h) | inr h ↦ elim (rec.0 h) [ inl k ↦ inl (inr k) | inr k ↦ inr k ] ],
      elim [ inl h ↦ elim h [ inl k ↦ inl k | inr k ↦ inr (rec.1 (inl k)) ] | inr h ↦ inr (rec.1 (inr h)) ],
    ))
    (λ same. let rec = has_added t q e next (u ∷ p) x in (
      elim [ inl h ↦ elim (rec.0 h.1) [ inl k ↦ inl (inl (h.0, k)) | inr k ↦ inr (two (h.0 ∙ sym same) k.0, k.1) ] | inr h ↦ inl (inr h) ],
      elim [ inl h ↦ elim h [ inl k ↦ inl (k.0, rec.1 (inl k.1)) | inr k ↦ inr k ] | inr h ↦ inl (ap (head s) h.0 ∙ same, rec.1 (inr (ap tail h.0, h.1))) ],
    ))

-- counts

pub missing_first : (s : Step) (q : List Step) (b : Branch) (f : Forest) → IsBefore s (step_of b) → missing_count s q (cons b f) ≡ length (s ∷ q)
missing_first s [] b f h = rw (before_true s (step_of b) h)
missing_first s (t ∷ q) b f h = rw (before_true s (step_of b) h)

pub missing_later : (s : Step) (q : List Step) (b : Branch) (f : Forest) → IsBefore (step_of b) s → missing_count s q (cons b f) ≡ missing_count s q f
missing_later s [] b f h = rw (before_false (step_of b) s h, before_true (step_of b) s h)
missing_later s (t ∷ q) b f h = rw (before_false (step_of b) s h, before_true (step_of b) s h)

pub missing_end_here : (s : Step) (b : Branch) (f : Forest) → s ≡ step_of b → missing_count s [] (cons b f) ≡ 0
missing_end_here s b f h = rw h (rw (before_self (step_of b)))

pub missing_here : (s t : Step) (q : List Step) (b : Branch) (f : Forest) → s ≡ step_of b → missing_count s (t ∷ q) (cons b f) ≡ missing_count t q b.next
missing_here s t q b f h = rw h (rw (before_self (step_of b)))

chain_nodes : (s : Step) (q : List Step) (e : ℕ) (f : Forest) → node_count (cons (chain_of s q e) f) ≡ node_count f + length (s ∷ q)
chain_nodes s [] e f = omega arith
chain_nodes s (t ∷ q) e f = omega (arith, chain_nodes t q e none)

chain_ends : (s : Step) (q : List Step) (e : ℕ) (f : Forest) → end_count (cons (chain_of s q e) f) ≡ end_count f + 1
chain_ends s [] e f = omega arith
chain_ends s (t ∷ q) e f = omega (arith, chain_ends t q e none)

chain_levels : (s : Step) (q : List Step) (e : ℕ) (f : Forest) → levels (cons (chain_of s q e) f) ≡ max (length (s ∷ q)) (levels f)
chain_levels s [] e f = omega arith
chain_levels s (t ∷ q) e f = omega (arith, chain_levels t q e none)

pub nodes_added : (s : Step) (q : List Step) (e : ℕ) (f : Forest) → node_count (with_pair s q e f) ≡ node_count f + missing_count s q f
nodes_added s q e none = chain_nodes s q e none
nodes_added s [] e (node b a ends next rest) =
    at_first (λ f. node_count f ≡ node_count (node b a ends next rest) + missing_count s [] (node b a ends next rest)) s [] e (branch_of b a ends next) rest
    (λ less. omega (arith, chain_nodes s [] e (node b a ends next rest), missing_first s [] (branch_of b a ends next) rest less))
    (λ more. omega (arith, nodes_added s [] e rest, missing_later s [] (branch_of b a ends next) rest more))
    (λ same. omega (arith, missing_end_here s (branch_of b a ends next) rest same))
nodes_added s (t ∷ q) e (node b a ends next rest) =
    at_first (λ f. node_count f ≡ node_count (node b a ends next rest) + missing_count s (t ∷ q) (node b a ends next rest)) s (t ∷ q) e (branch_of b a ends next) rest
    (λ less. omega (arith, chain_nodes s (t ∷ q) e (node b a ends next rest), missing_first s (t ∷ q) (branch_of b a ends next) rest less))
    (λ more. omega (arith, nodes_added s (t ∷ q) e rest, missing_later s (t ∷ q) (branch_of b a ends next) rest more))
    (λ same. omega (arith, nodes_added t q e next, missing_here s t q (branch_of b a ends next) rest same))

pub ends_added : (s : Step) (q : List Step) (e : ℕ) (f : Forest) → (Has (s ∷ q) e f → ⊥) → end_count (with_pair s q e f) ≡ end_count f + 1
ends_added s q e none new = chain_ends s q e none
ends_added s [] e (node b a ends next rest) new =
    at_first (λ f. end_count f ≡ end_count (node b a ends next rest) + 1) s [] e (branch_of b a ends next) rest
    (λ less. chain_ends s [] e (node b a ends next rest))
    (λ more. omega (arith, ends_added s [] e rest (λ h. new (inr h))))
    (λ same. omega (arith, length_with_end e ends (λ h. new (inl (same, h)))))
ends_added s (t ∷ q) e (node b a ends next rest) new =
    at_first (λ f. end_count f ≡ end_count (node b a ends next rest) + 1) s (t ∷ q) e (branch_of b a ends next) rest
    (λ less. chain_ends s (t ∷ q) e (node b a ends next rest))
    (λ more. omega (arith, ends_added s (t ∷ q) e rest (λ h. new (inr h))))
    (λ same. omega (arith, ends_added t q e next (λ h. new (inl (same, h)))))

pub levels_added : (s : Step) (q : List Step) (e : ℕ) (f : Forest) → levels (with_pair s q e f) ≤ max (levels f) (length (s ∷ q))
levels_added s q e none = omega (arith, chain_levels s q e none)
levels_added s [] e (node b a ends next rest) =
    at_first (λ f. levels f ≤ max (levels (node b a ends next rest)) (length (s ∷ []))) s [] e (branch_of b a ends next) rest
    (λ less. omega (arith, chain_levels s [] e (node b a ends next rest)))
    (λ more. omega (arith, levels_added s [] e rest))
    (λ same. omega arith)
levels_added s (t ∷ q) e (node b a ends next rest) =
    at_first (λ f. levels f ≤ max (levels (node b a ends next rest)) (length (s ∷ t ∷ q))) s (t ∷ q) e (branch_of b a ends next) rest
    (λ less. omega (arith, chain_levels s (t ∷ q) e (node b a ends next rest)))
    (λ more. omega (arith, levels_added s (t ∷ q) e rest))
    (λ same. omega (arith, levels_added t q e next))

-- the number of missing steps, by index

pub missing_gap : (bs : List Branch) (s : Step) (q : List Step) (i : ℕ) → IsGapAt bs s i → missing_count s q (forest bs) ≡ length (s ∷ q)
missing_gap [] s q i gap = refl
missing_gap (b ∷ bs) s q zero gap = missing_first s q b (forest bs) (gap.2 0 b (omega arith) (omega arith))
missing_gap (b ∷ bs) s q (suc i) gap =
    missing_later s q b (forest bs) (gap.1 0 b (omega arith))
    ∙ missing_gap bs s q i (omega (arith, gap.0), (λ k d lt. gap.1 (suc k) d (omega (arith, lt))), (λ k d le lt. gap.2 (suc k) d (omega (arith, le)) (omega (arith, lt))))

step_before : (b : Branch) (bs : List Branch) (s : Step) (i : ℕ) → StepsRise (b ∷ bs) → IsStepAt (b ∷ bs) s (suc i) → IsBefore (step_of b) s
step_before b bs s i rise at = subst (λ (t : Step). IsBefore (step_of b) t) (at.1 b) (rise 0 (suc i) b (omega arith) at.0)

rise_rest : (b : Branch) (bs : List Branch) → StepsRise (b ∷ bs) → StepsRise bs
rise_rest b bs rise j k x lt in_range = rise (suc j) (suc k) x (omega (arith, lt)) (omega (arith, in_range))

pub missing_end_at : (bs : List Branch) (s : Step) (i : ℕ) → StepsRise bs → IsStepAt bs s i → missing_count s [] (forest bs) ≡ 0
missing_end_at [] s i rise at = absurd (omega (arith, at.0))
missing_end_at (b ∷ bs) s zero rise at = missing_end_here s b (forest bs) (sym (at.1 b))
missing_end_at (b ∷ bs) s (suc i) rise at = missing_later s [] b (forest bs) (step_before b bs s i rise at) ∙ missing_end_at bs s i (rise_rest b bs rise) (omega (arith, at.0), at.1)

pub missing_at : (bs : List Branch) (s t : Step) (q : List Step) (i : ℕ) (d : Branch) → StepsRise bs → IsStepAt bs s i → missing_count s (t ∷ q) (forest bs) ≡ missing_count t q (get_or bs i d).next
missing_at [] s t q i d rise at = absurd (omega (arith, at.0))
missing_at (b ∷ bs) s t q zero d rise at = missing_here s t q b (forest bs) (sym (at.1 b))
missing_at (b ∷ bs) s t q (suc i) d rise at = missing_later s (t ∷ q) b (forest bs) (step_before b bs s i rise at) ∙ missing_at bs s t q i d (rise_rest b bs rise) (omega (arith, at.0), at.1)

pub missing_le : (s : Step) (q : List Step) (f : Forest) → missing_count s q f ≤ length (s ∷ q)
missing_le s q none = omega arith
missing_le s [] (node b a ends next rest) =
    elim (compared s (b, a)) [
      | inl less ↦ omega (arith, missing_first s [] (branch_of b a ends next) rest less)
      | inr (inl more) ↦ omega (arith, missing_later s [] (branch_of b a ends next) rest more, missing_le s [] rest)
      | inr (inr same) ↦ omega (arith, missing_end_here s (branch_of b a ends next) rest same)
    ]
missing_le s (t ∷ q) (node b a ends next rest) =
    elim (compared s (b, a)) [
      | inl less ↦ omega (arith, missing_first s (t ∷ q) (branch_of b a ends next) rest less)
      | inr (inl more) ↦ omega (arith, missing_later s (t ∷ q) (branch_of b a ends next) rest more, missing_le s (t ∷ q) rest)
      | inr (inr same) ↦ omega (arith, missing_here s t q (branch_of b a ends next) rest same, missing_le t q next)
    ]

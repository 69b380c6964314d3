-- Siblings one by one, as a walk and the depth go over them.
use Rattle.std.proofs.Common.{◌≡◌, ℕ, zero, suc, ◌+◌, ◌<◌, ◌≤◌, max, List, [], ◌∷◌, ◌++◌, length, map, get_or, take, arith, sym, ap, subst, refl, ◌∙◌, ◌-◌, append_assoc, length-append}
use Rattle.std.proofs.Math.Seq.{take-append_seam}
use Rattle.std.proofs.lemmas.List.{take_more, length-map, map-append, append-nil}
use Rattle.pattern_tree.specs.Forest.{Branch, forest, Step, Pair, pairs, levels, step_of}
use Rattle.pattern_tree.specs.Branch.{branch, branches}
use Rattle.pattern_tree.specs.Walks.{ShownAll, ending, after}
use Rattle.pattern_tree.specs.declared.node.Node.{Node}
use Rattle.pattern_tree.specs.declared.node.Node.TheViews.{out-Node}
use Rattle.pattern_tree.proofs.NodeFacts.{branch_at, step_out}
use Rattle.pattern_tree.proofs.PairFacts.{under, ending as ends_at}

-- levels

levels_last : (bs : List Branch) (b : Branch) → levels (forest (bs ++ b ∷ [])) ≡ max (levels (forest bs)) (levels b.next + 1)
levels_last [] b = omega arith
levels_last (c ∷ bs) b = omega (arith, levels_last bs b)

pub levels_more : {A : Type 0} (ns : List (Node A)) (i : ℕ) (n : Node A) → n ≡ get_or ns i n → i < length ns → levels (forest (take (i + 1) (branches ns))) ≡ max (levels (forest (take i (branches ns)))) (levels (branch n).next + 1)
levels_more ns i n is lt =
    ap (λ (bs : List Branch). levels (forest bs)) (take_more (branches ns) i (branch n) (omega (arith, lt, length-map ns branch)))
    ∙ ap (λ (b : Branch). levels (forest (take i (branches ns) ++ b ∷ []))) (branch_at ns i n (branch n) is lt)
    ∙ levels_last (take i (branches ns)) (branch n)

levels_get : (bs : List Branch) (i : ℕ) (d : Branch) → i < length bs → levels (get_or bs i d).next + 1 ≤ levels (forest bs)
levels_get [] i d lt = absurd (omega (arith, lt))
levels_get (b ∷ bs) zero d lt = omega arith
levels_get (b ∷ bs) (suc i) d lt = omega (arith, levels_get bs i d (omega (arith, lt)))

pub levels_at : {A : Type 0} (ns : List (Node A)) (i : ℕ) (n : Node A) → n ≡ get_or ns i n → i < length ns → levels (branch n).next + 1 ≤ levels (forest (branches ns))
levels_at ns i n is lt =
    subst (λ (b : Branch). levels b.next + 1 ≤ levels (forest (branches ns))) (branch_at ns i n (branch n) is lt) (levels_get (branches ns) i (branch n) (omega (arith, lt, length-map ns branch)))

-- pairs

pub pairs_last : (bs : List Branch) (b : Branch) → pairs (forest (bs ++ b ∷ [])) ≡ pairs (forest bs) ++ (map (ends_at (step_of b)) b.ends ++ map (under (step_of b)) (pairs b.next))
pairs_last [] b = ap (λ (ps : List Pair). map (ends_at (step_of b)) b.ends ++ ps) (append-nil (map (under (step_of b)) (pairs b.next)))
pairs_last (c ∷ bs) b =
    ap (λ (ps : List Pair). map (ends_at (step_of c)) c.ends ++ (map (under (step_of c)) (pairs c.next) ++ ps)) (pairs_last bs b)
    ∙ ap (λ (ps : List Pair). map (ends_at (step_of c)) c.ends ++ ps) (sym (append_assoc (map (under (step_of c)) (pairs c.next)) (pairs (forest bs)) _))
    ∙ sym (append_assoc (map (ends_at (step_of c)) c.ends) (map (under (step_of c)) (pairs c.next) ++ pairs (forest bs)) _)

pub after_ends : (path : List Step) (s : Step) (es : List ℕ) → map (after path) (map (ends_at s) es) ≡ map (ending (path ++ s ∷ [])) es
after_ends path s [] = refl
after_ends path s (e ∷ es) = ap (λ (ps : List Pair). (path ++ s ∷ [], e) ∷ ps) (after_ends path s es)

pub after_under : (path : List Step) (s : Step) (ps : List Pair) → map (after path) (map (under s) ps) ≡ map (after (path ++ s ∷ [])) ps
after_under path s [] = refl
after_under path s (p ∷ ps) =
    ap (λ (q : List Step). (q, p.1) ∷ map (after path) (map (under s) ps)) (sym (append_assoc path (s ∷ []) p.0))
    ∙ ap (λ (xs : List Pair). ((path ++ s ∷ []) ++ p.0, p.1) ∷ xs) (after_under path s ps)

pub after_nil : (ps : List Pair) → map (after []) ps ≡ ps
after_nil [] = refl
after_nil (p ∷ ps) = ap (λ (xs : List Pair). p ∷ xs) (after_nil ps)

-- what is shown

pub shown_append : {X : Type 0} (R : X → Pair → X → Type 0) (x y z : X) (ps qs : List Pair) → ShownAll R x ps y → ShownAll R y qs z → ShownAll R x (ps ++ qs) z
shown_append {X} R x y z [] qs h k = subst (λ (w : X). ShownAll R w qs z) h k
shown_append R x y z (p ∷ ps) qs h k = (h.0, h.1, shown_append R h.0 y z ps qs h.2 k)

pub shown_one : {X : Type 0} (R : X → Pair → X → Type 0) (x y : X) (p : Pair) → R x p y → ShownAll R x (p ∷ []) y
shown_one R x y p h = (y, h, refl)

-- with one more end
pub shown_end : {X : Type 0} (R : X → Pair → X → Type 0) (x y z : X) (path : List Step) (es : List ℕ) (i e : ℕ) → e ≡ get_or es i e → i < length es → ShownAll R x (map (ending path) (take i es)) y → R y (path, e) z → ShownAll R x (map (ending path) (take (i + 1) es)) z
shown_end R x y z path es i e is lt h k =
    let more : take (i + 1) es ≡ take i es ++ (e ∷ []) = take_more es i e lt ∙ ap (λ (x : ℕ). take i es ++ (x ∷ [])) (sym is) in
    subst (λ (ps : List Pair). ShownAll R x ps z)
    (sym (ap (map (ending path)) more ∙ map-append (ending path) (take i es) (e ∷ [])))
    (shown_append R x y z (map (ending path) (take i es)) (ending path e ∷ []) h (shown_one R y z (path, e) k))

-- with one more sibling
pub shown_more : {A X : Type 0} (R : X → Pair → X → Type 0) (x y u z : X) (path : List Step) (ns : List (Node A)) (i : ℕ) (n : Node A) → n ≡ get_or ns i n → i < length ns
    → ShownAll R x (map (after path) (pairs (forest (take i (branches ns))))) y
    → ShownAll R y (map (ending (path ++ step_of (branch n) ∷ [])) (branch n).ends) u
    → ShownAll R u (map (after (path ++ step_of (branch n) ∷ [])) (pairs (branch n).next)) z
    → ShownAll R x (map (after path) (pairs (forest (take (i + 1) (branches ns))))) z
shown_more R x y u z path ns i n is lt so_far with_ends with_next =
    let b = branch n in
    let old = pairs (forest (take i (branches ns))) in
    let es = map (ends_at (step_of b)) b.ends in
    let us = map (under (step_of b)) (pairs b.next) in
    let bs_more : take (i + 1) (branches ns) ≡ take i (branches ns) ++ (b ∷ []) =
    take_more (branches ns) i b (omega (arith, lt, length-map ns branch)) ∙ ap (λ (c : Branch). take i (branches ns) ++ (c ∷ [])) (branch_at ns i n b is lt) in
    let shown : map (after path) (pairs (forest (take (i + 1) (branches ns)))) ≡ map (after path) old ++ (map (after path) es ++ map (after path) us) =
    ap (λ (bs : List Branch). map (after path) (pairs (forest bs))) bs_more
    ∙ ap (map (after path)) (pairs_last (take i (branches ns)) b)
    ∙ map-append (after path) old (es ++ us)
    ∙ ap (λ (ps : List Pair). map (after path) old ++ ps) (map-append (after path) es us) in
    let ends_shown = subst (λ (ps : List Pair). ShownAll R y ps u) (sym (after_ends path (step_of b) b.ends)) with_ends in
    let next_shown = subst (λ (ps : List Pair). ShownAll R u ps z) (sym (after_under path (step_of b) (pairs b.next))) with_next in
    subst (λ (ps : List Pair). ShownAll R x ps z) (sym shown)
    (shown_append R x y z (map (after path) old) (map (after path) es ++ map (after path) us) so_far (shown_append R y u z (map (after path) es) (map (after path) us) ends_shown next_shown))

-- a path with one more ride, and without its last

pub length_pushed : (xs ys : List Step) (x : Step) → ys ≡ xs ++ (x ∷ []) → length ys ≡ length xs + 1
length_pushed xs ys x is = ap length is ∙ length-append xs (x ∷ [])

pub popped : (xs ys zs : List Step) (x : Step) → ys ≡ xs ++ (x ∷ []) → zs ≡ take (length ys - 1) ys → zs ≡ xs
popped xs ys zs x is cut =
    let n : length ys - 1 ≡ length xs = omega (arith, length_pushed xs ys x is) in
    cut ∙ ap (λ (k : ℕ). take k ys) n ∙ ap (take (length xs)) is ∙ take-append_seam xs (x ∷ [])

-- the ride of a node, put at a path's end
pub pushed_step : {A : Type 0} (n : Node A) (path old new : List Step) → new ≡ old ++ (((out-Node A n).board, (out-Node A n).alight) ∷ []) → old ≡ path → new ≡ path ++ (step_of (branch n) ∷ [])
pushed_step {A} n path old new is same =
    is
    ∙ ap (λ (q : List Step). q ++ (((out-Node A n).board, (out-Node A n).alight) ∷ [])) same
    ∙ ap (λ (s : Step). path ++ (s ∷ [])) (sym (step_out A n))

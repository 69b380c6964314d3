-- What a level is once one of its nodes has changed.
use Rattle.std.proofs.Common.{◌≡◌, ℕ, ◌+◌, ◌<◌, List, [], ◌∷◌, ◌++◌, length, get_or, set, take, drop, map, arith, sym, ap, refl, ◌∙◌, Vec, Result, Ok, Err, OnErr}
use Rattle.std.specs.List.{insert, take-map, drop-map}
use Rattle.std.proofs.lemmas.List.{take_more, map-set, map-append, set-get_or, length-map}
use Rattle.pattern_tree.specs.Forest.{Branch, Forest, forest, Step, IsOrdered}
use Rattle.pattern_tree.specs.Added.{chain_of, with_pair}
use Rattle.pattern_tree.specs.Branch.{branch_step, branch, branches}
use Rattle.pattern_tree.specs.Siblings.{IsStepAt, IsGapAt}
use Rattle.pattern_tree.specs.declared.node.Node.{Node}
use Rattle.pattern_tree.specs.declared.node.Node.TheOpen.{Node-F}
use Rattle.pattern_tree.specs.declared.node.Node.TheViews.{out-Node, roll-Node}
use Rattle.pattern_tree.specs.declared.node.Node.TheFolds.{fold-roll-Node}
use Rattle.pattern_tree.proofs.AdditionFacts.{added_at, added_gap, with_pair_from}
use Rattle.pattern_tree.proofs.SiblingFacts.{steps_rise}
use Rattle.pattern_tree.proofs.NodeFacts.{branch_out, branch_at}

abbrev branch_as : ℕ → ℕ → List ℕ → Forest → Branch
branch_as b a es f = record { board = b; alight = a; ends = es; next = f }

pub branch_roll : (A : Type 0) (x : Node-F A (Node A)) → branch (roll-Node A x) ≡ record { board = x.board; alight = x.alight; ends = x.ends.items; next = forest (branches x.next.items) }
branch_roll A x = fold-roll-Node A Branch (branch_step A) x

pub empty_list : {X : Type 0} (xs : List X) → length xs ≡ 0 → xs ≡ []
empty_list [] h = refl
empty_list (x ∷ xs) h = absurd (omega (arith, h))

pub branches_insert : {A : Type 0} (ns : List (Node A)) (i : ℕ) (n : Node A) → branches (insert ns i n) ≡ insert (branches ns) i (branch n)
branches_insert ns i n =
    map-append branch (take i ns) (n ∷ drop i ns)
    ∙ ap (λ (bs : List Branch). bs ++ (branch n ∷ map branch (drop i ns))) (sym (take-map branch i ns))
    ∙ ap (λ (bs : List Branch). take i (map branch ns) ++ (branch n ∷ bs)) (sym (drop-map branch i ns))

-- a level with a chain put in at the gap
pub chained_level : {A : Type 0} (ns : List (Node A)) (i : ℕ) (n : Node A) (s : Step) (q : List Step) (e : ℕ) → IsGapAt (branches ns) s i → branch n ≡ chain_of s q e → forest (branches (insert ns i n)) ≡ with_pair s q e (forest (branches ns))
chained_level ns i n s q e gap is =
    ap forest (branches_insert ns i n ∙ ap (λ (b : Branch). insert (branches ns) i b) is) ∙ sym (added_gap (branches ns) s q e i gap)

-- a level whose node n has become m, which has what n had and the new pair
pub grown_level : {A : Type 0} (ns : List (Node A)) (i : ℕ) (n m : Node A) (s : Step) (q : List Step) (e : ℕ) → IsOrdered (forest (branches ns)) → IsStepAt (branches ns) s i → n ≡ get_or ns i n → branch m ≡ with_pair_from q e (branch n) → forest (branches (set ns i m)) ≡ with_pair s q e (forest (branches ns))
grown_level ns i n m s q e ordered at is grows =
    let lt : i < length ns = omega (arith, at.0, length-map ns branch) in
    let same : get_or (branches ns) i (branch n) ≡ branch n = branch_at ns i n (branch n) is lt in
    ap forest (map-set branch ns i m ∙ ap (λ (b : Branch). set (branches ns) i b) (grows ∙ ap (with_pair_from q e) (sym same)))
    ∙ sym (added_at (branches ns) s q e i (branch n) (steps_rise (branches ns) ordered) at)

pub same_level : {A : Type 0} (ns : List (Node A)) (i : ℕ) (n m : Node A) → n ≡ get_or ns i n → i < length ns → branch m ≡ branch n → branches (set ns i m) ≡ branches ns
same_level ns i n m is lt same =
    map-set branch ns i m
    ∙ ap (λ (b : Branch). set (branches ns) i b) (same ∙ sym (branch_at ns i n (branch n) is lt))
    ∙ set-get_or (branches ns) i (branch n)

-- a node with other ends, and one with other children
pub with_ends : (A : Type 0) (n : Node A) (es : Vec ℕ A) (xs : List ℕ) → es.items ≡ xs → branch (roll-Node A record { board = (out-Node A n).board; alight = (out-Node A n).alight; ends = es; next = (out-Node A n).next }) ≡ record { board = (branch n).board; alight = (branch n).alight; ends = xs; next = (branch n).next }
with_ends A n es xs is =
    branch_roll A _
    ∙ ap (λ (ys : List ℕ). record { board = (out-Node A n).board; alight = (out-Node A n).alight; ends = ys; next = forest (branches (out-Node A n).next.items) }) is
    ∙ ap (λ (b : Branch). record { board = b.board; alight = b.alight; ends = xs; next = b.next }) (sym (branch_out A n))

pub with_next : (A : Type 0) (n : Node A) (v : Vec (Node A) A) (f : Forest) → forest (branches v.items) ≡ f → branch (roll-Node A record { board = (out-Node A n).board; alight = (out-Node A n).alight; ends = (out-Node A n).ends; next = v }) ≡ record { board = (branch n).board; alight = (branch n).alight; ends = (branch n).ends; next = f }
with_next A n v f is =
    branch_roll A _
    ∙ ap (λ (g : Forest). record { board = (out-Node A n).board; alight = (out-Node A n).alight; ends = (out-Node A n).ends.items; next = g }) is
    ∙ ap (λ (b : Branch). record { board = b.board; alight = b.alight; ends = b.ends; next = f }) (sym (branch_out A n))

pub on_err_always : {T E P : Type 0} (r : Result T E) → P → OnErr r P
on_err_always (Ok x) p = tt
on_err_always (Err e) p = p

-- a copy of a node, in another allocator
pub copied : (A B : Type 0) (n : Node A) (m : Node-F B (Node B)) → m.board ≡ (out-Node A n).board → m.alight ≡ (out-Node A n).alight → m.ends.items ≡ (out-Node A n).ends.items → branches m.next.items ≡ branches (out-Node A n).next.items → branch (roll-Node B m) ≡ branch n
copied A B n m b a es f =
    branch_roll B m
    ∙ ap (λ (x : ℕ). record { board = x; alight = m.alight; ends = m.ends.items; next = forest (branches m.next.items) }) b
    ∙ ap (λ (x : ℕ). record { board = (out-Node A n).board; alight = x; ends = m.ends.items; next = forest (branches m.next.items) }) a
    ∙ ap (λ (xs : List ℕ). record { board = (out-Node A n).board; alight = (out-Node A n).alight; ends = xs; next = forest (branches m.next.items) }) es
    ∙ ap (λ (bs : List Branch). record { board = (out-Node A n).board; alight = (out-Node A n).alight; ends = (out-Node A n).ends.items; next = forest bs }) f
    ∙ sym (branch_out A n)

-- a copy that has come one node further
pub copied_more : {A B : Type 0} (ns : List (Node A)) (ms ms' : List (Node B)) (i : ℕ) (n : Node A) (m : Node B) → branches ms ≡ take i (branches ns) → ms' ≡ ms ++ (m ∷ []) → n ≡ get_or ns i n → i < length ns → branch m ≡ branch n → branches ms' ≡ take (i + 1) (branches ns)
copied_more ns ms ms' i n m so_far pushed is lt same =
    ap branches pushed ∙ map-append branch ms (m ∷ [])
    ∙ ap (λ (bs : List Branch). bs ++ (branch m ∷ [])) so_far
    ∙ ap (λ (b : Branch). take i (branches ns) ++ (b ∷ [])) (same ∙ sym (branch_at ns i n (branch n) is lt))
    ∙ sym (take_more (branches ns) i (branch n) (omega (arith, lt, length-map ns branch)))

-- a node for the last step of a chain, and one for an earlier step
same_branch : (b a y x : ℕ) (es xs : List ℕ) (f g : Forest) → b ≡ y → a ≡ x → es ≡ xs → f ≡ g → branch_as b a es f ≡ branch_as y x xs g
same_branch b a y x es xs f g p q r t =
    ap (λ (n : ℕ). branch_as n a es f) p ∙ ap (λ (n : ℕ). branch_as y n es f) q ∙ ap (λ (l : List ℕ). branch_as y x l f) r ∙ ap (branch_as y x xs) t

pub chained_end : (A : Type 0) (m : Node-F A (Node A)) (s : Step) (q : List Step) (e : ℕ) → q ≡ [] → m.board ≡ s.0 → m.alight ≡ s.1 → m.ends.items ≡ e ∷ [] → m.next.items ≡ [] → branch (roll-Node A m) ≡ chain_of s q e
chained_end A m s q e last b a ends next =
    branch_roll A m ∙ same_branch m.board m.alight s.0 s.1 m.ends.items (e ∷ []) (forest (branches m.next.items)) (forest []) b a ends (ap (λ (ns : List (Node A)). forest (branches ns)) next)
    ∙ ap (λ (p : List Step). chain_of s p e) (sym last)

pub chained_step : (A : Type 0) (m : Node-F A (Node A)) (n : Node A) (s t : Step) (q p : List Step) (e : ℕ) → q ≡ t ∷ p → m.board ≡ s.0 → m.alight ≡ s.1 → m.ends.items ≡ [] → m.next.items ≡ n ∷ [] → branch n ≡ chain_of t p e → branch (roll-Node A m) ≡ chain_of s q e
chained_step A m n s t q p e more b a ends next below =
    branch_roll A m
    ∙ same_branch m.board m.alight s.0 s.1 m.ends.items [] (forest (branches m.next.items)) (forest (chain_of t p e ∷ [])) b a ends
    (ap (λ (ns : List (Node A)). forest (branches ns)) next ∙ ap (λ (c : Branch). forest (c ∷ [])) below)
    ∙ ap (λ (r : List Step). chain_of s r e) (sym more)

-- What a node's fields say of the branch that it stands for, and what one more node is to its siblings. Crates above that go through
-- nodes cite these lemmas from here.
use Rattle.std.proofs.Common.{◌≡◌, ℕ, ◌+◌, ◌<◌, List, [], ◌∷◌, ◌++◌, length, get_or, take, sym, ap, ◌∙◌, arith}
use Rattle.std.proofs.lemmas.List.{get_or-map, map_push, length-map, take_more}
use Rattle.pattern_tree.specs.Forest.{Branch, forest, step_of}
use Rattle.pattern_tree.specs.Branch.{branch_step, branch, branches}
use Rattle.pattern_tree.specs.declared.node.Node.{Node}
use Rattle.pattern_tree.specs.declared.node.Node.TheOpen.{Node-F}
use Rattle.pattern_tree.specs.declared.node.Node.TheViews.{out-Node, roll-Node}
use Rattle.pattern_tree.specs.declared.node.Node.TheFolds.{fold_out-Node, fold-roll-Node}

pub branch_out : (A : Type 0) (n : Node A) → branch n ≡ record { board = (out-Node A n).board; alight = (out-Node A n).alight; ends = (out-Node A n).ends.items; next = forest (branches (out-Node A n).next.items) }
branch_out A n = fold_out-Node A Branch (branch_step A) n

-- of a node that is made of its fields
pub branch_roll : (A : Type 0) (x : Node-F A (Node A)) → branch (roll-Node A x) ≡ record { board = x.board; alight = x.alight; ends = x.ends.items; next = forest (branches x.next.items) }
branch_roll A x = fold-roll-Node A Branch (branch_step A) x

pub step_out : (A : Type 0) (n : Node A) → step_of (branch n) ≡ ((out-Node A n).board, (out-Node A n).alight)
step_out A n = ap step_of (branch_out A n)

pub branch_at : {A : Type 0} (ns : List (Node A)) (i : ℕ) (n : Node A) (d : Branch) → n ≡ get_or ns i n → i < length ns → get_or (branches ns) i d ≡ branch n
branch_at ns i n d is lt = get_or-map branch ns i n d lt ∙ ap branch (sym is)

pub branches_push : {A : Type 0} (old new : List (Node A)) (n : Node A) → new ≡ old ++ (n ∷ []) → branches new ≡ branches old ++ (branch n ∷ [])
branches_push old new n is = ap branches is ∙ map_push branch old n

pub branches_more : {A : Type 0} (ns : List (Node A)) (i : ℕ) (n : Node A) → n ≡ get_or ns i n → i < length ns → take (i + 1) (branches ns) ≡ take i (branches ns) ++ (branch n ∷ [])
branches_more ns i n is lt =
    take_more (branches ns) i (branch n) (omega (arith, lt, length-map ns branch)) ∙ ap (λ (b : Branch). take i (branches ns) ++ (b ∷ [])) (branch_at ns i n (branch n) is lt)

pub ends_out : (A : Type 0) (n : Node A) → (branch n).ends ≡ (out-Node A n).ends.items
ends_out A n = ap (λ (b : Branch). b.ends) (branch_out A n)

pub next_out : (A : Type 0) (n : Node A) → (branch n).next ≡ forest (branches (out-Node A n).next.items)
next_out A n = ap (λ (b : Branch). b.next) (branch_out A n)

-- Writing items one after the other, as the loops do.
use Rattle.std.proofs.Common.{◌≡◌, ℕ, zero, suc, ◌+◌, ◌-◌, ◌<◌, ◌^◌, Result, Ok, Err, List, [], ◌∷◌, ◌++◌, length, get_or, take, drop, refl, sym, ap, subst, ◌∙◌, append_assoc, arith}
use Rattle.std.proofs.lemmas.List.{append-nil, take_more, take_at, length-map}
use Rattle.std.specs.Result.{OnOk, OnErr}
use Rattle.byteorder.specs.Endian.{big_bytes}
use Rattle.timetable.specs.Writing.{Grown}
use Rattle.pattern_tree.specs.Forest.{Branch, Forest, forest, node_count, pairs}
use Rattle.pattern_tree.specs.Branch.{branch, branches}
use Rattle.pattern_tree.specs.Content.{Content}
use Rattle.pattern_tree.specs.declared.node.Node.{Node}
use Rattle.pattern_tree.specs.declared.node.Node.TheViews.{out-Node}
use Rattle.pattern_tree.proofs.NodeFacts.{branch_out, branch_at, branches_more, next_out}
use Rattle.timetable.specs.declared.width.Width.{Width}
use Rattle.timetable.specs.declared.width.Width.TheVariants.{Two, Four}
use Rattle.tree_codec.specs.Text.{numbers_text, siblings, nodes_text, tree_text, AreBelow, StopsBelow, IsLawful, AppendsText}
use Rattle.timetable.specs.Widths.{byte_count}
use Rattle.tree_codec.specs.Writing.{head_text, HeadBelow}

-- ---- numbers

-- the lowest bytes of a number are the last ones of all its bytes
pub last_bytes : (width : Width) (x : ℕ) → drop (8 - byte_count width) (big_bytes 8 x) ≡ big_bytes (byte_count width) x
last_bytes Two x = refl
last_bytes Four x = refl

-- ---- what was there stays

pub grown_by : (old new more : List ℕ) → new ≡ old ++ more → Grown old new
grown_by old new more is = record { more = more; is = is }

pub grown_then : (a b c : List ℕ) → Grown a b → Grown b c → Grown a c
grown_then a b c p q = record { more = p.more ++ q.more; is = q.is ∙ ap (λ (y : List ℕ). y ++ q.more) p.is ∙ append_assoc a p.more q.more }

pub grown_after : (a b c x : List ℕ) → b ≡ a ++ x → Grown b c → Grown a c
grown_after a b c x is g = grown_then a b c (grown_by a b x is) g

pub grown_cut : (old new : List ℕ) → Grown old new → take (length old) new ≡ old
grown_cut old new g = ap (take (length old)) g.is ∙ take_at old g.more (length old) refl

pub then_text : (a b c x y : List ℕ) → b ≡ a ++ x → c ≡ b ++ y → c ≡ a ++ (x ++ y)
then_text a b c x y p q = q ∙ ap (λ (z : List ℕ). z ++ y) p ∙ append_assoc a x y

-- ---- ends

numbers_last : (w : ℕ) (xs : List ℕ) (y : ℕ) → numbers_text w (xs ++ y ∷ []) ≡ numbers_text w xs ++ big_bytes w y
numbers_last w [] y = append-nil (big_bytes w y)
numbers_last w (x ∷ xs) y = ap (λ (z : List ℕ). big_bytes w x ++ z) (numbers_last w xs y) ∙ sym (append_assoc (big_bytes w x) (numbers_text w xs) (big_bytes w y))

below_last : (n : ℕ) (xs : List ℕ) (y : ℕ) → AreBelow n xs → y < n → AreBelow n (xs ++ y ∷ [])
below_last n [] y h lt = (lt, tt)
below_last n (x ∷ xs) y h lt = (h.0, below_last n xs y h.1 lt)

pub take_last : (xs : List ℕ) (i y : ℕ) → y ≡ get_or xs i y → i < length xs → take (i + 1) xs ≡ take i xs ++ (y ∷ [])
take_last xs i y is lt = take_more xs i y lt ∙ ap (λ (z : ℕ). take i xs ++ (z ∷ [])) (sym is)

pub ends_more : (w : ℕ) (start out new xs : List ℕ) (i y : ℕ) → y ≡ get_or xs i y → i < length xs → out ≡ start ++ numbers_text w (take i xs) → new ≡ out ++ big_bytes w y → new ≡ start ++ numbers_text w (take (i + 1) xs)
ends_more w start out new xs i y is lt so_far put =
    then_text start out new (numbers_text w (take i xs)) (big_bytes w y) so_far put
    ∙ ap (λ (z : List ℕ). start ++ z) (sym (ap (numbers_text w) (take_last xs i y is lt) ∙ numbers_last w (take i xs) y))

pub below_more : (n : ℕ) (xs : List ℕ) (i y : ℕ) → y ≡ get_or xs i y → i < length xs → AreBelow n (take i xs) → y < n → AreBelow n (take (i + 1) xs)
below_more n xs i y is lt h below = subst (AreBelow n) (sym (take_last xs i y is lt)) (below_last n (take i xs) y h below)

-- ---- siblings

nodes_last : (w : ℕ) (bs : List Branch) (b : Branch) → nodes_text w (forest (bs ++ b ∷ [])) ≡ nodes_text w (forest bs) ++ (head_text w b ++ nodes_text w b.next)
nodes_last w [] b = simp (append-nil, append_assoc) refl
nodes_last w (c ∷ bs) b = rw (nodes_last w bs b) (simp append_assoc refl)

stops_last : (n : ℕ) (bs : List Branch) (b : Branch) → StopsBelow n (forest bs) → HeadBelow n b → StopsBelow n b.next → StopsBelow n (forest (bs ++ b ∷ []))
stops_last n [] b h here next = (here, next, tt)
stops_last n (c ∷ bs) b h here next = (h.0, h.1, stops_last n bs b h.2 here next)

pub nodes_more : {A : Type 0} (w : ℕ) (start out mid new : List ℕ) (ns : List (Node A)) (i : ℕ) (n : Node A) → n ≡ get_or ns i n → i < length ns
    → out ≡ start ++ nodes_text w (forest (take i (branches ns))) → mid ≡ out ++ head_text w (branch n) → new ≡ mid ++ nodes_text w (branch n).next
    → new ≡ start ++ nodes_text w (forest (take (i + 1) (branches ns)))
nodes_more w start out mid new ns i n is lt so_far put_head put_next =
    then_text start out new (nodes_text w (forest (take i (branches ns)))) (head_text w (branch n) ++ nodes_text w (branch n).next) so_far (then_text out mid new (head_text w (branch n)) (nodes_text w (branch n).next) put_head put_next)
    ∙ ap (λ (z : List ℕ). start ++ z) (sym (ap (λ (bs : List Branch). nodes_text w (forest bs)) (branches_more ns i n is lt) ∙ nodes_last w (take i (branches ns)) (branch n)))

pub stops_more : {A : Type 0} (m : ℕ) (ns : List (Node A)) (i : ℕ) (n : Node A) → n ≡ get_or ns i n → i < length ns
    → StopsBelow m (forest (take i (branches ns))) → HeadBelow m (branch n) → StopsBelow m (branch n).next → StopsBelow m (forest (take (i + 1) (branches ns)))
stops_more m ns i n is lt h here next =
    subst (λ (bs : List Branch). StopsBelow m (forest bs)) (sym (branches_more ns i n is lt)) (stops_last m (take i (branches ns)) (branch n) h here next)

pub siblings_of : (bs : List Branch) → siblings (forest bs) ≡ length bs
siblings_of [] = refl
siblings_of (b ∷ bs) = omega (arith, siblings_of bs)

-- ---- a node by its fields

fewer_below : (bs : List Branch) (i : ℕ) (d : Branch) → i < length bs → node_count (get_or bs i d).next < node_count (forest bs)
fewer_below [] i d lt = absurd (omega (arith, lt))
fewer_below (b ∷ bs) zero d lt = omega arith
fewer_below (b ∷ bs) (suc i) d lt = omega (arith, fewer_below bs i d (omega (arith, lt)))

-- a node has fewer nodes below it than there are on its level and below
pub fewer_next : {A : Type 0} (ns : List (Node A)) (i : ℕ) (n : Node A) → n ≡ get_or ns i n → i < length ns → node_count (forest (branches (out-Node A n).next.items)) < node_count (forest (branches ns))
fewer_next {A} ns i n is lt =
    subst (λ (f : Forest). node_count f < node_count (forest (branches ns))) (ap (λ (b : Branch). b.next) (branch_at ns i n (branch n) is lt) ∙ next_out A n) (fewer_below (branches ns) i (branch n) (omega (arith, lt, length-map ns branch)))

children_of : (A : Type 0) (n : Node A) → siblings (branch n).next ≡ length (out-Node A n).next.items
children_of A n =
    ap siblings (next_out A n) ∙ siblings_of (branches (out-Node A n).next.items) ∙ length-map (out-Node A n).next.items branch

head_out : (w : ℕ) (A : Type 0) (n : Node A) → head_text w (branch n) ≡ numbers_text w ((out-Node A n).board ∷ (out-Node A n).alight ∷ length (out-Node A n).ends.items ∷ (out-Node A n).ends.items) ++ big_bytes 4 (length (out-Node A n).next.items)
head_out w A n =
    ap (λ (k : ℕ). numbers_text w ((branch n).board ∷ (branch n).alight ∷ length (branch n).ends ∷ (branch n).ends) ++ big_bytes 4 k) (children_of A n)
    ∙ ap (λ (b : Branch). numbers_text w (b.board ∷ b.alight ∷ length b.ends ∷ b.ends) ++ big_bytes 4 (length (out-Node A n).next.items)) (branch_out A n)

-- a node's numbers, put one after the other
pub head_put : (w : ℕ) (A : Type 0) (n : Node A) (old a b c d new : List ℕ) → a ≡ old ++ big_bytes w (out-Node A n).board → b ≡ a ++ big_bytes w (out-Node A n).alight → c ≡ b ++ big_bytes w (length (out-Node A n).ends.items)
    → d ≡ c ++ numbers_text w (out-Node A n).ends.items → new ≡ d ++ big_bytes 4 (length (out-Node A n).next.items) → new ≡ old ++ head_text w (branch n)
head_put w A n old a b c d new p q r s t =
    let es = numbers_text w (out-Node A n).ends.items in
    let count = big_bytes w (length (out-Node A n).ends.items) in
    let alight = big_bytes w (out-Node A n).alight in
    let board = big_bytes w (out-Node A n).board in
    let head = then_text old a d board (alight ++ (count ++ es)) p (then_text a b d alight (count ++ es) q (then_text b c d count es r s)) in
    then_text old d new (board ++ (alight ++ (count ++ es))) (big_bytes 4 (length (out-Node A n).next.items)) head t ∙ ap (λ (y : List ℕ). old ++ y) (sym (head_out w A n))

pub head_below : (m : ℕ) (A : Type 0) (n : Node A) → AreBelow m ((out-Node A n).board ∷ (out-Node A n).alight ∷ (out-Node A n).ends.items) → HeadBelow m (branch n)
head_below m A n h = subst (HeadBelow m) (sym (branch_out A n)) h

-- ---- a whole tree

pub appended : (w n : ℕ) (old mid late new : List ℕ) (tree : Content) (f : Forest) → n < 256 ^ w → tree.source < n → IsLawful n f → pairs f ≡ tree.pairs
    → mid ≡ old ++ big_bytes w tree.source → late ≡ mid ++ big_bytes 4 (siblings f) → new ≡ late ++ nodes_text w f → AppendsText w n old new tree
appended w n old mid late new tree f fit source lawful same p q r = record {
  text = tree_text w tree.source f;
  is_text = record { nodes = f; lawful = lawful; source_below = source; stops_fit = fit; pairs_are = sym same; bytes_are = refl };
  appended = then_text old mid new (big_bytes w tree.source) (big_bytes 4 (siblings f) ++ nodes_text w f) p (then_text mid late new (big_bytes 4 (siblings f)) (nodes_text w f) q r);
}

-- ---- outcomes

pub on_ok : {T E P Q : Type 0} (r : Result T E) → (P → Q) → OnOk r P → OnOk r Q
on_ok (Ok x) f p = f p
on_ok (Err e) f p = tt

pub on_err : {T E P Q : Type 0} (r : Result T E) → (P → Q) → OnErr r P → OnErr r Q
on_err (Ok x) f p = tt
on_err (Err e) f p = f p

pub always_ok : {T E P : Type 0} (r : Result T E) → P → OnOk r P
always_ok (Ok x) p = p
always_ok (Err e) p = tt

pub always_err : {T E P : Type 0} (r : Result T E) → P → OnErr r P
always_err (Ok x) p = tt
always_err (Err e) p = p

pub on_ok_both : {T E P Q R : Type 0} (r : Result T E) → (P → Q → R) → OnOk r P → OnOk r Q → OnOk r R
on_ok_both (Ok x) f p q = f p q
on_ok_both (Err e) f p q = tt

-- How a tree is packed, and how the rides of a beginning are found again.
use Rattle.std.proofs.Common.{Option, Some, None, ◌≡◌, ◌≢◌, ℕ, zero, suc, ◌+◌, ◌-◌, ◌<◌, ◌≤◌, List, [], ◌∷◌, ◌++◌, length, map, get_or, take, slice_get, All, arith, refl, sym, ◌∙◌, ap, subst, append_assoc, length-append}
use Rattle.std.proofs.lemmas.List.{append-nil, map-append, length-map}
use Rattle.std.proofs.lemmas.List.Elements.{All-append, All-weaker, All-map}
use Rattle.std.proofs.lemmas.Option.{same_Some}
use Rattle.pattern_tree.specs.Forest.{Branch, Forest, none, forest, Step, Pair, pairs, node_count, step_of}
use Rattle.pattern_tree.specs.Branch.{branch, branches}
use Rattle.pattern_tree.specs.Walks.{after, ending as ending_of}
use Rattle.pattern_tree.specs.declared.node.Node.{Node}
use Rattle.pattern_tree.proofs.NodeFacts.{branch_at}
use Rattle.pattern_tree.proofs.PairFacts.{under, ending as ends_at}
use Rattle.pattern_tree.proofs.WalkFacts.{pairs_last, after_ends, after_under, after_nil}
use Rattle.packed_patterns.specs.declared.packing.Beginning.{Beginning}
use Rattle.packed_patterns.specs.declared.packing.Pattern.{Pattern}
use Rattle.packed_patterns.specs.Patterns.{ride_of, beginning_at, with_ride, path_to, pair_of, pairs_of, ending, AreRooted, IsPacked, Packs}

none_some : {A : Type 0} (m : A) → None ≡ Some m → ⊥
none_some m e = cc

-- ---- the rides of a beginning

-- numbers are counted from 1
pub at_before : (bs : List Beginning) (n : ℕ) → n ≢ 0 → beginning_at bs n ≡ slice_get bs (n - 1)
at_before bs zero ne = absurd (ne refl)
at_before bs (suc i) ne = let e : i ≡ suc i - 1 = omega arith in ap (slice_get bs) e

pub no_rides : (bs : List Beginning) (most n : ℕ) (xs : List Step) → most ≡ 0 → xs ≡ xs ++ path_to most bs n
unfolding path_to
no_rides bs zero n xs e = sym (append-nil xs)
no_rides bs (suc most) n xs e = absurd (omega (arith, e))

pub no_beginning : (bs : List Beginning) (most n : ℕ) (xs : List Step) → beginning_at bs n ≡ None → xs ≡ xs ++ path_to most bs n
unfolding path_to
no_beginning bs zero n xs e = sym (append-nil xs)
no_beginning bs (suc most) n xs e = sym (append-nil xs) ∙ ap (λ (o : Option Beginning). xs ++ with_ride (path_to most bs) o) (sym e)

pub one_ride_more : (bs : List Beginning) (most less n : ℕ) (b : Beginning) (xs ys zs : List Step) → most ≡ suc less → beginning_at bs n ≡ Some b
    → ys ≡ xs ++ path_to less bs b.before → zs ≡ ys ++ ride_of b ∷ [] → zs ≡ xs ++ path_to most bs n
unfolding path_to
one_ride_more bs most less n b xs ys zs is at before last =
    last ∙ ap (λ (l : List Step). l ++ ride_of b ∷ []) before ∙ append_assoc xs (path_to less bs b.before) (ride_of b ∷ [])
    ∙ ap (λ (o : Option Beginning). xs ++ with_ride (path_to less bs) o) (sym at)
    ∙ ap (λ (k : ℕ). xs ++ path_to k bs n) (sym is)

pub path_short : (k : ℕ) (bs : List Beginning) (n : ℕ) → length (path_to k bs n) ≤ k
unfolding path_to
path_short zero bs n = omega arith
path_short (suc k) bs n = elim (beginning_at bs n) as (λ (o : Option Beginning). length (with_ride (path_to k bs) o) ≤ suc k) [
  | None ↦ omega arith
  | Some b ↦ (let l = length-append (path_to k bs b.before) (ride_of b ∷ []) in let s = path_short k bs b.before in omega (arith, l, s))
]

-- ---- beginnings that are added

get_left : {X : Type 0} (xs ys : List X) (i : ℕ) → i < length xs → slice_get (xs ++ ys) i ≡ slice_get xs i
get_left [] ys i lt = absurd (omega (arith, lt))
get_left (x ∷ xs) ys zero lt = refl
get_left (x ∷ xs) ys (suc i) lt = get_left xs ys i (omega (arith, lt))

get_last : {X : Type 0} (xs : List X) (y : X) → slice_get (xs ++ y ∷ []) (length xs) ≡ Some y
get_last [] y = refl
get_last (x ∷ xs) y = get_last xs y

-- an element of a list with one more is one of the list, or the last
get_cases : {X : Type 0} (xs : List X) (y x : X) (i : ℕ) (P : ℕ → X → Type 0) → ((j : ℕ) (z : X) → slice_get xs j ≡ Some z → P j z) → P (length xs) y
    → slice_get (xs ++ y ∷ []) i ≡ Some x → P i x
get_cases [] y x zero P all here e = subst (P 0) (same_Some y x e) here
get_cases [] y x (suc i) P all here e = absurd (none_some x e)
get_cases (z ∷ xs) y x zero P all here e = all 0 x e
get_cases (z ∷ xs) y x (suc i) P all here e = get_cases xs y x i (λ j. P (suc j)) (λ j z at. all (suc j) z at) here e

-- the rides of those that were there stay
pub path_stays : (k : ℕ) (bs more : List Beginning) (n : ℕ) → AreRooted bs → n ≤ length bs → path_to k (bs ++ more) n ≡ path_to k bs n
unfolding path_to
path_stays zero bs more n rooted le = refl
path_stays (suc k) bs more zero rooted le = refl
path_stays (suc k) bs more (suc i) rooted le =
    ap (with_ride (path_to k (bs ++ more))) (get_left bs more i (omega (arith, le)))
    ∙ (elim (slice_get bs i) as (λ (o : Option Beginning). slice_get bs i ≡ o → with_ride (path_to k (bs ++ more)) o ≡ with_ride (path_to k bs) o) [
      | None ↦ λ e. refl
      | Some b ↦ λ e. ap (λ (l : List Step). l ++ ride_of b ∷ []) (path_stays k bs more b.before rooted (let low = rooted i b e in omega (arith, low, le)))
    ]) refl

-- if there are no more rides than that, one more isn't missed
path_whole : (k : ℕ) (bs : List Beginning) (n : ℕ) → length (path_to (suc k) bs n) ≤ k → path_to k bs n ≡ path_to (suc k) bs n
unfolding path_to
path_whole zero bs n few =
    (elim (beginning_at bs n) as (λ (o : Option Beginning). length (with_ride (path_to 0 bs) o) ≤ 0 → [] ≡ with_ride (path_to 0 bs) o) [
      | None ↦ λ l. refl
      | Some b ↦ λ l. absurd (let m = length-append (path_to 0 bs b.before) (ride_of b ∷ []) in omega (arith, l, m))
    ]) few
path_whole (suc k) bs n few =
    (elim (beginning_at bs n) as (λ (o : Option Beginning). length (with_ride (path_to (suc k) bs) o) ≤ suc k → with_ride (path_to k bs) o ≡ with_ride (path_to (suc k) bs) o) [
      | None ↦ λ l. refl
      | Some b ↦ λ l. ap (λ (q : List Step). q ++ ride_of b ∷ [])
          (path_whole k bs b.before (let m = length-append (path_to (suc k) bs b.before) (ride_of b ∷ []) in omega (arith, l, m)))
    ]) few

pushed_on : (k : ℕ) (bs : List Beginning) (b : Beginning) → AreRooted bs → b.before ≤ length bs → length (path_to (suc k) bs b.before) ≤ k
    → path_to (suc k) (bs ++ b ∷ []) (suc (length bs)) ≡ path_to (suc k) bs b.before ++ ride_of b ∷ []
unfolding path_to
pushed_on k bs b rooted le few =
    ap (with_ride (path_to k (bs ++ b ∷ []))) (get_last bs b)
    ∙ ap (λ (q : List Step). q ++ ride_of b ∷ []) (path_stays k bs (b ∷ []) b.before rooted le ∙ path_whole k bs b.before few)

-- the rides of one that is added
pub path_pushed : (bs : List Beginning) (b : Beginning) (n m : ℕ) → AreRooted bs → b.before ≡ n → n ≤ length bs → m ≡ length bs + 1 → length (path_to 8 bs n) < 8
    → path_to 8 (bs ++ b ∷ []) m ≡ path_to 8 bs n ++ ride_of b ∷ []
path_pushed bs b n m rooted before le is few =
    let number : m ≡ suc (length bs) = omega (arith, is) in
    ap (path_to 8 (bs ++ b ∷ [])) number
    ∙ pushed_on 7 bs b rooted (omega (arith, le, before)) (subst (λ (x : ℕ). length (path_to 8 bs x) ≤ 7) (sym before) (omega (arith, few)))
    ∙ ap (λ (x : ℕ). path_to 8 bs x ++ ride_of b ∷ []) before

-- ---- patterns that are added

known_more : (bs more : List Beginning) (ps : List Pattern) → All (λ (p : Pattern). p.last ≤ length bs) ps → All (λ (p : Pattern). p.last ≤ length (bs ++ more)) ps
known_more bs more ps known =
    All-weaker (λ (p : Pattern). p.last ≤ length bs) (λ (p : Pattern). p.last ≤ length (bs ++ more)) (λ p h. omega (arith, h, length-append bs more)) ps known

-- the pairs of those that were there stay
pairs_stay : (bs more : List Beginning) (ps : List Pattern) → AreRooted bs → ((k : ℕ) (d : Pattern) → k < length ps → (get_or ps k d).last ≤ length bs)
    → pairs_of (bs ++ more) ps ≡ pairs_of bs ps
pairs_stay bs more [] rooted known = refl
pairs_stay bs more (p ∷ ps) rooted known =
    ap (λ (q : List Step). (q, p.end) ∷ pairs_of (bs ++ more) ps) (path_stays 8 bs more p.last rooted (known 0 p (omega arith)))
    ∙ ap (λ (l : List Pair). pair_of bs p ∷ l) (pairs_stay bs more ps rooted (λ k d lt. known (suc k) d (omega (arith, lt))))

-- those of one beginning
pairs_ending : (bs : List Beginning) (n : ℕ) (es : List ℕ) → pairs_of bs (map (ending n) es) ≡ map (ending_of (path_to 8 bs n)) es
pairs_ending bs n [] = refl
pairs_ending bs n (e ∷ es) = ap (λ (l : List Pair). (path_to 8 bs n, e) ∷ l) (pairs_ending bs n es)

known_ending : (bs : List Beginning) (n : ℕ) (es : List ℕ) → n ≤ length bs → All (λ (p : Pattern). p.last ≤ length bs) (map (ending n) es)
known_ending bs n es le = All-map (λ (p : Pattern). p.last ≤ length bs) (ending n) es (λ k d lt. le)

-- ---- pairs of siblings

-- a sibling more: its ends, and what is below it
after_last : (path : List Step) (bs : List Branch) (b : Branch)
    → map (after path) (pairs (forest (bs ++ b ∷ [])))
    ≡ map (after path) (pairs (forest bs)) ++ (map (ending_of (path ++ step_of b ∷ [])) b.ends ++ map (after (path ++ step_of b ∷ [])) (pairs b.next))
after_last path bs b =
    let es = map (ends_at (step_of b)) b.ends in
    let us = map (under (step_of b)) (pairs b.next) in
    ap (map (after path)) (pairs_last bs b)
    ∙ map-append (after path) (pairs (forest bs)) (es ++ us)
    ∙ ap (λ (ps : List Pair). map (after path) (pairs (forest bs)) ++ ps)
    (map-append (after path) es us
    ∙ ap (λ (ps : List Pair). ps ++ map (after path) us) (after_ends path (step_of b) b.ends)
    ∙ ap (λ (ps : List Pair). map (ending_of (path ++ step_of b ∷ [])) b.ends ++ ps) (after_under path (step_of b) (pairs b.next)))

count_last : (bs : List Branch) (b : Branch) → node_count (forest (bs ++ b ∷ [])) ≡ node_count (forest bs) + (1 + node_count b.next)
count_last [] b = omega arith
count_last (c ∷ bs) b = omega (arith, count_last bs b)

-- ---- a node more

pub packs_none : (bs : List Beginning) (ps : List Pattern) (n : ℕ) → IsPacked bs ps → Packs bs ps n none bs ps
packs_none bs ps n packed = record {
  packed = packed;
  more = [];
  goes_on = sym (append-nil bs);
  count = refl;
  pairs_are = sym (append-nil (pairs_of bs ps));
}

module _ (old : List Beginning) (were : List Pattern) (n : ℕ) (first : IsPacked old were) (root : n ≤ length old) (few : length (path_to 8 old n) < 8)
    (bs : List Beginning) (ps : List Pattern) (f : Forest) (so_far : Packs old were n f bs ps)
    (b : Beginning) (before : b.before ≡ n) (bs1 : List Beginning) (pushed : bs1 ≡ bs ++ b ∷ []) (m : ℕ) (number : m ≡ length bs1)
    (es : List ℕ) (ps1 : List Pattern) (ended : ps1 ≡ ps ++ map (ending m) es) where
  size : length bs ≡ length old + length so_far.more
  size = ap (λ (l : List Beginning). length l) so_far.goes_on ∙ length-append old so_far.more

  size1 : length bs1 ≡ length bs + 1
  size1 = ap (λ (l : List Beginning). length l) pushed ∙ length-append bs (b ∷ [])

  -- the path that it goes on from is there still
  same_path : path_to 8 bs n ≡ path_to 8 old n
  same_path = ap (λ (l : List Beginning). path_to 8 l n) so_far.goes_on ∙ path_stays 8 old so_far.more n first.rooted root

  pub path_is : path_to 8 bs1 m ≡ path_to 8 old n ++ ride_of b ∷ []
  path_is =
      ap (λ (l : List Beginning). path_to 8 l m) pushed
      ∙ path_pushed bs b n m so_far.packed.rooted before (omega (arith, root, size)) (omega (arith, number, size1))
      (subst (λ (q : List Step). length q < 8) (sym same_path) few)
      ∙ ap (λ (q : List Step). q ++ ride_of b ∷ []) same_path

  rooted1 : AreRooted bs1
  rooted1 i x e =
      get_cases bs b x i (λ j z. z.before ≤ j) so_far.packed.rooted (omega (arith, before, root, size)) (subst (λ (l : List Beginning). slice_get l i ≡ Some x) pushed e)

  pub packed1 : IsPacked bs1 ps1
  packed1 = record {
    rooted = rooted1;
    known = subst (All (λ (p : Pattern). p.last ≤ length bs1)) (sym ended)
        (All-append (λ (p : Pattern). p.last ≤ length bs1) ps (map (ending m) es)
        (subst (λ (l : List Beginning). All (λ (p : Pattern). p.last ≤ length l) ps) (sym pushed) (known_more bs (b ∷ []) ps so_far.packed.known))
        (known_ending bs1 m es (omega (arith, number))));
  }

  pairs1 : pairs_of bs1 ps1 ≡ pairs_of bs ps ++ map (ending_of (path_to 8 old n ++ ride_of b ∷ [])) es
  pairs1 =
      ap (pairs_of bs1) ended
      ∙ map-append (pair_of bs1) ps (map (ending m) es)
      ∙ ap (λ (l : List Pair). l ++ pairs_of bs1 (map (ending m) es))
      (ap (λ (l : List Beginning). pairs_of l ps) pushed ∙ pairs_stay bs (b ∷ []) ps so_far.packed.rooted so_far.packed.known)
      ∙ ap (λ (l : List Pair). pairs_of bs ps ++ l) (pairs_ending bs1 m es ∙ ap (λ (q : List Step). map (ending_of q) es) path_is)

  -- with all below it
  pub packs_more : (branches_before : List Branch) (node : Branch) (new : List Beginning) (are : List Pattern) → f ≡ forest branches_before
      → ride_of b ≡ step_of node → es ≡ node.ends → Packs bs1 ps1 m node.next new are → Packs old were n (forest (branches_before ++ node ∷ [])) new are
  packs_more before' node new are same step ends below =
      let path = path_to 8 old n in
      let longer : path_to 8 bs1 m ≡ path ++ step_of node ∷ [] = path_is ∙ ap (λ (s : Step). path ++ s ∷ []) step in
      let here : map (ending_of (path ++ ride_of b ∷ [])) es ≡ map (ending_of (path ++ step_of node ∷ [])) node.ends =
      ap (λ (s : Step). map (ending_of (path ++ s ∷ [])) es) step ∙ ap (map (ending_of (path ++ step_of node ∷ []))) ends in
      let x = pairs_of old were in
      let u = map (after path) (pairs (forest before')) in
      let v = map (ending_of (path ++ step_of node ∷ [])) node.ends in
      let w = map (after (path ++ step_of node ∷ [])) (pairs node.next) in
      record {
        packed = below.packed;
        more = so_far.more ++ (b ∷ below.more);
        goes_on = below.goes_on ∙ ap (λ (l : List Beginning). l ++ below.more) (pushed ∙ ap (λ (l : List Beginning). l ++ b ∷ []) so_far.goes_on)
            ∙ append_assoc (old ++ so_far.more) (b ∷ []) below.more ∙ append_assoc old so_far.more (b ∷ below.more);
        count = length-append so_far.more (b ∷ below.more)
            ∙ (let one = so_far.count in let two = below.count in let all = count_last before' node in let at = ap node_count same in
            let z : length so_far.more + length (b ∷ below.more) ≡ node_count (forest (before' ++ node ∷ [])) = omega (arith, one, two, all, at) in z);
        pairs_are = below.pairs_are
            ∙ ap (λ (l : List Pair). l ++ map (after (path_to 8 bs1 m)) (pairs node.next)) (pairs1 ∙ ap (λ (l : List Pair). pairs_of bs ps ++ l) here)
            ∙ ap (λ (q : List Step). (pairs_of bs ps ++ v) ++ map (after q) (pairs node.next)) longer
            ∙ ap (λ (l : List Pair). (l ++ v) ++ w) (so_far.pairs_are ∙ ap (λ (g : Forest). x ++ map (after path) (pairs g)) same)
            ∙ append_assoc (x ++ u) v w ∙ append_assoc x u (v ++ w)
            ∙ ap (λ (l : List Pair). x ++ l) (sym (after_last path before' node));
      }

-- no nodes have nothing below them
pub none_of_none : {A : Type 0} (ns : List (Node A)) → length ns ≡ 0 → forest (branches ns) ≡ none
none_of_none [] e = refl
none_of_none (n ∷ ns) e = absurd (omega (arith, e))

-- ---- a whole tree

pub path_of_none : (bs : List Beginning) → path_to 8 bs 0 ≡ []
unfolding path_to
path_of_none bs = refl

pub packed_none : IsPacked [] []
packed_none = record { rooted = λ i b e. absurd (none_some b e); known = λ k d lt. absurd (omega (arith, lt)) }

pub packed_tree : (f : Forest) (new : List Beginning) (are : List Pattern) → Packs [] [] 0 f new are → pairs_of new are ≡ pairs f
packed_tree f new are is = is.pairs_are ∙ ap (λ (q : List Step). map (after q) (pairs f)) (path_of_none []) ∙ after_nil (pairs f)

-- ---- a node among its siblings

fewer_below : (bs : List Branch) (i : ℕ) (d : Branch) → i < length bs → node_count (forest (take i bs)) + (1 + node_count (get_or bs i d).next) ≤ node_count (forest bs)
fewer_below [] i d lt = absurd (omega (arith, lt))
fewer_below (b ∷ bs) zero d lt = omega arith
fewer_below (b ∷ bs) (suc i) d lt = omega (arith, fewer_below bs i d (omega (arith, lt)))

-- those before a node, the node and all below it
pub nodes_at : {A : Type 0} (ns : List (Node A)) (i : ℕ) (n : Node A) → n ≡ get_or ns i n → i < length ns
    → node_count (forest (take i (branches ns))) + (1 + node_count (branch n).next) ≤ node_count (forest (branches ns))
nodes_at ns i n is lt =
    subst (λ (b : Branch). node_count (forest (take i (branches ns))) + (1 + node_count b.next) ≤ node_count (forest (branches ns))) (branch_at ns i n (branch n) is lt)
    (fewer_below (branches ns) i (branch n) (omega (arith, lt, length-map ns branch)))

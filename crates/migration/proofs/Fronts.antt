-- Lists that begin alike, and trees that have one text.
use Rattle.std.proofs.Common.{◌≡◌, ◌↔◌, ℕ, ◌+◌, ◌<◌, ◌≤◌, Bool, IsTrue, List, [], ◌∷◌, ◌++◌, length, take, drop, get_or, All, refl, sym, ◌∙◌, ap, subst, arith, length-append, take-append-drop}
use Rattle.std.proofs.lemmas.List.{append-nil, take_at, take_all, take-take, take_more}
use Rattle.std.proofs.Math.ListN.{get_or-append}
use Rattle.pattern_tree.specs.Content.{Content}
use Rattle.tree_codec.specs.Text.{TreeText, TextsApart, OneText}
use mathlib.Core.List.{IsPrefix}

-- two trees are the same if their texts are
pub same_by : TextsApart → OneText → (x y l r : List ℕ) (t u : Content) (b : Bool) → TreeText 4 1000000 x t → TreeText 4 1000000 y u → l ≡ x → r ≡ y
    → IsTrue b ↔ l ≡ r → IsTrue b ↔ t ≡ u
same_by apart one x y l r t u b is_x is_y l_is r_is told = (
  (λ yes.
      let same : x ≡ y = sym l_is ∙ told.0 yes ∙ r_is in
      (apart 4 1000000 1000000 x [] t u is_x (subst (λ (z : List ℕ). TreeText 4 1000000 z u) (sym same ∙ sym (append-nil x)) is_y)).1),
  λ same. told.1 (l_is ∙ one 4 1000000 1000000 x y t is_x (subst (λ (v : Content). TreeText 4 1000000 y v) (sym same) is_y) ∙ sym r_is),
)

-- a front
pub front_take : (n : ℕ) (list : List Content) → IsPrefix (take n list) list
front_take n list = (drop n list, take-append-drop n list)

pub take_front : (front list : List Content) → IsPrefix front list → take (length front) list ≡ front
take_front front list is = ap (λ (l : List Content). take (length front) l) (sym is.1) ∙ take_at front is.0 (length front) refl

pub front_long : (front list : List Content) → IsPrefix front list → length front ≤ length list
front_long front list is = omega (arith, ap length is.1, length-append front is.0)

pub front_at : (front list : List Content) (i : ℕ) (d : Content) → i < length front → IsPrefix front list → get_or list i d ≡ get_or front i d
front_at front list i d lt is = ap (λ (l : List Content). get_or l i d) (sym is.1) ∙ get_or-append front is.0 d i lt

pub front_by : (front list : List Content) → take (length front) list ≡ front → IsPrefix front list
front_by front list is = (drop (length front) list, ap (λ (l : List Content). l ++ drop (length front) list) (sym is) ∙ take-append-drop (length front) list)

-- one more is the same
pub more_same : (front list : List Content) (i : ℕ) (d : Content) → i < length front → i < length list → take i list ≡ take i front → get_or list i d ≡ get_or front i d
    → take (i + 1) list ≡ take (i + 1) front
more_same front list i d in_front in_list so_far here =
    take_more list i d in_list ∙ ap (λ (l : List Content). l ++ get_or list i d ∷ []) so_far ∙ ap (λ (x : Content). take i front ++ x ∷ []) here ∙ sym (take_more front i d in_front)

-- two fronts of one list, of which one begins with the other's items
pub front_short : (m n : ℕ) (list : List Content) → m ≤ n → IsPrefix (take m list) (take n list)
front_short m n list le =
    let same : take m (take n list) ≡ take m list = take-take m n list le in
    (drop m (take n list), ap (λ (l : List Content). l ++ drop m (take n list)) (sym same) ∙ take-append-drop m (take n list))

-- each of a front is one of the list
pub all_front : (P : Content → Type 0) (front list : List Content) → IsPrefix front list → All P list → All P front
all_front P front list is each = λ k d lt.
    subst P (front_at front list k d lt is) (each k d (let le = front_long front list is in omega (arith, lt, le)))

-- lists that are fronts of one another are the same
pub fronts_same : (a b : List Content) → IsPrefix a b → IsPrefix b a → b ≡ a
fronts_same a b one other =
    let long : length b ≤ length a = front_long b a other in
    sym (take_all (length a) b long) ∙ take_front a b one

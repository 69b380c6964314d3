-- The first tree of a stop.
use Rattle.std.proofs.Common.{◌≡◌, ◌==◌, ℕ, zero, suc, ◌<◌, Bool, true, false, cond, List, [], ◌∷◌, length, get_or, Option, None, Some, refl, sym, ◌∙◌, ap, subst, eq-eqb, arith, All}
use Rattle.std.specs.List.{Contains}
use Rattle.std.proofs.lemmas.Bool.{eqb-true}
use Rattle.pattern_tree.specs.Content.{Content}
use Rattle.merging.specs.Merging.{tree_of}
use Rattle.merging.specs.Laws.{Agree, AreAmong}

contains_head : (x : Content) (xs : List Content) → Contains (x ∷ xs) x
contains_head x xs = (0, omega arith, refl)

contains_tail : (y : Content) (xs : List Content) (x : Content) → Contains xs x → Contains (y ∷ xs) x
contains_tail y xs x h = (suc h.0, omega (arith, h.1), h.2)

-- what is found has that source, is one of the trees, and has what all of them have
pub found_source : (all : List Content) (stop : ℕ) (t : Content) → tree_of all stop ≡ Some t → t.source ≡ stop
found_source [] stop t is = absurd cc
found_source (x ∷ xs) stop t is =
    let cases : (b : Bool) → (x.source == stop) ≡ b → cond b (Some x) (tree_of xs stop) ≡ Some t → t.source ≡ stop =
    λ b. elim b as (λ v. (x.source == stop) ≡ v → cond v (Some x) (tree_of xs stop) ≡ Some t → t.source ≡ stop) [
      | true ↦ λ e h. let same : x ≡ t = cc in ap (λ (c : Content). c.source) (sym same) ∙ eqb-true x.source stop e
      | false ↦ λ e h. found_source xs stop t h
    ] in
    cases (x.source == stop) refl is

pub found_in : (all : List Content) (stop : ℕ) (t : Content) → tree_of all stop ≡ Some t → Contains all t
found_in [] stop t is = absurd cc
found_in (x ∷ xs) stop t is =
    let cases : (b : Bool) → cond b (Some x) (tree_of xs stop) ≡ Some t → Contains (x ∷ xs) t =
    λ b. elim b as (λ v. cond v (Some x) (tree_of xs stop) ≡ Some t → Contains (x ∷ xs) t) [
      | true ↦ λ h. let same : x ≡ t = cc in subst (Contains (x ∷ xs)) same (contains_head x xs)
      | false ↦ λ h. contains_tail x xs t (found_in xs stop t h)
    ] in
    cases (x.source == stop) is

pub found_all : (P : Content → Type 0) (all : List Content) (stop : ℕ) (t : Content) → tree_of all stop ≡ Some t → All P all → P t
found_all P all stop t is each = let here = found_in all stop t is in subst P here.2 (each here.0 t here.1)

-- if none is found, no tree has that source
tail_none : (x : Content) (xs : List Content) (stop : ℕ) → tree_of (x ∷ xs) stop ≡ None → ((x.source == stop) ≡ false) × (tree_of xs stop ≡ None)
tail_none x xs stop is =
    let cases : (b : Bool) → (x.source == stop) ≡ b → cond b (Some x) (tree_of xs stop) ≡ None → ((x.source == stop) ≡ false) × (tree_of xs stop ≡ None) =
    λ b. elim b as (λ v. (x.source == stop) ≡ v → cond v (Some x) (tree_of xs stop) ≡ None → ((x.source == stop) ≡ false) × (tree_of xs stop ≡ None)) [
      | true ↦ λ e h. absurd cc
      | false ↦ λ e h. (e, h)
    ] in
    cases (x.source == stop) refl is

found_none_at : (all : List Content) (stop : ℕ) (t : Content) → tree_of all stop ≡ None → (k : ℕ) → k < length all → get_or all k t ≡ t → t.source ≡ stop → ⊥
found_none_at [] stop t is k below eq source = omega (arith, below)
found_none_at (x ∷ xs) stop t is zero below eq source =
    let rest = tail_none x xs stop is in
    let yes : (x.source == stop) ≡ true = eq-eqb x.source stop (ap (λ (c : Content). c.source) eq ∙ source) in
    let both : true ≡ false = sym yes ∙ rest.0 in
    absurd cc
found_none_at (x ∷ xs) stop t is (suc k) below eq source =
    let rest = tail_none x xs stop is in found_none_at xs stop t rest.1 k (omega (arith, below)) eq source

pub found_none : (all : List Content) (stop : ℕ) (t : Content) → tree_of all stop ≡ None → Contains all t → t.source ≡ stop → ⊥
found_none all stop t is here source = found_none_at all stop t is here.0 here.1 here.2 source

-- of lists of the same trees the same one is found
pub same_found : (all other : List Content) → Agree all → AreAmong all other → AreAmong other all → (stop : ℕ) → tree_of all stop ≡ tree_of other stop
same_found all other agree there back stop = both (tree_of all stop) (tree_of other stop) refl refl where
  both : (a b : Option Content) → tree_of all stop ≡ a → tree_of other stop ≡ b → a ≡ b
  both None None one two = refl
  both None (Some u) one two =
      absurd (found_none all stop u one (back u (found_in other stop u two)) (found_source other stop u two))
  both (Some t) None one two =
      absurd (found_none other stop t two (there t (found_in all stop t one)) (found_source all stop t one))
  both (Some t) (Some u) one two =
      ap Some (agree t u (found_in all stop t one) (back u (found_in other stop u two)) (found_source all stop t one ∙ sym (found_source other stop u two)))

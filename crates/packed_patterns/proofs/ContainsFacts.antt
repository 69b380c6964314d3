-- Whether a path is among those of some patterns.
use Rattle.std.proofs.Common.{◌≡◌, ◌≢◌, ◌<◌, ℕ, List, [], ◌∷◌, length, map, get_or, Contains, arith, sym, subst, ◌∙◌}
use Rattle.std.proofs.lemmas.List.{get_or-map, length-map}
use Rattle.std.proofs.lemmas.List.Elements.{at_from_Contains}
use Rattle.pattern_tree.specs.Forest.{Step}

an_item : {X : Type 0} (items : List X) → 0 < length items → X
an_item [] some = absurd (omega (arith, some))
an_item (x ∷ items) some = x

module _ {X : Type 0} (path_of : X → List Step) (items : List X) (path : List Step) where
  pub found : (i : ℕ) (item : X) → i < length items → item ≡ get_or items i item → path_of item ≡ path → Contains (map path_of items) path
  found i item within is same = (
    i,
    (omega (arith, within, length-map items path_of)),
    get_or-map path_of items i item path within ∙ subst (λ (x : X). path_of x ≡ path) is same,
  )

  pub none : ((i : ℕ) (d : X) → i < length items → path_of (get_or items i d) ≢ path) → ¬ Contains (map path_of items) path
  none others has =
      let at = at_from_Contains (map path_of items) path has in
      let within : at.0 < length items = (let l = at.1 in omega (arith, l, length-map items path_of)) in
      let d = an_item items (omega (arith, within)) in
      others at.0 d within (sym (get_or-map path_of items at.0 d path within) ∙ at.2 path)

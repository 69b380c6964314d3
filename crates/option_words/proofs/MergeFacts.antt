-- The files of a merge, as the words name them.
use Rattle.std.proofs.Common.{◌≡◌, ◌∙◌, ℕ, ◌<◌, true, false, List, [], ◌∷◌, All, map, length, get_or, Option, None, Some, IfNone, Bor, codes, sym, subst, arith}
use Rattle.std.specs.List.{list_any}
use Rattle.std.specs.Str.{bytes_eq}
use Rattle.std.proofs.lemmas.Bool.{false_from_ne_true, false≢true}
use Rattle.std.proofs.lemmas.List.{get_or-map, length-map}
use Rattle.std.proofs.lemmas.List.Folds.{list_any_at, list_any_none}
use Rattle.std.proofs.lemmas.Slice.Eq.{bytes_eq-Decides}
use Rattle.clap.specs.Words.{Row, Text, all_of, first_of}
use Rattle.options.specs.Values.{HasText}
use Rattle.option_words.specs.MergeWords.{PutsTogether}

pub if_none : {X : Type 0} (read : Option X) (P : Type 0) → P → IfNone read P
if_none None P p = p
if_none (Some x) P p = tt

some_same : {X : Type 0} (x y : X) → Some x ≡ Some y → x ≡ y
some_same x y same = cc

-- a file that has the text of one of these is found among them
same_at : (files : List (Bor Text)) (i : ℕ) (d store : Text) → i < length files → get_or (map (λ f. f.now) files) i d ≡ store
    → list_any (λ one. bytes_eq one.now store) files ≡ true
same_at [] i d store below is = absurd (let no : ⊥ = omega (arith, below) in no)
same_at (f ∷ fs) i d store below is =
    list_any_at (λ one. bytes_eq one.now store) (f ∷ fs) i f below
    ((bytes_eq-Decides (get_or (f ∷ fs) i f).now store).1 (sym (get_or-map (λ g. g.now) (f ∷ fs) i f d below) ∙ is))

module _ (rows : List Row) where
  abbrev IsOther : Text → Type 0
  IsOther part = ¬ HasText rows (codes "store") part

  -- no part is named
  pub none_named : all_of (codes "part") rows ≡ None → (parts : List Text) → ¬ PutsTogether rows parts
  none_named none parts puts = let named = puts.named in cc

  module _ (files : List (Bor Text)) where
    -- no store is named, or one that is none of the parts
    pub no_store : first_of (codes "store") rows ≡ None → All IsOther (map (λ f. f.now) files)
    no_store none = λ i d below has. cc

    pub others : (store : Text) → HasText rows (codes "store") store → list_any (λ one. bytes_eq one.now store) files ≡ false
        → All IsOther (map (λ f. f.now) files)
    others store is none = λ i d below has.
        false≢true (sym none ∙ same_at files i d store (omega (arith, below, length-map files (λ (f : Bor Text). f.now)))
        (some_same (get_or (map (λ f. f.now) files) i d) store (sym has ∙ is)))

    -- one that is a part is for no merge
    pub among : (store : Text) → HasText rows (codes "store") store → list_any (λ one. bytes_eq one.now store) files ≡ true
        → all_of (codes "part") rows ≡ Some (map (λ f. f.now) files) → (parts : List Text) → ¬ PutsTogether rows parts
    among store is told named parts puts =
        let same : map (λ f. f.now) files ≡ parts = some_same (map (λ f. f.now) files) parts (sym named ∙ puts.named) in
        let each : All IsOther (map (λ f. f.now) files) = subst (All IsOther) (sym same) puts.others in
        let none : All (λ one. bytes_eq one.now store ≡ false) files = λ i d below. false_from_ne_true (bytes_eq (get_or files i d).now store) (λ equal.
        each i [] (omega (arith, below, length-map files (λ (f : Bor Text). f.now)))
        (subst (HasText rows (codes "store")) (sym (get_or-map (λ (f : Bor Text). f.now) files i d [] below ∙ (bytes_eq-Decides (get_or files i d).now store).0 equal)) is)) in
        false≢true (sym (list_any_none (λ one. bytes_eq one.now store) files none) ∙ told)

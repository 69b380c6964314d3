-- How a store goes on to a list of trees that is known.
use Rattle.std.proofs.Common.{◌≡◌, inl, inr, ℕ, List, [], ◌∷◌, ◌++◌, append_assoc, append-nil, refl, sym, ◌∙◌, ap}
use mathlib.Core.List.{IsPrefix}
use Rattle.disk_model.specs.Disk.{State}
use Rattle.disk_model.specs.Moments.{Leaves, LeavesOnly}
use Rattle.disk_model.proofs.Moments.{still, goes_on, weaker}
use Rattle.pattern_tree.specs.Content.{Content}
use Rattle.section_store.specs.Between.{StandsBetween, GoesBetween}
use Rattle.section_store.specs.Lasting.{LosesNothing}
use Rattle.section_store.specs.Sections.{Form, IsBeforeOrAfter}
use Rattle.section_store.specs.Store.{Holds}
use Rattle.section_store.proofs.Going.{rest_stands, stay}
use Rattle.section_store.proofs.Lasting.{in_turn}

all : (list : List Content) → IsPrefix list list
all list = ([], append-nil list)

front_on : (one two three : List Content) → IsPrefix one two → IsPrefix two three → IsPrefix one three
front_on one two three first second =
    (first.0 ++ second.0, sym (append_assoc one first.0 second.0) ∙ ap (λ (l : List Content). l ++ second.0) first.1 ∙ second.1)

module _ (form : Form) where
  pub held_between : (trees least most : List Content) (place : ℕ) (list : List ℕ) (disk : State)
      → Holds form trees place list disk → IsPrefix least trees → IsPrefix trees most → Leaves (StandsBetween form least most) disk.now
  held_between trees least most place list disk holds low high = λ bytes left. record {
    trees = trees;
    stands = rest_stands form trees place disk holds.rest bytes left;
    holds = low;
    front = high;
  }

  pub stay_between : (least most : List Content) (old new : State) → new ≡ old → GoesBetween form least most old new
  stay_between least most old new same =
      record { leaves = still old new (StandsBetween form least most) same; loses = (stay form [] [] old new same).loses }

  either : (trees : List Content) (tree : Content) (bytes : List ℕ) → IsBeforeOrAfter form trees tree bytes → StandsBetween form trees (trees ++ tree ∷ []) bytes
  either trees tree bytes (inl before) = record { trees = trees; stands = inr before; holds = all trees; front = (tree ∷ [], refl) }
  either trees tree bytes (inr after) =
      record { trees = trees ++ tree ∷ []; stands = inr after; holds = (tree ∷ [], refl); front = all (trees ++ tree ∷ []) }

  pub put_between : (trees : List Content) (tree : Content) (old new : State)
      → LeavesOnly old new (IsBeforeOrAfter form trees tree) → LosesNothing form old new
      → GoesBetween form trees (trees ++ tree ∷ []) old new
  put_between trees tree old new moments loses = record {
    leaves = weaker old new (IsBeforeOrAfter form trees tree) (StandsBetween form trees (trees ++ tree ∷ [])) (either trees tree) moments;
    loses = loses;
  }

  wider : (least less most more : List Content) → IsPrefix less least → IsPrefix most more → (bytes : List ℕ)
      → StandsBetween form least most bytes → StandsBetween form less more bytes
  wider least less most more low high bytes is = record {
    trees = is.trees;
    stands = is.stands;
    holds = front_on less least is.trees low is.holds;
    front = front_on is.trees most more is.front high;
  }

  pub between_more : (least mid most : List Content) (old between new : State)
      → IsPrefix least mid → IsPrefix mid most → GoesBetween form least mid old between → GoesBetween form mid most between new
      → GoesBetween form least most old new
  between_more least mid most old between new low high first second = record {
    leaves = goes_on old between new (StandsBetween form least most)
        (weaker old between (StandsBetween form least mid) (StandsBetween form least most) (wider least least mid most (all least) high) first.leaves)
        (weaker between new (StandsBetween form mid most) (StandsBetween form least most) (wider mid least most most low (all most)) second.leaves);
    loses = in_turn form old between new first.loses second.loses;
  }

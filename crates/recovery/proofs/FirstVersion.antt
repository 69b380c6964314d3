-- All trees of a store that is only read.
use Rattle.std.proofs.Common.{◌≡◌, ◌⊎◌, inl, inr, [], ℕ, List, All, Option, Some, None, IfSome, IfNone, MatchOption, drop, sym, ◌∙◌, ap, subst}
use Rattle.std.proofs.lemmas.List.Elements.{All-nil}
use Rattle.disk_model.specs.Image.{IsOutcome, settled_image}
use Rattle.disk_model.specs.Disk.{State, after_sync}
use Rattle.disk_model.specs.Moments.{Leaves, LeavesOnly}
use Rattle.disk_model.proofs.Moments.{one_more, settled_leaves, still}
use Rattle.pattern_tree.specs.Content.{Content}
use Rattle.section_store.specs.Sections.{Form, MayStand, Stands, IsFresh}
use Rattle.recovery.specs.Keeping.{GivenAll}
use Rattle.recovery.specs.Reading.{IsRead, IsSoFar, IsShut, KeepsWanted}
use Rattle.recovery.specs.declared.found.Found.{Found}
use Rattle.recovery.specs.declared.kept.Kept.{Kept}
use Rattle.recovery.specs.declared.kept.Wanted.TheVariants as wanted
use Rattle.recovery.proofs.Excerpts.{kept_all}
use Rattle.recovery.proofs.Openings.{shut_stands}

-- if at most a sync was done
pub only_read : (s t : State) → IsOutcome s.now s.read → (t ≡ s) ⊎ (t ≡ after_sync s) → LeavesOnly s t (IsOutcome s.now)
only_read s t stays (inl same) = still s t (IsOutcome s.now) same
only_read s t stays (inr did) = one_more s t s.read (settled_image s.read) (IsOutcome s.now) did (settled_leaves s.read (IsOutcome s.now) stays)

pub settled_stands : (form : Form) (trees : List Content) (s t : State) → t ≡ after_sync s → Stands form s.read trees → Leaves (λ bytes. Stands form bytes trees) t.now
settled_stands form trees s t did stands =
    subst (λ (x : State). Leaves (λ bytes. Stands form bytes trees) x.now) (sym did) (settled_leaves s.read (λ bytes. Stands form bytes trees) stands)

-- a keeper of all trees, which had none
module _ (form : Form) (old new : Kept) (empty : old.trees.items ≡ []) (all : old.wanted ≡ wanted.All) where
  -- has those that it was given
  kept_are : (trees : List Content) → GivenAll KeepsWanted old trees new → new.trees.items ≡ trees
  kept_are trees given = rw (empty, all) at (kept_all old new trees given)

  -- and none if it was given none
  none_kept : new ≡ old → new.trees.items ≡ []
  none_kept same = ap (λ (k : Kept). k.trees.items) same ∙ empty

  pub kept_may : (read : List ℕ) (Honest : Type 0) (seen : Option Found)
      → IfSome seen (λ found. IsRead form KeepsWanted old new found.stored.items (λ trees. Honest → IsSoFar form read trees found.place))
      → IfNone seen (new ≡ old) → All (MayStand form) new.trees.items
  kept_may read Honest None some none = subst (All (MayStand form)) (sym (none_kept none)) (All-nil (MayStand form))
  kept_may read Honest (Some found) some none = subst (All (MayStand form)) (sym (kept_are some.trees some.given)) some.stand

  pub kept_stand : (read : List ℕ) (Honest : Type 0) (seen : Option Found) → Honest
      → MatchOption seen (IsFresh read) (λ found. (IsFresh read → ⊥) × IsShut (drop found.place read))
      → IfSome seen (λ found. IsRead form KeepsWanted old new found.stored.items (λ trees. Honest → IsSoFar form read trees found.place))
      → IfNone seen (new ≡ old) → Stands form read new.trees.items
  kept_stand read Honest None honest fresh some none = inl (fresh, none_kept none)
  kept_stand read Honest (Some found) honest fresh some none =
      subst (Stands form read) (sym (kept_are some.trees some.given)) (shut_stands form read some.trees found.place (some.known honest) fresh.1)

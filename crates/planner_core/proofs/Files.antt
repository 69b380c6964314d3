-- What the disk of an open store holds.
use Rattle.std.proofs.Common.{◌≡◌, ℕ, List, [], ◌∷◌, ◌++◌, All, slice_index_or, refl, sym, ◌∙◌, subst, inl, inr}
use Rattle.std.specs.List.{Contains}
use Rattle.std.proofs.lemmas.List.{append-nil, map-append}
use Rattle.std.proofs.lemmas.List.Elements.{All-push, All-weaker, Contains-append_left}
use Rattle.disk_model.specs.Image.{Image, IsOutcome, settled_image}
use Rattle.disk_model.specs.Disk.{State}
use Rattle.disk_model.specs.Moments.{Leaves}
use Rattle.disk_model.proofs.Moments.{only_settled}
use Rattle.pattern_tree.specs.Content.{Content}
use mathlib.Core.List.{IsPrefix}
use Rattle.section_store.specs.Going.{StandsForFront}
use Rattle.section_store.specs.Lasting.{IsExact, IsTrustedFile}
use Rattle.section_store.specs.Laws.{StandsForOne}
use Rattle.section_store.specs.Sections.{Form, Stands, IsSections, IsBeforeOrAfter, sources}
use Rattle.section_store.specs.Store.{IsRest}
use Rattle.section_store.specs.declared.step.Step.{Step}
use Rattle.section_store.specs.declared.step.Step.TheVariants as N
use Rattle.planner_core.specs.Archive.{IsStage, IsArchive}
use Rattle.planner_core.specs.Safety.{IsSafeDisk}

-- the bytes stand for exact trees whose sources are a front of the storing order that holds each acknowledged source
record IsSafeFile (form : Form) (storing acknowledged bytes : List ℕ) : Type 0 where
  trees : List Content
  stands : Stands form bytes trees
  exact : All (IsExact form) trees
  front : IsPrefix (sources trees) storing
  holds : All (Contains (sources trees)) acknowledged

-- a disk each of whose outcomes is such a file is safe
files_safe : (form : Form) (storing acknowledged : List ℕ) (disk : State) → Leaves (IsSafeFile form storing acknowledged) disk.now → IsSafeDisk form storing acknowledged disk
files_safe form storing acknowledged disk each = record {
  trusted = λ bytes left. let is = each bytes left in record { trees = is.trees; stands = is.stands; exact = is.exact };
  front = λ bytes left. let is = each bytes left in record { trees = is.trees; stands = is.stands; holds = (sources is.trees, refl); front = is.front };
  held = λ k d below bytes left. let is = each bytes left in record { trees = is.trees; stands = is.stands; has = is.holds k d below };
}

-- a store at rest stands for its trees
pub rest_leaves : (form : Form) (trees : List Content) (place : ℕ) (disk : State) → IsRest form trees place disk → Leaves (λ bytes. IsSections form bytes trees) disk.now
rest_leaves form trees place disk rest = λ bytes left.
    let read : bytes ≡ disk.read = only_settled disk.read bytes (subst (λ (image : Image). IsOutcome image bytes) rest.durable left) in
    record {
      fits = rest.begins.fits;
      texts = rest.begins.texts;
      gate = rest.gate;
      free = rest.free;
      are = read ∙ rest.begins.are;
      closed = rest.closed;
      of = rest.begins.of;
      apart = rest.begins.apart;
    }

pub source_more : (trees : List Content) (tree : Content) → sources (trees ++ tree ∷ []) ≡ sources trees ++ tree.source ∷ []
source_more trees tree = map-append (λ (t : Content). t.source) trees (tree ∷ [])

module _ (form : Form) (storing acknowledged : List ℕ) where
  -- these trees, or these and one more, are a front of the storing order
  safe_before : (trees : List Content) (rest bytes : List ℕ) → IsSections form bytes trees → All (IsExact form) trees → storing ≡ sources trees ++ rest
      → All (Contains (sources trees)) acknowledged → IsSafeFile form storing acknowledged bytes
  safe_before trees rest bytes stands exact are held = record { trees = trees; stands = inr stands; exact = exact; front = (rest, sym are); holds = held }

  safe_after : (trees : List Content) (tree : Content) (bytes : List ℕ) → IsSections form bytes (trees ++ tree ∷ []) → All (IsExact form) trees → IsExact form tree
      → storing ≡ sources trees ++ tree.source ∷ [] → All (Contains (sources trees)) acknowledged → IsSafeFile form storing acknowledged bytes
  safe_after trees tree bytes stands exact one are held = record {
    trees = trees ++ tree ∷ [];
    stands = inr stands;
    exact = All-push (IsExact form) trees tree exact one;
    front = ([], append-nil (sources (trees ++ tree ∷ [])) ∙ source_more trees tree ∙ sym are);
    holds = All-weaker (Contains (sources trees)) (Contains (sources (trees ++ tree ∷ [])))
        (λ s has. subst (λ (l : List ℕ). Contains l s) (sym (source_more trees tree)) (Contains-append_left (sources trees) (tree.source ∷ []) s has)) acknowledged held;
  }

  safe_either : (trees : List Content) (tree : Content) (bytes : List ℕ) → IsBeforeOrAfter form trees tree bytes → All (IsExact form) trees → IsExact form tree
      → storing ≡ sources trees ++ tree.source ∷ [] → All (Contains (sources trees)) acknowledged → IsSafeFile form storing acknowledged bytes
  safe_either trees tree bytes (inl stands) exact one are held = safe_before trees (tree.source ∷ []) bytes stands exact are held
  safe_either trees tree bytes (inr stands) exact one are held = safe_after trees tree bytes stands exact one are held

  safe_stage : (next : Step) (trees : List Content) (source place extent : ℕ) (disk : State) → IsStage next form trees storing source place extent disk → All (IsExact form) trees
      → All (Contains (sources trees)) acknowledged → Leaves (IsSafeFile form storing acknowledged) disk.now
  safe_stage N.WriteBody trees source place extent disk is exact held = λ bytes left.
      safe_before trees [] bytes (rest_leaves form trees place disk is.rest bytes left) exact (is.storing_are ∙ sym (append-nil (sources trees))) held
  safe_stage N.SyncBody trees source place extent disk is exact held = λ bytes left.
      safe_before trees (is.tree.source ∷ []) bytes (is.at.2 bytes left) exact is.storing_are held
  safe_stage N.OpenGate trees source place extent disk is exact held = λ bytes left.
      safe_before trees (is.tree.source ∷ []) bytes (is.at.3 bytes left) exact is.storing_are held
  safe_stage N.SyncGate trees source place extent disk is exact held = λ bytes left.
      safe_either trees is.tree bytes (is.at.2 bytes left) exact is.exact is.storing_are held
  safe_stage N.Failed trees source place extent disk is exact held = λ bytes left.
      safe_either trees is.tree bytes (is.at bytes left) exact is.exact is.storing_are held

-- an open store is safe
pub archive_safe : (form : Form) (stored storing acknowledged : List ℕ) (next : Step) (source place extent : ℕ) (disk : State)
    → IsArchive form stored storing acknowledged next source place extent disk → IsSafeDisk form storing acknowledged disk
archive_safe form stored storing acknowledged next source place extent disk is =
    files_safe form storing acknowledged disk (safe_stage form storing acknowledged next is.trees source place extent disk is.stage is.exact
    (subst (λ (l : List ℕ). All (Contains l) acknowledged) is.stored_are is.held))

-- what a crash left is as safe as the disk was
module _ (image now : Image) (bytes : List ℕ) where
  left_so : (P : List ℕ → Type 0) → IsOutcome image bytes → now ≡ settled_image bytes → Leaves P image → Leaves P now
  left_so P left is each = λ other there.
      let same : other ≡ bytes = only_settled bytes other (subst (λ (i : Image). IsOutcome i other) is there) in
      rw same (each bytes left)

pub crash_safe : (form : Form) (storing acknowledged bytes : List ℕ) (old new : State) → IsSafeDisk form storing acknowledged old → IsOutcome old.now bytes
    → new.now ≡ settled_image bytes → IsSafeDisk form storing acknowledged new
crash_safe form storing acknowledged bytes old new safe left is = record {
  trusted = left_so old.now new.now bytes (IsTrustedFile form) left is safe.trusted;
  front = left_so old.now new.now bytes (StandsForFront form [] storing) left is safe.front;
  held = λ k d below. left_so old.now new.now bytes _ left is (safe.held k d below);
}

-- what the bytes stand for is a front of the storing order that holds each acknowledged source
pub recovered : StandsForOne → (form : Form) (storing acknowledged : List ℕ) (disk : State) (trees : List Content) → IsSafeDisk form storing acknowledged disk
    → IsOutcome disk.now disk.read → Stands form disk.read trees → IsPrefix (sources trees) storing × All (Contains (sources trees)) acknowledged
recovered one form storing acknowledged disk trees safe left stands =
    let is = safe.front disk.read left in
    let same : is.trees ≡ trees = one form disk.read is.trees trees is.stands stands in (
      subst (λ (l : List Content). IsPrefix (sources l) storing) same is.front,
      λ k d below.
          let has = safe.held k d below disk.read left in
          subst (λ (l : List Content). Contains (sources l) (slice_index_or acknowledged k d)) (one form disk.read has.trees trees has.stands stands) has.has,
    )

-- the bytes stand for some list
pub safe_stands : (form : Form) (storing acknowledged : List ℕ) (disk : State) → IsSafeDisk form storing acknowledged disk → IsOutcome disk.now disk.read
    → ((trees : List Content) → Stands form disk.read trees → ⊥) → ⊥
safe_stands form storing acknowledged disk safe left none = let is = safe.trusted disk.read left in none is.trees is.stands

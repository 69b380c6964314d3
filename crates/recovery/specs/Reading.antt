-- What is known of a file as it is read. Only private clauses cite these words.
use Rattle.std.specs.Prelude.{◌<◌, ◌≡◌, ◌≢◌, ◌⊎◌, ℕ, ◌+◌, ◌^◌, Bool, true, List, [], ◌∷◌, ◌++◌, length, take, drop, get_or, Result, MatchResult}
use Rattle.std.specs.List.{All}
use Rattle.std.specs.Int.{to_be_bytes, w32}
use Rattle.disk_model.specs.Disk.{Grew}
use Rattle.pattern_tree.specs.Content.{Content}
use Rattle.section_store.specs.Sections.{Form, IsSection, IsSections, IsNew, MayStand, sized, sources, open_gate}
use Rattle.section_store.specs.Sources.{is_among}
use Rattle.section_store.specs.Store.{Begins}
use Rattle.section_store.specs.declared.version.Version.{Version}
use Rattle.recovery.specs.Excerpts.{trees_of}
use Rattle.recovery.specs.Recovery.{IsTail, IsOutside, CauseOf, StandsForNoList, IsOfVersion, IsOld}
use Rattle.store_faults.specs.declared.fault.RecoverFault.{RecoverFault}
use Rattle.store_faults.specs.declared.fault.RecoverFault.TheVariants.{NotAStore, OldVersion, OtherTimetable, OtherRides, Damaged, Device, Memory}
use Rattle.recovery.specs.Keeping.{GivenAll}
use Rattle.recovery.specs.declared.kept.Kept.{Kept}
use Rattle.recovery.specs.declared.kept.Wanted.{Wanted}
use Rattle.recovery.specs.declared.kept.Wanted.TheVariants as wanted

-- no call of the disk failed, and there is no fault or memory was refused; or one failed, and that is the fault
abbrev pub OnlyOutside : {T : Type 0} → Result T RecoverFault → ℕ → ℕ → Type 0
OnlyOutside result before after =
    MatchResult result (λ _. after ≡ before) (λ fault. ((fault ≡ Memory) × (after ≡ before)) ⊎ ((fault ≡ Device) × Grew before after))

-- no call of the disk failed; or the fault is the device's only if one did
abbrev pub OnlyCounted : {T : Type 0} → Result T RecoverFault → ℕ → ℕ → Type 0
OnlyCounted result before after = MatchResult result (λ _. after ≡ before) (λ fault. fault ≡ Device → Grew before after)

-- the first bytes are those of a store of that version and of `most` rides, and of a timetable of `count` bytes
pub record IsOwnFront (version : Version) (most count : ℕ) (front : List ℕ) : Type 0 where
  pub of : IsOfVersion version front
  pub rides : get_or front 9 0 ≡ most
  pub size : take 4 (drop 10 front) ≡ to_be_bytes w32 count

-- they are those of none, by the name and the version; or else by the number of rides; or else by the number of bytes
abbrev pub IsOtherFront : Version → ℕ → ℕ → List ℕ → RecoverFault → Type 0
IsOtherFront version most count front NotAStore = (¬ IsOfVersion version front) × (¬ IsOld version front)
IsOtherFront version most count front OldVersion = IsOld version front
IsOtherFront version most count front OtherRides = IsOfVersion version front × (get_or front 9 0 ≢ most)
IsOtherFront version most count front OtherTimetable =
    IsOfVersion version front × (get_or front 9 0 ≡ most) × (take 4 (drop 10 front) ≢ to_be_bytes w32 count)
IsOtherFront version most count front (Damaged number) = ⊥
IsOtherFront version most count front Device = ⊥
IsOtherFront version most count front Memory = ⊥

-- neither a closed gate nor an open one with a text after it
pub record IsCut (rest : List ℕ) : Type 0 where
  pub no_gate : (gate : ℕ) (free : List ℕ) → rest ≡ gate ∷ free → gate ≢ open_gate → ⊥
  pub no_text : (form : Form) (text more : List ℕ) (tree : Content) → IsSection form text tree → rest ≡ open_gate ∷ (sized text ++ more) → ⊥

-- a closed gate comes next
pub record IsShut (rest : List ℕ) : Type 0 where
  pub gate : ℕ
  pub free : List ℕ
  pub are : rest ≡ gate ∷ free
  pub closed : gate ≢ open_gate

-- an open gate and this text come next
pub record IsNext (rest text : List ℕ) : Type 0 where
  pub more : List ℕ
  pub small : length text < 2 ^ 32
  pub are : rest ≡ open_gate ∷ (sized text ++ more)

-- the text is that of no tree that may stand after those sources
abbrev pub IsBad : Form → List ℕ → List ℕ → Type 0
IsBad form before text = (tree : Content) → IsSection form text tree → IsNew tree.source before → ⊥

-- an open section of that tree comes next, which ends there
pub record IsFound (form : Form) (before rest : List ℕ) (place : ℕ) (tree : Content) (end : ℕ) : Type 0 where
  pub text : List ℕ
  pub section : IsSection form text tree
  pub new : IsNew tree.source before
  pub more : List ℕ
  pub are : rest ≡ open_gate ∷ (sized text ++ more)
  pub end_is : end ≡ place + 5 + length text

-- what is known of a file as far as its sections were read
pub record IsSoFar (form : Form) (read : List ℕ) (trees : List Content) (place : ℕ) : Type 0 where
  pub begins : Begins form read trees place (drop place read)
  pub onward : (all : List Content) → IsSections form read all → (more : List Content) × IsTail form (sources trees) (drop place read) more

-- the fault is none of the bytes'; or it has its cause in them, and they stand for no list
abbrev pub IsRefusal : Form → List ℕ → RecoverFault → Type 0
IsRefusal form bytes fault = IsOutside fault ⊎ (CauseOf form bytes fault × StandsForNoList form bytes)

-- whether the tree of the source is kept
abbrev pub wants : Wanted → ℕ → Bool
wants wanted.All source = true
wants (wanted.Of stops) source = is_among source stops.now

-- the trees that are kept, in the order of the list
abbrev pub those : Wanted → List Content → List Content
those wanted.All trees = trees
those (wanted.Of stops) trees = trees_of stops.now trees

-- a tree is added to those that are kept, if it is wanted
pub record KeepsWanted (old : Kept) (tree : Content) (new : Kept) : Type 0 where
  pub wanted : new.wanted ≡ old.wanted
  pub trees : new.trees.items ≡ old.trees.items ++ those old.wanted (tree ∷ [])

-- the trees of some list were read, of which so much is known, and were given to a keeper
pub record IsRead {K : Type 0} (form : Form) (Takes : K → Content → K → Type 0) (old new : K) (stored : List ℕ) (Known : List Content → Type 0) : Type 0 where
  pub trees : List Content
  pub given : GivenAll Takes old trees new
  pub stored_are : stored ≡ sources trees
  pub stand : All (MayStand form) trees
  pub known : Known trees

-- a section was read that ends at `next`, and its tree was given to a keeper and listed
pub record KeepsNext {K : Type 0} (form : Form) (Takes : K → Content → K → Type 0) (old new : K) (before after : List ℕ) (Honest : Type 0)
    (rest : List ℕ) (place next : ℕ) : Type 0 where
  pub tree : Content
  pub taken : Takes old tree new
  pub listed : after ≡ before ++ tree.source ∷ []
  pub may : MayStand form tree
  pub found : Honest → IsFound form before rest place tree next

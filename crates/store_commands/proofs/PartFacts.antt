-- The parts of a merge: one more is taken, and a fault of a part doesn't say that a call on the merge's file failed.
use Rattle.std.proofs.Common.{◌≡◌, ◌∙◌, ℕ, ◌<◌, ◌+◌, List, [], ◌∷◌, ◌++◌, All, Option, length, map, take, get_or, sym, ap, subst, arith, inl, inr, append-nil, length-append}
use Rattle.std.proofs.Math.Seq.{get_or-append_seam}
use Rattle.std.proofs.lemmas.List.{get_or_append_left, map-append, take_more}
use Rattle.std.proofs.lemmas.List.Concat.{flat_map-append}
use Rattle.std.proofs.lemmas.Slice.Zip.{all_zipped_more}
use Rattle.disk_model.specs.Disk.{State}
use Rattle.disk_model.specs.declared.fault.FileFault.{FileFault}
use Rattle.disk_model.specs.declared.fault.FileFault.TheVariants as opens
use Rattle.pattern_tree.specs.Content.{Content}
use Rattle.recovery.specs.Recovery.{IsLeftAlone}
use Rattle.store_faults.specs.declared.fault.RecoverFault.{RecoverFault}
use Rattle.store_faults.specs.declared.fault.RecoverFault.TheVariants as stores
use Rattle.section_store.specs.Lasting.{IsExact, IsTrusted}
use Rattle.section_store.specs.Sections.{Form, Stands}
use Rattle.merging.specs.Laws.{Agree}
use Rattle.merging.specs.declared.fault.ShelfFault.{ShelfFault}
use Rattle.merging.specs.declared.fault.ShelfFault.TheVariants as shelves
use Rattle.part_shelf.specs.Shelves.{Has, IsAdded, form_for}
use Rattle.part_shelf.specs.declared.fault.PartFault.{PartFault}
use Rattle.part_shelf.specs.declared.fault.PartFault.TheVariants as parts
use Rattle.part_shelf.specs.declared.shelf.PartShelf.{PartShelf}
use Rattle.faults.specs.Faults.{in_part, of_part}
use Rattle.faults.specs.declared.fault.Fault.{Fault}
use Rattle.faults.specs.declared.fault.Fault.TheVariants as faults
use Rattle.faults.specs.declared.migrating.StoreFault.{StoreFault}
use Rattle.faults.specs.declared.migrating.StoreFault.TheVariants as files
use Rattle.feed_basis.specs.Basis.{BasisData}
use Rattle.store_merging.specs.Telling.{IsOfPart, IsOfRefusal, IsOfShelf}
use Rattle.store_terms.specs.Stores.{OnlyFailing}
use Rattle.store_terms.proofs.OpeningFacts.{memory_fails}
use Rattle.store_files.specs.Files.{IsKeptOut, IsOfFile, of_file}
use Rattle.store_commands.specs.Merged.{AreOpened, AreShelved, IsOpened, IsUnshelved, IsUntaken, joined}
use Rattle.store_files.specs.Disks.{DiskView}
use denote.Ref.{Bor}

-- a fault of a part's file doesn't say that a call of the disk failed into which the parts are put
module _ (before after : ℕ) where
  abbrev Silent : Fault → Type 0
  Silent fault = OnlyFailing before after fault

  part_fails : (path : Bor (List ℕ)) (f : StoreFault) → Silent (faults.Part path f)
  part_fails path f (inl e) = cc
  part_fails path f (inr (inl e)) = cc
  part_fails path f (inr (inr e)) = cc

  other_fails : (stop part earlier : Bor (List ℕ)) → Silent (faults.OtherTree stop part earlier)
  other_fails stop part earlier (inl e) = cc
  other_fails stop part earlier (inr (inl e)) = cc
  other_fails stop part earlier (inr (inr e)) = cc

  refused_file : (path : Bor (List ℕ)) (why : FileFault) → Silent (in_part path (of_file why))
  refused_file path opens.InUse = part_fails path files.InUse
  refused_file path opens.Failed = part_fails path (files.Recover stores.Device)

  unused_file : (path : Bor (List ℕ)) (fault : Fault) → IsOfFile fault → Silent (in_part path fault)
  unused_file path fault (inl e) = subst (λ f. Silent (in_part path f)) (sym e) (part_fails path (files.Recover stores.NotAStore))
  unused_file path fault (inr (inl e)) = subst (λ f. Silent (in_part path f)) (sym e) (part_fails path files.GateDamaged)
  unused_file path fault (inr (inr (inl e))) = subst (λ f. Silent (in_part path f)) (sym e) (part_fails path (files.Recover stores.Device))
  unused_file path fault (inr (inr (inr e))) = subst (λ f. Silent (in_part path f)) (sym e) (memory_fails before after)

  of_part_fails : (path : Bor (List ℕ)) (why : RecoverFault) → Silent (of_part path why)
  of_part_fails path stores.Memory = memory_fails before after
  of_part_fails path stores.NotAStore = part_fails path (files.Recover stores.NotAStore)
  of_part_fails path stores.OldVersion = part_fails path (files.Recover stores.OldVersion)
  of_part_fails path stores.OtherTimetable = part_fails path (files.Recover stores.OtherTimetable)
  of_part_fails path stores.OtherRides = part_fails path (files.Recover stores.OtherRides)
  of_part_fails path (stores.Damaged number) = part_fails path (files.Recover (stores.Damaged number))
  of_part_fails path stores.Device = part_fails path (files.Recover stores.Device)

  of_file_fails : (paths : List (Bor (List ℕ))) (part : ℕ) (why : StoreFault) (fault : Fault) → IsOfPart paths part why fault → Silent fault
  of_file_fails paths part why fault is = subst Silent (sym is.2) (part_fails is.0 why)

  of_shelf_fails : (paths : List (Bor (List ℕ))) (why : ShelfFault) (fault : Fault) → IsOfShelf paths why fault → Silent fault
  of_shelf_fails paths (shelves.Device part) fault is = of_file_fails paths part (files.Recover stores.Device) fault is
  of_shelf_fails paths shelves.Memory fault is = subst Silent (sym is) (memory_fails before after)
  of_shelf_fails paths (shelves.Changed part) fault is = of_file_fails paths part files.Changed fault is

  refusal_fails : (basis : BasisData) (paths : List (Bor (List ℕ))) (number : ℕ) (why : PartFault) (fault : Fault) → IsOfRefusal basis paths number why fault
      → Silent fault
  refusal_fails basis paths number (parts.Store why) fault is = subst Silent (sym is.2) (of_part_fails is.0 why)
  refusal_fails basis paths number (parts.OtherTree stop part) fault is = subst Silent (sym is.told) (other_fails is.id is.path is.before)
  refusal_fails basis paths number (parts.Shelf why) fault is = of_shelf_fails paths why fault is

  module _ {D : Type 0} (v : DiskView D) (form : Form) (path : Bor (List ℕ)) where
    kept_out : (fault : Fault) (disk : Option D) → IsKeptOut v form path.now fault disk → Silent (in_part path fault)
    kept_out fault disk (inl refused) = subst (λ f. Silent (in_part path f)) (sym refused.told) (refused_file path refused.why)
    kept_out fault disk (inr unused) = unused_file path fault unused.kind

  untaken_fails : {D : Type 0} (v : DiskView D) (basis : BasisData) (k : ℕ) (paths : List (Bor (List ℕ))) (disks : List D) (number : ℕ) (fault : Fault)
      → IsUntaken v basis k paths disks number fault → Silent fault
  untaken_fails v basis k paths disks number fault (inl kept) = subst Silent (sym kept.told) (kept_out v _ kept.path kept.why kept.disk kept.kept_out)
  untaken_fails v basis k paths disks number fault (inr refused) = refusal_fails basis paths number refused.why fault refused.told

  pub unshelved_fails : {D : Type 0} (v : DiskView D) (basis : BasisData) (k : ℕ) (paths : List (Bor (List ℕ))) (fault : Fault)
      → IsUnshelved v basis k paths fault → OnlyFailing before after fault
  unshelved_fails v basis k paths fault (inl memory) = subst Silent (sym memory) (memory_fails before after)
  unshelved_fails v basis k paths fault (inr at) = untaken_fails v basis k paths at.disks at.number fault at.untaken

-- all of a list with one more, and that one
all_front : {X : Type 0} (P : X → Type 0) (xs : List X) (x : X) → All P (xs ++ x ∷ []) → All P xs
all_front P xs x all = λ i d below.
    subst P (get_or_append_left xs (x ∷ []) d i below) (all i d (omega (arith, below, length-append xs (x ∷ []))))

all_last : {X : Type 0} (P : X → Type 0) (xs : List X) (x : X) → All P (xs ++ x ∷ []) → P x
all_last P xs x all = subst P (get_or-append_seam xs x [] x) (all (length xs) x (omega (arith, length-append xs (x ∷ []))))

joined_more : (lists : List (List Content)) (trees : List Content) → joined (lists ++ trees ∷ []) ≡ joined lists ++ trees
joined_more lists trees =
    flat_map-append (λ (t : List Content). t) lists (trees ∷ []) ∙ ap (λ (l : List Content). joined lists ++ l) (append-nil trees)

-- a part that was added is on the shelf after those before it
module _ {D : Type 0} (v : DiskView D) (form : Form) (paths : List (Bor (List ℕ))) (number : ℕ) (path : Bor (List ℕ)) (within : number < length paths)
    (is : get_or paths number path ≡ path) (old new : PartShelf D) (disk : D) where
  pub taken : (before : AreShelved v form (take number paths) old) → IsOpened v form path.now disk → form_for new ≡ form_for old
      → map v.failures new.disks.items ≡ map v.failures old.disks.items ++ v.failures disk ∷ []
      → ((states : List State) (all : List Content) → Has v.honest v.state old states all → v.honest disk
      → IsAdded (form_for old) (v.state disk) all (λ now trees. Has v.honest v.state new (states ++ now ∷ []) trees))
      → AreShelved v form (take (number + 1) paths) new
  taken before opened same counted added =
      let next : take (number + 1) paths ≡ take number paths ++ path ∷ [] =
      take_more paths number path within ∙ ap (λ (p : Bor (List ℕ)). take number paths ++ p ∷ []) is in
      record {
        disks = before.disks ++ disk ∷ [];
        opened = subst (λ (l : List (Bor (List ℕ))). AreOpened v form l (before.disks ++ disk ∷ [])) (sym next)
            (all_zipped_more (λ (p : Bor (List ℕ)) (d : D). IsOpened v form p.now d) (take number paths) before.disks path disk before.opened opened);
        form_is = same ∙ before.form_is;
        failed = counted ∙ ap (λ (l : List ℕ). l ++ v.failures disk ∷ []) before.failed ∙ sym (map-append v.failures before.disks (disk ∷ []));
        has = λ honest.
            let was = before.has (all_front v.honest before.disks disk honest) in
            let a = added was.states (joined was.lists) was.holds (all_last v.honest before.disks disk honest) in
            record {
              states = was.states ++ a.now ∷ [];
              lists = was.lists ++ a.trees ∷ [];
              read = record {
                stand = all_zipped_more (λ (d : D) (trees : List Content). Stands form (v.state d).read trees) before.disks was.lists disk a.trees was.read.stand
                    (subst (λ (f : Form). Stands f (v.state disk).read a.trees) before.form_is a.stands);
                alone = all_zipped_more (λ (d : D) (now : State). IsLeftAlone (v.state d) now) before.disks was.states disk a.now was.read.alone a.alone;
                exact = all_zipped_more (λ (d : D) (trees : List Content). IsTrusted form (v.state d) → All (IsExact form) trees) before.disks was.lists disk a.trees
                    was.read.exact (subst (λ (f : Form). IsTrusted f (v.state disk) → All (IsExact f) a.trees) before.form_is a.exact);
                agree = subst Agree (sym (joined_more was.lists a.trees)) a.has.agree;
              };
              holds = subst (Has v.honest v.state new (was.states ++ a.now ∷ [])) (sym (joined_more was.lists a.trees)) a.has;
            };
      }

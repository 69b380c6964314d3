-- What a reported fault of a merge says of the calls of the disk into which the parts are put.
use Rattle.std.proofs.Common.{◌≡◌, ℕ, List, refl, sym, subst, inl, inr}
use Rattle.disk_model.specs.Disk.{Grew}
use Rattle.store_faults.specs.declared.fault.RecoverFault.{RecoverFault}
use Rattle.store_faults.specs.declared.fault.RecoverFault.TheVariants as stores
use Rattle.section_store.specs.declared.fault.PutFault.{PutFault}
use Rattle.section_store.specs.declared.fault.PutFault.TheVariants as puts
use Rattle.merging.specs.declared.fault.MergeFault.TheVariants as merges
use Rattle.merging.specs.declared.fault.ShelfFault.{ShelfFault}
use Rattle.merging.specs.declared.fault.ShelfFault.TheVariants as shelves
use Rattle.faults.specs.Faults.{of_store}
use Rattle.faults.specs.declared.fault.Fault.{Fault}
use Rattle.faults.specs.declared.fault.Fault.TheVariants as faults
use Rattle.faults.specs.declared.migrating.StoreFault.{StoreFault}
use Rattle.faults.specs.declared.migrating.StoreFault.TheVariants as files
use Rattle.store_migration.specs.Migrations.{of_put}
use Rattle.store_terms.specs.Stores.{OnlyFailing}
use Rattle.store_merging.specs.Merges.{TellsOut}
use Rattle.store_merging.specs.Telling.{IsOfMerge, IsOfShelf}
use Rattle.store_merging.specs.declared.fault.UnmergedFault.{UnmergedFault}
use Rattle.store_merging.specs.declared.fault.UnmergedFault.TheVariants as unmerged
use denote.Ref.{Bor}

module _ (before after : ℕ) where
  abbrev Tells : Fault → Type 0
  Tells fault = OnlyFailing before after fault

  silent_part : (path : Bor (List ℕ)) (why : StoreFault) → Tells (faults.Part path why)
  silent_part path why (inl e) = cc
  silent_part path why (inr (inl e)) = cc
  silent_part path why (inr (inr e)) = cc

  silent_memory : Tells faults.Memory
  silent_memory (inl e) = cc
  silent_memory (inr (inl e)) = cc
  silent_memory (inr (inr e)) = cc

  silent_list : Tells faults.OtherList
  silent_list (inl e) = cc
  silent_list (inr (inl e)) = cc
  silent_list (inr (inr e)) = cc

  silent_size : Tells faults.FileTooLarge
  silent_size (inl e) = cc
  silent_size (inr (inl e)) = cc
  silent_size (inr (inr e)) = cc

  -- a store that isn't opened: only its device reports a call
  silent_store : (why : RecoverFault) → (why ≡ stores.Device → ⊥) → Tells (faults.Store why)
  silent_store why isnt (inl e) = let is : why ≡ stores.Device = cc in absurd (isnt is)
  silent_store why isnt (inr (inl e)) = cc
  silent_store why isnt (inr (inr e)) = cc

  of_shelf : (paths : List (Bor (List ℕ))) (why : ShelfFault) (fault : Fault) → IsOfShelf paths why fault → Tells fault
  of_shelf paths (shelves.Device part) fault is = subst Tells (sym is.2) (silent_part is.0 (files.Recover stores.Device))
  of_shelf paths shelves.Memory fault is = subst Tells (sym is) silent_memory
  of_shelf paths (shelves.Changed part) fault is = subst Tells (sym is.2) (silent_part is.0 files.Changed)

  of_unopened : (why : RecoverFault) → (why ≡ stores.Device → Grew before after) → Tells (of_store why)
  of_unopened stores.Memory grew = silent_memory
  of_unopened stores.NotAStore grew = silent_store stores.NotAStore (λ e. cc)
  of_unopened stores.OldVersion grew = silent_store stores.OldVersion (λ e. cc)
  of_unopened stores.OtherTimetable grew = silent_store stores.OtherTimetable (λ e. cc)
  of_unopened stores.OtherRides grew = silent_store stores.OtherRides (λ e. cc)
  of_unopened (stores.Damaged number) grew = silent_store (stores.Damaged number) (λ e. cc)
  of_unopened stores.Device grew = λ tells. grew refl

  of_unput : (why : PutFault) → (why ≡ puts.Device → Grew before after) → Tells (of_put why)
  of_unput puts.Device grew = λ tells. grew refl
  of_unput puts.TooLarge grew = silent_size
  of_unput puts.Memory grew = silent_memory
  of_unput puts.AlreadyStored grew = silent_list
  of_unput puts.Failed grew = silent_list
  of_unput puts.OtherTimetable grew = silent_list

  pub told_fails : (paths : List (Bor (List ℕ))) (why : UnmergedFault) (fault : Fault) → IsOfMerge paths why fault → (TellsOut why → Grew before after)
      → OnlyFailing before after fault
  told_fails paths (unmerged.Unopened why) fault is grew =
      subst Tells (sym is) (of_unopened why (λ e. grew (inl (subst (λ (w : RecoverFault). unmerged.Unopened why ≡ unmerged.Unopened w) e refl))))
  told_fails paths (unmerged.Stopped (merges.Shelf why)) fault is grew = of_shelf paths why fault is
  told_fails paths (unmerged.Stopped (merges.Put why)) fault is grew =
      subst Tells (sym is)
      (of_unput why (λ e. grew (inr (subst (λ (w : PutFault). unmerged.Stopped (merges.Put why) ≡ unmerged.Stopped (merges.Put w)) e refl))))
  told_fails paths unmerged.Untold fault is grew = subst Tells (sym is) silent_memory

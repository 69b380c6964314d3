-- What a file that isn't used says of the calls of a disk.
use Rattle.std.proofs.Common.{ℕ, List, Option, sym, subst, inl, inr}
use Rattle.disk_model.specs.declared.fault.FileFault.{FileFault}
use Rattle.disk_model.specs.declared.fault.FileFault.TheVariants as opens
use Rattle.store_faults.specs.declared.fault.RecoverFault.TheVariants.{Device, NotAStore}
use Rattle.section_store.specs.Sections.{Form}
use Rattle.faults.specs.Faults.{in_migration}
use Rattle.faults.specs.declared.fault.Fault.{Fault}
use Rattle.faults.specs.declared.fault.Fault.TheVariants as faults
use Rattle.faults.specs.declared.migrating.Side.TheVariants.{Old}
use Rattle.faults.specs.declared.migrating.StoreFault.{StoreFault}
use Rattle.faults.specs.declared.migrating.StoreFault.TheVariants as files
use Rattle.store_terms.specs.Stores.{OnlyFailing}
use Rattle.store_terms.proofs.OpeningFacts.{memory_fails}
use Rattle.store_files.specs.Files.{IsKeptOut, IsOfFile, of_file}
use Rattle.store_files.specs.Disks.{DiskView}

-- a file that is no store reports no failed call
pub foreign_fails : (before after : ℕ) → OnlyFailing before after (faults.Store NotAStore)
foreign_fails before after (inl e) = cc
foreign_fails before after (inr (inl e)) = cc
foreign_fails before after (inr (inr e)) = cc

-- the old file of a migration reports no failed call of the new one's disk
module _ (before after : ℕ) where
  old_fails : (f : StoreFault) → OnlyFailing before after (faults.Migration Old f)
  old_fails f (inl e) = cc
  old_fails f (inr (inl e)) = cc
  old_fails f (inr (inr e)) = cc

  abbrev Silent : Fault → Type 0
  Silent fault = OnlyFailing before after (in_migration Old fault)

  refused_old : (why : FileFault) → Silent (of_file why)
  refused_old opens.InUse = old_fails files.InUse
  refused_old opens.Failed = old_fails (files.Recover Device)

  unused_old : (fault : Fault) → IsOfFile fault → Silent fault
  unused_old fault (inl e) = subst Silent (sym e) (old_fails (files.Recover NotAStore))
  unused_old fault (inr (inl e)) = subst Silent (sym e) (old_fails files.GateDamaged)
  unused_old fault (inr (inr (inl e))) = subst Silent (sym e) (old_fails (files.Recover Device))
  unused_old fault (inr (inr (inr e))) = subst Silent (sym e) (memory_fails before after)

  pub kept_out_fails : {D : Type 0} (v : DiskView D) (form : Form) (path : List ℕ) (fault : Fault) (disk : Option D)
      → IsKeptOut v form path fault disk → OnlyFailing before after (in_migration Old fault)
  kept_out_fails v form path fault disk (inl refused) = subst Silent (sym refused.told) (refused_old refused.why)
  kept_out_fails v form path fault disk (inr unused) = unused_old fault unused.kind

-- What the program says of a migration, from what the migration did.
use Rattle.std.proofs.Common.{◌≡◌, ◌∙◌, ℕ, List, length, sym, ap, subst, inr}
use Rattle.std.proofs.lemmas.List.{length-map}
use Rattle.disk_model.specs.Disk.{State}
use Rattle.disk_model.specs.Image.{Image}
use Rattle.disk_model.specs.Moments.{Leaves}
use Rattle.disk_model.proofs.Moments.{settled_leaves}
use Rattle.timetable.specs.Table.{Table}
use Rattle.pattern_tree.specs.Content.{Content}
use Rattle.section_store.specs.Sections.{Form, Stands, form_of, old_form_of, sources}
use Rattle.section_store.specs.Store.{Holds}
use Rattle.migration.specs.Migration.{IsRead, Migrates, Stopped}
use Rattle.migration.specs.declared.fault.MigrateFault.{MigrateFault}
use Rattle.answer_lines.specs.declared.report.Report.TheVariants as reports
use Rattle.faults.specs.declared.fault.Fault.{Fault}
use Rattle.feed_basis.specs.Basis.{BasisData}
use Rattle.store_migration.specs.Migrations.{IsTakenOver, IsUntaken, of_migration}

-- a file that holds trees at rest stands for them
holds_stands : (form : Form) (trees : List Content) (place : ℕ) (list : List ℕ) (disk : State) → Holds form trees place list disk → Stands form disk.read trees
holds_stands form trees place list disk h = inr (record {
  fits = h.rest.begins.fits;
  texts = h.rest.begins.texts;
  gate = h.rest.gate;
  free = h.rest.free;
  are = h.rest.begins.are;
  closed = h.rest.closed;
  of = h.rest.begins.of;
  apart = h.rest.begins.apart;
})

-- and so does whatever a crash leaves of it
holds_settled : (form : Form) (trees : List Content) (place : ℕ) (list : List ℕ) (disk : State) → Holds form trees place list disk
    → Leaves (λ bytes. Stands form bytes trees) disk.now
holds_settled form trees place list disk h =
    subst (λ (i : Image). Leaves (λ bytes. Stands form bytes trees) i) (sym h.rest.durable)
    (settled_leaves disk.read (λ bytes. Stands form bytes trees) (holds_stands form trees place list disk h))

-- there are as many stored sources as trees
counts_trees : (trees : List Content) (list : List ℕ) → list ≡ sources trees → length list ≡ length trees
counts_trees trees list are = ap length are ∙ length-map trees (λ (tree : Content). tree.source)

-- what was done to the stores of a timetable was done to those of the basis that has it
module _ (basis : BasisData) (k : ℕ) (table : Table) (is : table ≡ basis.timetable) (old old_now target new : State) where
  pub taken : (trees : List Content) (place : ℕ) (list : List ℕ) (count : ℕ) → IsRead (old_form_of table k) old old_now trees
      → Migrates (old_form_of table k) (form_of table k) old target new trees → Holds (form_of table k) trees place list new → count ≡ length list
      → IsTakenOver basis k old old_now target new (reports.Migrated count)
  taken trees place list count read migrates holds counted = record {
    trees = trees;
    read = subst (λ (t : Table). IsRead (old_form_of t k) old old_now trees) is read;
    migrates = subst (λ (t : Table). Migrates (old_form_of t k) (form_of t k) old target new trees) is migrates;
    stands = subst (λ (t : Table). Stands (form_of t k) new.read trees) is (holds_stands (form_of table k) trees place list new holds);
    settled = subst (λ (t : Table). Leaves (λ bytes. Stands (form_of t k) bytes trees) new.now) is
        (holds_settled (form_of table k) trees place list new holds);
    told = ap (λ (n : ℕ). reports.Migrated n) (counted ∙ counts_trees trees list holds.stored_are);
  }

  pub untaken : (why : MigrateFault) (fault : Fault) → Stopped (old_form_of table k) (form_of table k) old old_now target new why
      → fault ≡ of_migration why → IsUntaken basis k old old_now target new fault
  untaken why fault stopped told = record {
    why = why;
    stopped = subst (λ (t : Table). Stopped (old_form_of t k) (form_of t k) old old_now target new why) is stopped;
    told = told;
  }

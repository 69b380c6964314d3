-- What the program says of a merge, from what the merge did.
use Rattle.std.proofs.Common.{◌≡◌, ◌≢◌, ◌⊎◌, inr, ℕ, List, refl, sym, subst}
use Rattle.disk_model.specs.Disk.{State}
use Rattle.disk_model.specs.Image.{Image}
use Rattle.disk_model.specs.Moments.{Leaves}
use Rattle.disk_model.proofs.Moments.{settled_leaves}
use Rattle.timetable.specs.Table.{Table, stops_of}
use Rattle.pattern_tree.specs.Content.{Content}
use Rattle.stop_parts.specs.Parts.{whole}
use Rattle.section_store.specs.GoingLaws.{TrustInTurn}
use Rattle.section_store.specs.Laws.{LosesNothingInTurn}
use Rattle.section_store.specs.Sections.{Form, Stands, form_of, sources}
use Rattle.section_store.specs.Store.{Holds}
use Rattle.section_store.specs.declared.fault.PutFault.TheVariants as puts
use Rattle.recovery.specs.Opening.{IsOpening}
use Rattle.recovery.specs.Recovery.{CauseOf, IsLeftAlone, IsOutside, StandsForNoList}
use Rattle.store_faults.specs.declared.fault.RecoverFault.{RecoverFault}
use Rattle.migration.specs.Migration.{OneIsTooLarge}
use Rattle.merging.specs.Merging.{Merges, merged}
use Rattle.merging.specs.declared.fault.MergeFault.{MergeFault}
use Rattle.merging.specs.declared.fault.MergeFault.TheVariants as merges
use Rattle.merging.specs.Reads.{IfOfShelf, IsSteady}
use Rattle.answer_lines.specs.declared.report.Built.{Built}
use Rattle.feed_basis.specs.Basis.{BasisData}
use Rattle.store_terms.specs.Counts.{CountsStored}
use Rattle.store_terms.specs.Stores.{form_over}
use Rattle.store_merging.specs.Merges.{CauseOfStop, HoldsList, IsMerged, IsMerging, IsUnopened}

-- a file that holds trees at rest stands for them, and so does whatever a crash leaves of it
holds_stands : (form : Form) (trees : List Content) (place : ℕ) (list : List ℕ) (disk : State) → Holds form trees place list disk → Stands form disk.read trees
holds_stands form trees place list disk h = inr (record {
  fits = h.rest.begins.fits;
  texts = h.rest.begins.texts;
  gate = h.rest.gate;
  free = h.rest.free;
  are = h.rest.begins.are;
  closed = h.rest.closed;
  of = h.rest.begins.of;
  apart = h.rest.begins.apart;
})

pub holds_list : (form : Form) (trees : List Content) (place : ℕ) (list : List ℕ) (disk : State) → Holds form trees place list disk → HoldsList form trees disk
holds_list form trees place list disk h = record {
  stands = holds_stands form trees place list disk h;
  settled = subst (λ (i : Image). Leaves (λ bytes. Stands form bytes trees) i) (sym h.rest.durable)
      (settled_leaves disk.read (λ bytes. Stands form bytes trees) (holds_stands form trees place list disk h));
}

-- a file that was opened, and then merged into
pub merging : LosesNothingInTurn → TrustInTurn → (form : Form) (before all : List Content) (old mid new : State) → Stands form old.read before → IsOpening form old mid
    → Merges form before all mid new → IsMerging form before all old new
merging loses trust form before all old mid new stood opening m = record {
  stood = stood;
  opened = mid;
  opening = opening;
  goes = m.goes;
  loses = loses form old mid new opening.loses m.goes.loses;
  trusts = λ exact. trust form old mid new opening.trusts (m.trusts exact);
}

pub counts : (basis : BasisData) (k : ℕ) (before all : List Content) (old new : State) (list : List ℕ) (built : Built) → IsMerging (form_over basis k) before all old new
    → HoldsList (form_over basis k) (merged before all (stops_of basis.timetable)) new → list ≡ sources (merged before all (stops_of basis.timetable))
    → CountsStored basis whole list built → IsMerged basis k all old new built
counts basis k before all old new list built is holds are told =
    record { before = before; merging = is; holds = holds; told = subst (λ (l : List ℕ). CountsStored basis whole l built) are told }

-- why it stopped
pub stops : (form : Form) (all : List Content) (fault : MergeFault) → (fault ≡ merges.Put puts.TooLarge → OneIsTooLarge form all) → IfOfShelf IsSteady fault
    → (fault ≢ merges.Put puts.Failed) × (fault ≢ merges.Put puts.OtherTimetable) × (fault ≢ merges.Put puts.AlreadyStored) → CauseOfStop form all fault
stops form all (merges.Shelf fault) large changed kinds = changed
stops form all (merges.Put puts.TooLarge) large changed kinds = large refl
stops form all (merges.Put puts.Device) large changed kinds = tt
stops form all (merges.Put puts.Memory) large changed kinds = tt
stops form all (merges.Put puts.AlreadyStored) large changed kinds = absurd (kinds.2 refl)
stops form all (merges.Put puts.Failed) large changed kinds = absurd (kinds.0 refl)
stops form all (merges.Put puts.OtherTimetable) large changed kinds = absurd (kinds.1 refl)

-- a file that wasn't opened
pub unopened : (basis : BasisData) (k : ℕ) (table : Table) (why : RecoverFault) (old new : State) → table ≡ basis.timetable → CauseOf (form_of table k) old.read why
    → (IsOutside why ⊎ StandsForNoList (form_of table k) old.read) → (IsOutside why ⊎ IsLeftAlone old new) → IsOpening (form_of table k) old new
    → IsUnopened (form_over basis k) old new why
unopened basis k table why old new is cause no_list alone opening =
    subst (λ (t : Table). IsUnopened (form_of t k) old new why) is (record { cause = cause; no_list = no_list; alone = alone; opening = opening })

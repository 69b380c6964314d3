-- A store that was opened keeps the trees that its file had.
use Rattle.std.proofs.Common.{◌≡◌, inr, ℕ, List, subst}
use Rattle.disk_model.specs.Disk.{State}
use mathlib.Core.List.{IsPrefix}
use Rattle.section_store.specs.Going.{IsKept, GoesOn}
use Rattle.section_store.specs.GoingLaws.{HeldStandsForMore, GoesOnByTrees}
use Rattle.section_store.specs.Laws.{StandsForOne}
use Rattle.section_store.specs.Sections.{Form, Stands}
use Rattle.section_store.proofs.Outcomes.{rest_stands}
use Rattle.recovery.specs.Moments.{IsLife}
use Rattle.recovery.specs.Opening.{IsOpening, StandsForSources}

pub life : StandsForOne → HeldStandsForMore → GoesOnByTrees → (form : Form) (old mid new : State) (place : ℕ) (list storing : List ℕ)
    → IsOpening form old mid → StandsForSources form list old.read → IsKept form place list mid
    → IsPrefix list storing → GoesOn form list storing mid new → IsLife form old new list storing
life one_list more_law trees_law form old mid new place list storing opening stood kept front goes =
    let there : Stands form mid.read kept.0 = inr (rest_stands form kept.0 place mid kept.1.rest) in
    let same : stood.0 ≡ kept.0 = one_list form mid.read stood.0 kept.0 (opening.still stood.0 stood.1) there in
    record {
      trees = kept.0;
      stood = subst (Stands form old.read) same stood.1;
      recovered_are = kept.1.stored_are;
      answered = mid;
      before = opening.leaves;
      here = more_law form kept.0 place list storing mid kept.1 front;
      after = trees_law form kept.0 place list storing mid new kept.1 goes;
    }

-- What is known of trees that are audited as they come. Only private clauses cite these words.
use Rattle.std.specs.Prelude.{◌≡◌, ◌<◌, ◌≤◌, List, ◌∷◌, [], ◌++◌, Option, IfSome, IsTrue}
use Rattle.std.specs.Global.{Vec}
use Rattle.std.specs.List.{AllZip}
use Rattle.std.specs.List.Sorted.{IsPermutation}
use Rattle.timetable.specs.Table.{stops_of}
use Rattle.pattern_tree.specs.Content.{Content, longest}
use Rattle.section_store.specs.Sections.{Form}
use Rattle.auditing.specs.Audits.{IsFirstDifference}
use Rattle.auditing.specs.declared.auditing.Difference.{Difference}
use Rattle.store_audit.specs.declared.due.Due.{Due}
use Rattle.store_audit.specs.declared.due.TreeAudit.{TreeAudit}
use Rattle.store_audit.specs.declared.waiting.Waiting.{Waiting}

-- the first difference of a tree, if the tree may stand in a store of that form
pub record IsTakenDifference (form : Form) (tree : Content) (found : Option Difference) : Type 0 where
  pub first : tree.source < stops_of form.table → longest tree.pairs ≤ form.rides → IsFirstDifference form.table tree form.rides found
  pub to : IfSome found (λ difference. difference.to < stops_of form.table)

-- with its source
pub record IsTakenAudit (form : Form) (tree : Content) (audit : TreeAudit) : Type 0 where
  pub source : audit.source ≡ tree.source
  pub found : IsTakenDifference form tree audit.difference

-- the tree waits, its pairs in any order
pub record IsHeldTree (tree : Content) (due : Due) : Type 0 where
  pub source : due.patterns.source ≡ tree.source
  pub pairs : IsPermutation tree.pairs due.patterns.pairs

-- the same tree, and if it is audited, its own difference
pub record IsDone (form : Form) (old new : Due) : Type 0 where
  pub same : new.patterns ≡ old.patterns
  pub audited : IsTrue new.is_audited → IsTakenDifference form old.patterns new.difference

-- it is audited, and that is its audit
pub record IsAuditOf (due : Due) (audit : TreeAudit) : Type 0 where
  pub audited : IsTrue due.is_audited
  pub source : audit.source ≡ due.patterns.source
  pub difference : audit.difference ≡ due.difference

-- the audits of these trees are put after others
pub record Gathers (due : List Due) (old new : List TreeAudit) : Type 0 where
  pub audits : List TreeAudit
  pub are : new ≡ old ++ audits
  pub of : AllZip IsAuditOf due audits

-- the first of the trees are audited, and the others wait
pub record AreInHand (form : Form) (trees : List Content) (done : List TreeAudit) (due : List Due) : Type 0 where
  pub front : List Content
  pub back : List Content
  pub are : trees ≡ front ++ back
  pub audited : AllZip (IsTakenAudit form) front done
  pub held : AllZip IsHeldTree back due

-- the trees of batches, one after the other
abbrev pub joined : List (Vec Due) → List Due
joined [] = []
joined (batch ∷ batches) = batch.items ++ joined batches

-- all that wait: those of whole batches, and those after them
abbrev pub waiting_in : List (Vec Due) → List Due → List Due
waiting_in whole last = joined whole ++ last

-- one tree more waits, after the others
pub record HoldsMore (old : Waiting) (tree : Content) (new : Waiting) : Type 0 where
  pub due : Due
  pub held : IsHeldTree tree due
  pub are : waiting_in new.whole.items new.last.items ≡ waiting_in old.whole.items old.last.items ++ due ∷ []

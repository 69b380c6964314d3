-- What comes of auditing all trees of a store.
use Rattle.std.specs.Prelude.{◌≡◌, ◌<◌, ℕ, List, IfSome}
use Rattle.std.specs.List.{AllZip}
use Rattle.pattern_tree.specs.Content.{Content}
use Rattle.section_store.specs.Sections.{Form, Stands}
use Rattle.auditing.specs.Audits.{IsFirstDifference}
use Rattle.store_audit.specs.declared.due.TreeAudit.{TreeAudit}

-- the first difference of the answers from that tree, or none
pub record IsTreeAudit (form : Form) (tree : Content) (audit : TreeAudit) : Type 0 where
  pub source : audit.source ≡ tree.source
  pub first : IsFirstDifference form.table tree form.rides audit.difference

-- the bytes stand for some trees, and each of these audits is that of the tree at its place
abbrev pub AreAuditsOf : Form → List ℕ → List TreeAudit → Type 0
AreAuditsOf form bytes audits = (trees : List Content) × Stands form bytes trees × AllZip (IsTreeAudit form) trees audits

-- the stops that an audit names are stops of a timetable that has `stops` stops
pub record IsKnown (stops : ℕ) (audit : TreeAudit) : Type 0 where
  pub source : audit.source < stops
  pub to : IfSome audit.difference (λ difference. difference.to < stops)

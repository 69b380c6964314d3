-- How reports are shown, and the status that each ends a program with.
use Rattle.std.specs.Prelude.{ℕ, List, [], ◌∷◌, ◌++◌, codes}
use Rattle.std.specs.Borrow.{Bor}
use Rattle.std.specs.Fmt.{decimal}
use Rattle.std.specs.List.{flat_map}
use Rattle.shown_ids.specs.Shown.{shown}
use Rattle.answer_lines.specs.Audits.{audit_line, audit_status, audits_status}
use Rattle.answer_lines.specs.Reaches.{reach_text}
use Rattle.answer_lines.specs.Timed.{times_text}
use Rattle.answer_lines.specs.declared.report.Built.{Built}
use Rattle.answer_lines.specs.declared.report.Report.{Report}
use Rattle.answer_lines.specs.declared.report.Report.TheVariants as reports

-- an id on a line of its own, with this in front, and the line's end
abbrev pub id_line : List ℕ → List ℕ → List ℕ
id_line front id = front ++ (shown id ++ 10 ∷ [])

-- how many stops of how many have their tree in the store
abbrev pub count_line : ℕ → ℕ → List ℕ
count_line stored of = codes "stored " ++ (decimal stored ++ (codes " of " ++ (decimal of ++ 10 ∷ [])))

-- all of `count` trees were taken over
abbrev pub migrated_line : ℕ → List ℕ
migrated_line count = codes "migrated " ++ (decimal count ++ (codes " of " ++ (decimal count ++ 10 ∷ [])))

-- the lines of a report, each with its end
abbrev pub report_text : Report → List ℕ
report_text (reports.Stored ids) = flat_map (λ id. id_line [] id.now) ids.items
report_text (reports.Built built) =
    count_line built.stored built.of ++ flat_map (λ id. id_line (codes "missing ") id.now) built.missing.items
report_text (reports.Audited audit) = audit_line audit
report_text (reports.AuditedAll audits) = flat_map audit_line audits.items
report_text (reports.Migrated count) = migrated_line count
report_text (reports.Reached reach) = reach_text reach
report_text (reports.Timed times) = times_text times

-- the ids of the stops that a store has, or that a build left: other reports list none
abbrev pub listed_by : Report → List (Bor (List ℕ))
listed_by (reports.Stored ids) = ids.items
listed_by (reports.Built built) = built.missing.items
listed_by (reports.Audited audit) = []
listed_by (reports.AuditedAll audits) = []
listed_by (reports.Migrated count) = []
listed_by (reports.Reached reach) = []
listed_by (reports.Timed times) = []

-- 3 if some stop has no tree
abbrev pub status_by : {X : Type 0} → List X → ℕ
status_by [] = 0
status_by (missing ∷ others) = 3

abbrev pub built_status : Built → ℕ
built_status built = status_by built.missing.items

abbrev pub report_status : Report → ℕ
report_status (reports.Stored ids) = 0
report_status (reports.Built built) = built_status built
report_status (reports.Audited audit) = audit_status audit
report_status (reports.AuditedAll audits) = audits_status audits.items
report_status (reports.Migrated count) = 0
report_status (reports.Reached reach) = 0
report_status (reports.Timed times) = 0

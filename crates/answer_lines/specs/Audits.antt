-- How it is shown what an audit came to, and the status that it ends a program with.
use Rattle.std.specs.Prelude.{ℕ, Bool, List, [], ◌∷◌, ◌++◌, Option, None, Some, codes, cond, is_some}
use Rattle.std.specs.List.{list_any}
use Rattle.shown_ids.specs.Shown.{shown}
use Rattle.answer_lines.specs.Printed.{day_time_text}
use Rattle.answer_lines.specs.declared.audit.Audit.{Audit}
use Rattle.answer_lines.specs.declared.audit.Differing.{Differing}

abbrev pub outcome_text : Option Differing → List ℕ
outcome_text None = codes " ok"
outcome_text (Some at) = codes " differs " ++ (shown at.to.now ++ (32 ∷ day_time_text at.depart))

abbrev pub audit_text : Audit → List ℕ
audit_text audit = codes "audit " ++ (shown audit.from.now ++ outcome_text audit.differing)

-- on a line of its own
abbrev pub audit_line : Audit → List ℕ
audit_line audit = audit_text audit ++ 10 ∷ []

abbrev pub outcome_status : Option Differing → ℕ
outcome_status None = 0
outcome_status (Some at) = 5

abbrev pub audit_status : Audit → ℕ
audit_status audit = outcome_status audit.differing

-- one of them found a difference
abbrev pub has_difference : List Audit → Bool
has_difference audits = list_any (λ audit. is_some audit.differing) audits

-- the status of many: that of a difference, if one of them found one
abbrev pub audits_status : List Audit → ℕ
audits_status audits = cond (has_difference audits) 5 0

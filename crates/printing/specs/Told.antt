-- The lines of what a command prints, and the status that it ends with.
use Rattle.std.specs.Prelude.{ℕ, List, [], ◌∷◌, ◌++◌, string_bytes}
use Rattle.answer_lines.specs.Printed.{answer_text}
use Rattle.answer_lines.specs.Reports.{report_status, report_text}
use Rattle.command_grammar.specs.declared.texts.TheConstants.{FAULT_TABLE}
use Rattle.connection_lines.specs.Printed.{connections_text}
use Rattle.printing.specs.Reports.{report_text as faults_text}
use Rattle.feed_report.specs.Reports.{report_text as feed_text}
use Rattle.printing.specs.declared.told.Told.{Told}
use Rattle.printing.specs.declared.told.Told.TheVariants as tolds

-- all lines, each with its end
abbrev pub told_text : Told → List ℕ
told_text (tolds.Feed report) = feed_text report
told_text (tolds.FeedFaults report) = faults_text report
told_text (tolds.Answer answer) = answer_text answer ++ 10 ∷ []
told_text (tolds.Connections connections) = connections_text connections
told_text (tolds.Report report) = report_text report
told_text tolds.Faults = FAULT_TABLE.now ++ 10 ∷ []
told_text (tolds.Text text status) = string_bytes text

abbrev pub told_status : Told → ℕ
told_status (tolds.Feed report) = 0
told_status (tolds.FeedFaults report) = 1
told_status (tolds.Answer answer) = 0
told_status (tolds.Connections connections) = 0
told_status (tolds.Report report) = report_status report
told_status tolds.Faults = 0
told_status (tolds.Text text status) = status

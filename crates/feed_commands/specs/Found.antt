-- How what a command finds is reported.
use Rattle.std.specs.Prelude.{◌≡◌, ◌⊎◌, ℕ, List, Result, Ok, Err, String, string_bytes}
use Rattle.std.specs.Global.{Global}
use Rattle.answer_lines.specs.Reports.{report_status}
use Rattle.option_words.specs.declared.format.Format.{Format}
use Rattle.option_words.specs.declared.format.Style.{Style}
use Rattle.option_words.specs.declared.format.Style.TheVariants as styles
use Rattle.feed_basis.specs.Basis.{BasisData}
use Rattle.printing.specs.Finished.{IsFinished, StreamsData}
use Rattle.printing.specs.declared.fault.Voice.{Voice}
use Rattle.printing.specs.declared.told.Told.{Told}
use Rattle.printing.specs.declared.told.Told.TheVariants as tolds
use Rattle.faults.specs.declared.fault.Fault.{Fault}
use Rattle.faults.specs.declared.fault.Fault.TheVariants as faults
use Rattle.printing.specs.Tellings.{Telling}
use Rattle.feed_commands.specs.declared.found.Found.{Found}
use Rattle.feed_commands.specs.declared.found.Found.TheVariants as founds

-- what is found of a value, or the fault
abbrev pub found_by : {X : Type 0} → (X → Found) → Result X Fault → Result Found Fault
found_by show (Ok x) = Ok (show x)
found_by show (Err fault) = Err fault

-- as lines
abbrev pub lines_of : Found → Told
lines_of (founds.Answer question answer) = tolds.Answer answer
lines_of (founds.Connections question connections) = tolds.Connections connections
lines_of (founds.Report report) = tolds.Report report

-- the text reports, in a format, what is found
abbrev pub IsTextOf : Telling → Format → BasisData → Found → List ℕ → Type 0
IsTextOf t format basis (founds.Answer question answer) text = t.tells format basis answer text
IsTextOf t format basis (founds.Connections question connections) text = t.connects format basis connections text
IsTextOf t format basis (founds.Report report) text = t.reports format report text

-- the status to end with: that of a report
abbrev pub found_status : Found → ℕ
found_status (founds.Answer question answer) = 0
found_status (founds.Connections question connections) = 0
found_status (founds.Report report) = report_status report

-- as a text in a format, or memory ran out as it was made
abbrev pub IsToldIn : Telling → Format → BasisData → Found → Result Told Fault → Type 0
IsToldIn t format basis found told =
    ((text : String Global) × (told ≡ Ok (tolds.Text text (found_status found))) × IsTextOf t format basis found (string_bytes text))
    ⊎ (told ≡ Err faults.Memory)

-- what is found, in a style
abbrev pub IsToldAs : Telling → Style → BasisData → Found → Result Told Fault → Type 0
IsToldAs t styles.Lines basis found told = told ≡ Ok (lines_of found)
IsToldAs t (styles.Told format) basis found told = IsToldIn t format basis found told

-- or its fault
abbrev pub IsTold : Telling → Style → BasisData → Result Found Fault → Result Told Fault → Type 0
IsTold t style basis (Ok found) told = IsToldAs t style basis found told
IsTold t style basis (Err fault) told = told ≡ Err fault

-- what is found is reported and printed, or its fault is said
pub record IsFoundPrinted (t : Telling) (voice : Voice) (basis : BasisData) (found : Result Found Fault) (old new : StreamsData)
    (status : ℕ) : Type 0 where
  pub told : Result Told Fault
  pub is_told : IsTold t voice.style basis found told
  pub finished : IsFinished t voice told old new status

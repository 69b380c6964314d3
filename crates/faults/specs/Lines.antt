-- The lines by which `tp` reports a fault.
use Rattle.std.specs.Prelude.{ℕ, List, [], ◌∷◌, ◌++◌, Option, None, Some, codes}
use Rattle.faults.specs.declared.fault.Fault.{Fault}
use Rattle.faults.specs.Advice.{advice_of}
use Rattle.faults.specs.Texts.{fault_text}

-- a text as a line, if there is one
abbrev pub optional_line : Option (List ℕ) → List ℕ
optional_line None = []
optional_line (Some text) = text ++ 10 ∷ []

-- the program's name with the fault's text, and a line beneath it that says what to do, if there is one
abbrev pub fault_lines : Fault → List ℕ
fault_lines fault = codes "tp: " ++ (fault_text fault ++ (10 ∷ optional_line (advice_of fault)))

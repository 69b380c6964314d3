-- The lines by which `tp` reports that a file of stops isn't read, and where an id stands in one.
use Rattle.std.specs.Prelude.{ℕ, List, [], ◌∷◌, ◌++◌, codes}
use Rattle.std.specs.Fmt.{decimal}
use Rattle.shown_ids.specs.Shown.{shown}
use Rattle.stop_lists.specs.declared.fault.ListFault.{ListFault}
use Rattle.stop_lists.specs.declared.fault.ListFault.TheVariants as faults
use Rattle.stop_lists.specs.declared.fault.TheConstants.{BAD_TEXT, OUT_OF_MEMORY, READ_FAILED, TOO_LARGE}

-- the code and the name
abbrev pub fault_text : ListFault → List ℕ
fault_text faults.ReadFailed = codes "L1 ReadFailed"
fault_text faults.BadText = codes "L2 BadText"
fault_text faults.TooLarge = codes "L3 TooLarge"
fault_text faults.Memory = codes "L4 Memory"

-- what to do about it
abbrev pub advice_text : ListFault → List ℕ
advice_text faults.ReadFailed = READ_FAILED.now
advice_text faults.BadText = BAD_TEXT.now
advice_text faults.TooLarge = TOO_LARGE.now
advice_text faults.Memory = OUT_OF_MEMORY.now

-- the program's name with the fault and the file, and a line beneath it that says what to do
abbrev pub fault_lines : List ℕ → ListFault → List ℕ
fault_lines path fault = codes "tp: " ++ (fault_text fault ++ (32 ∷ (shown path ++ (10 ∷ (advice_text fault ++ 10 ∷ [])))))

-- the file, and the number of its line
abbrev pub place_line : List ℕ → ℕ → List ℕ
place_line path n = codes "given: " ++ (shown path ++ (codes " line " ++ (decimal n ++ 10 ∷ [])))

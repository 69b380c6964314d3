-- Which line is which question: the ids of two places, a date and a time, with a tab (9) between each and the next. A last time to leave at
-- may follow, of the same day: then it asks for the connections up to it.
-- GTFS Schedule, "Field types": an ID is any text in UTF-8, a Date is YYYYMMDD, and a Time is HH:MM:SS or H:MM:SS of a service day.
use Rattle.std.specs.Prelude.{◌≡◌, ℕ, ◌≤◌, ◌==◌, List, ◌∷◌, length, Option, None, Some, option_to_list}
use Rattle.std.specs.List.{slice_split}
use Rattle.std.specs.Str.{IsUtf8}
use Rattle.jiff_core.specs.declared.civil.date.Date.{Date}
use Rattle.gtfs_text.specs.Values.{date_of, time_of, ymd}
use Rattle.questions.specs.declared.question.Question.{Question}
use Rattle.questions.specs.declared.question.Until.{Until}
use Rattle.questions.specs.declared.question.Within.{Within}

-- what stands before the first tab of a line, between each and the next, and after the last
abbrev pub cut_at_tabs : List ℕ → List (List ℕ)
cut_at_tabs line = slice_split (λ b. b == 9) line

-- the line has exactly these fields; the last time may be missing
abbrev pub AreFields : List ℕ → List ℕ → List ℕ → List ℕ → List ℕ → Option (List ℕ) → Type 0
AreFields line from to day time last = cut_at_tabs line ≡ from ∷ to ∷ day ∷ time ∷ option_to_list last

-- all connections up to a time
abbrev pub up_to : Until → Within
up_to until = record { until = Some until; next = None }

-- by the last time that is written, of that day, the question asks for the connections up to it; without one it asks for none
abbrev pub IsWithin : Option (List ℕ) → Date → Option Within → Type 0
IsWithin None day within = within ≡ None
IsWithin (Some last) day within = (seconds : ℕ) × (time_of last ≡ Some seconds) × (within ≡ Some (up_to (record { day = day; seconds = seconds })))

-- a line of text of at most 65,536 bytes, whose fields are two ids, a date, a time, and perhaps a last time
pub record IsQuestion (line : List ℕ) (question : Question) : Type 0 where
  pub short : length line ≤ 65_536
  pub is_text : IsUtf8 line
  pub date : List ℕ
  pub time : List ℕ
  pub last : Option (List ℕ)
  pub fields : AreFields line question.from.now question.to.now date time last
  pub day : date_of date ≡ Some (ymd question.day)
  pub seconds : time_of time ≡ Some question.seconds
  pub within : IsWithin last question.day question.within

-- the line is no question
abbrev pub NotQuestion : List ℕ → Type 0
NotQuestion line = (question : Question) → ¬ IsQuestion line question

-- the line hasn't exactly four or five fields
abbrev pub LacksFields : List ℕ → Type 0
LacksFields line = (from to day time : List ℕ) (last : Option (List ℕ)) → ¬ AreFields line from to day time last

-- What is said of covered days on which no trip runs.
use Rattle.std.specs.Prelude.{◌≡◌, ℕ, List, [], ◌∷◌, ◌++◌, Option, None, Some, codes}
use Rattle.answer_lines.specs.Printed.{date_text}
use Rattle.service_span.specs.declared.idle.Idle.{Idle}
use Rattle.service_span.specs.declared.span.Span.{Span}
use Rattle.streams.specs.Streams.{IsSaid, StreamData}
use Rattle.timetable.specs.Table.{Run}

-- the line, with the first and the last day of service
abbrev pub idle_line : Option Span → List ℕ
idle_line None = codes "tp: no trip runs on the covered days, as the feed has no day of service" ++ 10 ∷ []
idle_line (Some span) =
    codes "tp: no trip runs on the covered days: the first day of service is "
    ++ (date_text span.first ++ (codes ", the last " ++ (date_text span.last ++ 10 ∷ [])))

-- it is said on standard error
abbrev pub IsLineSaid : Idle → StreamData → StreamData → Type 0
IsLineSaid idle old new = IsSaid (idle_line idle.span) old new

-- so it is if no covered day is a day of service, and no trip of the timetable runs into them from the day before
abbrev pub IsIdleSaid : Option Idle → List Run → StreamData → StreamData → Type 0
IsIdleSaid None runs old new = new ≡ old
IsIdleSaid (Some idle) [] old new = IsLineSaid idle old new
IsIdleSaid (Some idle) (run ∷ runs) old new = new ≡ old

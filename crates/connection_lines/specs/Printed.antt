-- How connections are shown.
use Rattle.std.specs.Prelude.{ℕ, List, [], ◌∷◌, ◌++◌, Option, None, Some, codes}
use Rattle.std.specs.Fmt.{decimal}
use Rattle.std.specs.List.{flat_map}
use Rattle.answer_lines.specs.Printed.{day_time_text, stage_text}
use Rattle.answer_lines.specs.declared.answer.Point.{Point}
use Rattle.answer_lines.specs.declared.moment.DayTime.{DayTime}
use Rattle.connection_lines.specs.declared.connections.Connection.{Connection}
use Rattle.connection_lines.specs.declared.connections.Connections.{Connections}

-- when one leaves, when one arrives, and by how many rides
abbrev pub numbers_text : DayTime → Point → List ℕ
numbers_text departs journey =
    codes "depart " ++ (day_time_text departs
    ++ (codes " arrive " ++ (day_time_text journey.at ++ (codes " rides " ++ decimal journey.rides))))

-- a connection, and a line for each of its stages
unfoldable pub connection_text : Connection → List ℕ
connection_text connection =
    numbers_text connection.departs connection.journey ++ flat_map (λ stage. 10 ∷ stage_text stage) connection.journey.stages.items

-- with the end of its last line
abbrev pub connection_line : Connection → List ℕ
connection_line connection = connection_text connection ++ 10 ∷ []

-- the way on foot
abbrev pub walk_line : Option ℕ → List ℕ
walk_line None = []
walk_line (Some seconds) = codes "walk seconds " ++ (decimal seconds ++ 10 ∷ [])

-- the moment from which on connections aren't reported
abbrev pub next_line : Option DayTime → List ℕ
next_line None = []
next_line (Some time) = codes "more from " ++ (day_time_text time ++ 10 ∷ [])

-- one can't go at all
abbrev pub none_line : Option ℕ → List Connection → List ℕ
none_line None [] = codes "no journey" ++ 10 ∷ []
none_line None (connection ∷ list) = []
none_line (Some seconds) list = []

-- all lines, each with its end
abbrev pub connections_text : Connections → List ℕ
connections_text connections =
    none_line connections.walk connections.list.items
    ++ (walk_line connections.walk ++ (flat_map connection_line connections.list.items ++ next_line connections.next))

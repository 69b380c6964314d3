-- How answers are compared at one moment. Only private clauses cite these words.
use Rattle.std.specs.Prelude.{◌<◌, ℕ, nat_lt, List, Option, None, Some, filter}
use Rattle.timetable.specs.declared.parts.Numbers.{Numbers}
use Rattle.timetable.specs.Table.{Table, stops_of}
use Rattle.pattern_tree.specs.Content.{Content}
use Rattle.auditing.specs.Audits.{Agrees, AgreesAt}

-- those of one ride or more
abbrev pub ridden : List Numbers → List Numbers
ridden points = filter (λ n. nat_lt 0 n.rides) points

-- the first stop to which the answers differ at d, or none
abbrev pub IsFirstStop : Table → Content → ℕ → ℕ → Option ℕ → Type 0
IsFirstStop table tree k d None = AgreesAt table tree k d
IsFirstStop table tree k d (Some to) =
    (to < stops_of table) × (¬ Agrees table tree k d to) × ((t : ℕ) → t < to → Agrees table tree k d t)

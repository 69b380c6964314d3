-- How the stops that one reaches are shown.
use Rattle.std.specs.Prelude.{ℕ, List, [], ◌∷◌, ◌++◌, codes}
use Rattle.std.specs.Fmt.{decimal}
use Rattle.std.specs.List.{flat_map}
use Rattle.shown_ids.specs.Shown.{shown}
use Rattle.answer_lines.specs.Printed.{day_time_text}
use Rattle.answer_lines.specs.declared.reach.Reach.{Reach}
use Rattle.answer_lines.specs.declared.reach.ReachedStop.{ReachedStop}

-- a stop, when one is there, and with how many rides
unfoldable pub reached_text : ReachedStop → List ℕ
reached_text reached =
    shown reached.stop.now
    ++ (codes " arrive " ++ (day_time_text reached.arrives ++ (codes " rides " ++ decimal reached.rides)))

-- with the end of its line
abbrev pub reached_line : ReachedStop → List ℕ
reached_line reached = reached_text reached ++ 10 ∷ []

-- all of them
abbrev pub reach_text : Reach → List ℕ
reach_text reach = flat_map reached_line reach.stops.items

-- How travel times are shown.
use Rattle.std.specs.Prelude.{ℕ, List, [], ◌∷◌, ◌++◌, Option, None, Some, codes}
use Rattle.std.specs.Fmt.{decimal}
use Rattle.std.specs.List.{flat_map}
use Rattle.shown_ids.specs.Shown.{shown}
use Rattle.answer_lines.specs.declared.timed.TimedStops.{TimedStops}
use Rattle.answer_lines.specs.declared.timed.TimedStop.{TimedStop}

abbrev pub seconds_text : Option ℕ → List ℕ
seconds_text None = codes "none"
seconds_text (Some seconds) = decimal seconds

-- a stop, and how many seconds one is on the way to it: the least, the median and the greatest
unfoldable pub timed_text : TimedStop → List ℕ
timed_text timed =
    shown timed.stop.now
    ++ (codes " least "
    ++ (decimal timed.least
    ++ (codes " median " ++ (seconds_text timed.median ++ (codes " greatest " ++ seconds_text timed.greatest)))))

-- with the end of its line
abbrev pub timed_line : TimedStop → List ℕ
timed_line timed = timed_text timed ++ 10 ∷ []

-- all of them
abbrev pub times_text : TimedStops → List ℕ
times_text times = flat_map timed_line times.stops.items

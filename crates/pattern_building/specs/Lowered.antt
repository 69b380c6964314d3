-- What is passed over by the runs at later departures, whose arrivals a scratch keeps. Waiting is free: a journey of one ride or more at
-- a later departure is one at each earlier departure, with the same numbers. So if the least arrival in a number of rides is that of a
-- later departure for which a content is complete, the content has a path for it. Only private clauses cite these words.
use Rattle.std.specs.Prelude.{Option, ◌≡◌, ℕ, ◌≤◌, List, Some}
use Rattle.timetable.specs.Table.{Table, stops_of}
use Rattle.timetable.specs.Front.{IsSooner}
use Rattle.rounds.specs.Mark.{Mark, arrival_in, moment_in}
use Rattle.rounds.specs.Answers.{ArrivesWithin}
use Rattle.pattern_tree.specs.Forest.{Pair}
use Rattle.pattern_building.specs.RoundPairs.{UpToRound, CompleteAt}

-- of the rounds and stops seen, those whose arrival is sooner than it was before
abbrev pub Lowered : List (List (Option Mark)) → List (List (Option ℕ)) → (ℕ → ℕ → Type 0) → ℕ → ℕ → Type 0
Lowered rounds before Seen r t = Seen r t × IsSooner (arrival_in rounds r t) (moment_in before r t)

-- each arrival of these rounds is one at a departure at d or later, for which the content is complete
abbrev pub AreLater : Table → ℕ → ℕ → ℕ → List Pair → List (List (Option Mark)) → Type 0
AreLater table k s d content kept =
    (r t a : ℕ) → UpToRound k (stops_of table) r t → arrival_in kept r t ≡ Some a
    → (later : ℕ) × (d ≤ later) × ArrivesWithin table s later r t a × CompleteAt table k s later content

-- What follows if an audit finds no difference.
use Rattle.std.specs.Prelude.{ℕ, ◌<◌, List, None}
use Rattle.timetable.specs.declared.parts.Numbers.{Numbers}
use Rattle.timetable.specs.Front.{AreFront, AreBest}
use Rattle.timetable.specs.Table.{Table, stops_of}
use Rattle.pattern_tree.specs.Content.{Content}
use Rattle.pattern_query.specs.Answer.{TreeReaches}
use Rattle.auditing.specs.Audits.{IsFirstDifference}

-- then at each moment, and not only at events, the best of the tree's journeys to a stop are the best of all journeys of at most k rides
abbrev pub NoDifferenceIsExact : Table → Type 0
NoDifferenceIsExact table =
    (tree : Content) (k : ℕ) → IsFirstDifference table tree k None → (d t : ℕ) → t < stops_of table → (points : List Numbers)
    → AreBest (TreeReaches table tree t d) points → AreFront table k tree.source t d points

-- What clauses see of a scratch and of a view.
use Rattle.std.specs.Prelude.{Option, ◌≡◌, ℕ, suc, ◌≤◌, List, length, map}
use Rattle.std.specs.Arc.{arc_value}
use Rattle.std.specs.List.{All}
use Rattle.timetable.specs.Table.{Table, IsTable, stops_of}
use Rattle.lines.specs.Lines.{AreLines}
use Rattle.rounds.specs.Mark.{Mark, arrival_in, moment_in}
use Rattle.rounds.specs.Answers.{AreRounds}
use Rattle.stop_labels.specs.Row.{RowData}
use Rattle.rounds.specs.Layers.{IsSized, AreKept}
use Rattle.rounds.specs.declared.scratch.Scratch.{Scratch}
use Rattle.rounds.specs.declared.view.RoundView.{RoundView}

-- the marks of all stops, round by round
abbrev pub rounds_of : RoundView → List (List (Option Mark))
rounds_of view = map (λ (row : RowData). row.marks) view.rounds.now

-- when one was at each stop in the run before, round by round
abbrev pub before_of : RoundView → List (List (Option ℕ))
before_of view = map (λ (row : RowData). row.settled) view.rounds.now

-- the most rides of a run's journeys
abbrev pub rides_of : Scratch → ℕ
rides_of scratch = scratch.rides

-- the stop of the last restart
abbrev pub source_of : Scratch → ℕ
source_of scratch = scratch.source

-- the marks that the last run left, round by round
abbrev pub kept_of : Scratch → List (List (Option Mark))
kept_of scratch = map (λ (row : RowData). row.marks) scratch.rounds.items

-- the scratch was made for the timetable: its lines are those of the timetable's instances, and it has room for its stops and lines
pub record IsMadeFor (scratch : Scratch) (table : Table) : Type 0 where
  pub lines : AreLines table (arc_value scratch.lines)
  pub layers : length scratch.layers.items ≡ suc (rides_of scratch)
  pub sized : All (IsSized (stops_of table)) scratch.layers.items
  pub noted : length scratch.noted ≡ length (arc_value scratch.lines).lines
  pub count : length scratch.rounds.items ≡ rides_of scratch
  pub few : rides_of scratch ≤ 8
  pub sizes : All (λ row. length row.marks ≡ stops_of table) scratch.rounds.items

-- made for the same runs: as many rides, and each timetable that the old one was made for
pub record IsAlike (old new : Scratch) : Type 0 where
  pub rides : rides_of new ≡ rides_of old
  pub made : (table : Table) → IsMadeFor old table → IsMadeFor new table

-- a run may go on at d: labels were forgotten, or are of runs since then from this stop at d or later
abbrev pub MayGoOn : Table → ℕ → Scratch → Type 0
MayGoOn table d scratch = IsTable table → AreKept table (source_of scratch) d scratch.layers.items scratch.rounds.items

-- a run at d went on: it is made for the same runs and from the same stop, its rounds are right, and runs at d or earlier may go on
pub record GoesOn (table : Table) (d : ℕ) (old new : Scratch) : Type 0 where
  pub same : IsAlike old new
  pub source : source_of new ≡ source_of old
  pub kept : (e : ℕ) → e ≤ d → MayGoOn table e new
  pub right : AreRounds table (source_of old) d (rides_of old) (kept_of new)

-- the view remembers of each arrival what it was in these rounds
abbrev pub Remembers : List (List (Option Mark)) → RoundView → Type 0
Remembers rounds view = (rides t : ℕ) → moment_in (before_of view) rides t ≡ arrival_in rounds rides t

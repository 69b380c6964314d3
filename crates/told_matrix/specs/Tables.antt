-- A table of travel times, and what is printed of it.
use Rattle.std.specs.Prelude.{◌≡◌, ℕ, List, ◌++◌, Option, map, take}
use Rattle.std.specs.Global.{Vec}
use Rattle.reaching.specs.declared.travel_time.TravelTimes.{TravelTimes}
use Rattle.streams.specs.Streams.{HasBeginning, HasWhole, StreamData}
use Rattle.timetable.specs.Table.{Table}
use Rattle.travel_matrix.specs.Rows.{AreRows}
use Rattle.told_matrix.specs.Lines.{lines_of}
use Rattle.told_matrix.specs.declared.asking.Matrix.{Matrix}
use Rattle.told_matrix.specs.declared.batches.TheConstants.{HEADER}
use Rattle.told_matrix.specs.declared.place.Place.{Place}

-- these are the lines of the travel times from stops to stops, with at most k rides, of one who leaves from `first` to `last`
abbrev pub AreLines : Table → ℕ → ℕ → ℕ → List Place → List Place → List ℕ → Type 0
AreLines table k first last origins goals text =
    (rows : List (Vec (Option TravelTimes))) × AreRows table k first last (map (λ place. place.stop) goals) (map (λ place. place.stop) origins) rows
    × (text ≡ lines_of origins goals rows)

-- the table of the first n stops to leave from: a header, and their lines
abbrev pub IsTableOf : Table → ℕ → Matrix → ℕ → List ℕ → Type 0
IsTableOf table k matrix n text =
    (lines : List ℕ) × AreLines table k matrix.first matrix.last (take n matrix.origins.items) matrix.goals.items lines × (text ≡ HEADER.now ++ lines)

-- the table of all stops to leave from
abbrev pub IsTable : Table → ℕ → Matrix → List ℕ → Type 0
IsTable table k matrix text =
    (lines : List ℕ) × AreLines table k matrix.first matrix.last matrix.origins.items matrix.goals.items lines × (text ≡ HEADER.now ++ lines)

-- the whole table is printed
abbrev pub HasTable : Table → ℕ → Matrix → StreamData → StreamData → Type 0
HasTable table k matrix old new = (text : List ℕ) × IsTable table k matrix text × HasWhole text old new

-- the stream refused a write, and has a beginning of the table of the first stops to leave from
abbrev pub IsCutOff : Table → ℕ → Matrix → StreamData → StreamData → Type 0
IsCutOff table k matrix old new = (n : ℕ) × (text : List ℕ) × IsTableOf table k matrix n text × HasBeginning text old new

-- memory ran out once the table of the first stops to leave from was printed
abbrev pub IsBrokenOff : Table → ℕ → Matrix → StreamData → StreamData → Type 0
IsBrokenOff table k matrix old new = (n : ℕ) × (text : List ℕ) × IsTableOf table k matrix n text × HasWhole text old new

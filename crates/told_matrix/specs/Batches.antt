-- What is printed of some stops to leave from. Only private clauses cite these words.
use Rattle.std.specs.Prelude.{ℕ, List, take}
use Rattle.streams.specs.Streams.{HasBeginning, HasWhole, StreamData}
use Rattle.travel_matrix.specs.declared.window.Window.{Window}
use Rattle.told_matrix.specs.Tables.{AreLines}
use Rattle.told_matrix.specs.declared.place.Place.{Place}

-- all their lines are printed
abbrev pub HasLines : Window → List Place → List Place → StreamData → StreamData → Type 0
HasLines w origins goals old new =
    (text : List ℕ) × AreLines w.table.now w.rides w.first w.last origins goals text × HasWhole text old new

-- the stream refused a write, and has a beginning of their lines
abbrev pub HasLinesCut : Window → List Place → List Place → StreamData → StreamData → Type 0
HasLinesCut w origins goals old new =
    (text : List ℕ) × AreLines w.table.now w.rides w.first w.last origins goals text × HasBeginning text old new

-- so for the first n of them
abbrev pub IsLinesCut : Window → List Place → List Place → StreamData → StreamData → Type 0
IsLinesCut w origins goals old new = (n : ℕ) × HasLinesCut w (take n origins) goals old new

abbrev pub IsLinesBroken : Window → List Place → List Place → StreamData → StreamData → Type 0
IsLinesBroken w origins goals old new = (n : ℕ) × HasLines w (take n origins) goals old new

-- Rows that are worked out in parts. Only private clauses cite these words.
use Rattle.std.specs.Prelude.{◌≡◌, ◌++◌, ℕ, List, [], ◌∷◌, Option, Result, Ok, Err, IfOk}
use Rattle.std.specs.Global.{Vec}
use Rattle.timetable.specs.Table.{Table}
use Rattle.reaching.specs.declared.travel_time.TravelTimes.{TravelTimes}
use Rattle.travel_matrix.specs.Rows.{AreRows}

-- the rows of a part of the stops to leave from, if memory sufficed
abbrev pub IsPart : {E : Type 0} → Table → ℕ → ℕ → ℕ → List ℕ → List ℕ → Result (Vec (Vec (Option TravelTimes))) E → Type 0
IsPart table k first last goals origins part = IfOk part (λ rows. AreRows table k first last goals origins rows.items)

-- memory sufficed for each part, and these are the rows of one part after the other
abbrev pub AreJoined : {X E : Type 0} → List (Result (Vec X) E) → List X → Type 0
AreJoined [] rows = rows ≡ []
AreJoined {X} (Ok part ∷ parts) rows = (rest : List X) × (rows ≡ part.items ++ rest) × AreJoined parts rest
AreJoined (Err e ∷ parts) rows = ⊥

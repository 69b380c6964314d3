-- The journey of a connection leaves at the connection's departure.
use Rattle.std.proofs.Common.{◌≡◌, ℕ, ◌≤◌, inl, inr, List, get_or, All, arith, le_refl}
use Rattle.std.proofs.lemmas.Bool.{cases_lt}
use Rattle.timetable.specs.declared.parts.Numbers.{Numbers}
use Rattle.timetable.specs.Table.{Table}
use Rattle.timetable.specs.Journeys.{Reaches}
use Rattle.pattern_query.specs.Answer.{PointData, numbers, IsJourney}
use Rattle.pattern_query.specs.Questions.{Held, AskedReaches, IsAskedPoint}
use Rattle.connections.specs.declared.connection.Connection.{Connection}
use Rattle.connections.specs.declared.connection.Window.{Window}
use Rattle.connections.specs.Connections.{Connects, IsConnection, LeavesThen}

-- one can't leave later for a connection, and its journey is one at its departure
pub leaves_then : (Of : ℕ → Numbers → Type 0) (d : ℕ) (p : PointData) → Connects Of d (numbers p) → d ≤ p.departure → Of p.departure (numbers p) → p.departure ≡ d
leaves_then Of d p is after of = elim (cases_lt d p.departure) [
  | inl lt ↦ absurd (is.last p.departure (numbers p) lt is.ridden (le_refl p.rides) (le_refl p.arrival) of)
  | inr le ↦ omega (arith, le, after)
]

pub scanned_then : (table : Table) (k s t : ℕ) (window : Window) (list : List Connection) → All (IsConnection (Reaches table 0 k s t) window) list
    → All (λ (c : Connection). IsJourney table s t c.departure c.journey) list → All LeavesThen list
scanned_then table k s t window list each journeys i d lt =
    let c = get_or list i d in
    let is = journeys i d lt in
    let connects = (each i d lt).connects in
    leaves_then (Reaches table 0 k s t) c.departure c.journey connects is.after
    (c.journey.legs, is.in_time, is.counted, (omega arith), connects.best.0.4)

pub asked_then : (table : Table) (held : Held) (froms tos : List ℕ) (window : Window) (list : List Connection) → All (IsConnection (AskedReaches table held froms tos) window) list
    → All (λ (c : Connection). IsAskedPoint table held froms tos c.departure c.journey) list → All LeavesThen list
asked_then table held froms tos window list each points i d lt =
    let c = get_or list i d in
    let is = points i d lt in
    leaves_then (AskedReaches table held froms tos) c.departure c.journey (each i d lt).connects is.2.is.after
    (is.0, c.journey.to, is.1, (c.journey.legs, (is.2.is.in_time, is.2.has), is.2.is.counted))

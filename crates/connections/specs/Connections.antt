-- Connections: the best journeys with a ride, each with the last moment at which one can leave for it. They are those of a set of
-- journeys between two places, of which the numbers are known by their departures.
-- RAPTOR (Delling, Pajor, Werneck, ALENEX 2012), section 4: a range query asks for the best journeys of all departures within a range.
use Rattle.std.specs.Prelude.{◌≡◌, ℕ, ◌<◌, ◌≤◌, ◌⊎◌, List, length}
use Rattle.std.specs.List.{All, AllPairs, Contains}
use Rattle.timetable.specs.declared.parts.Numbers.{Numbers}
use Rattle.timetable.specs.Journeys.{Reaches, Unbeaten}
use Rattle.timetable.specs.Table.{Table, stops_of}
use Rattle.timetable.specs.declared.parts.TheConstants.{LATEST_MOMENT}
use Rattle.pattern_query.specs.Answer.{numbers, IsJourney}
use Rattle.pattern_query.specs.Leaving.{LeavesLast}
use Rattle.pattern_query.specs.Questions.{Held, IsAskedPoint}
use Rattle.connections.specs.declared.connection.Connection.{Connection}
use Rattle.connections.specs.declared.connection.Window.{Window}

-- no journey of the set that begins after d has one ride or more, but no more than these, and arrives by then
abbrev pub IsLast : (ℕ → Numbers → Type 0) → ℕ → Numbers → Type 0
IsLast Of d n = (later : ℕ) (m : Numbers) → d < later → 1 ≤ m.rides → m.rides ≤ n.rides → m.arrival ≤ n.arrival → ¬ Of later m

-- the numbers are among the best at d, they have a ride, and d is the last moment at which one can leave for them
pub record Connects (Of : ℕ → Numbers → Type 0) (d : ℕ) (n : Numbers) : Type 0 where
  pub ridden : 1 ≤ n.rides
  pub best : Unbeaten (Of d) n
  pub last : IsLast Of d n

-- a connection that departs within the window
pub record IsConnection (Of : ℕ → Numbers → Type 0) (window : Window) (c : Connection) : Type 0 where
  pub after : window.first ≤ c.departure
  pub before : c.departure ≤ window.last
  pub connects : Connects Of c.departure (numbers c.journey)

-- its journey leaves at its departure: the first walk ends just in time
abbrev pub LeavesThen : Connection → Type 0
LeavesThen c = c.journey.departure ≡ c.departure

-- of the journeys of these trees at its departure or later with its numbers, its journey leaves last, and of those that leave as late it
-- walks least
abbrev pub WalksLeast : Table → Held → List ℕ → List ℕ → Connection → Type 0
WalksLeast table held froms tos c = LeavesLast table (IsAskedPoint table held froms tos c.departure) c.journey

-- e departs with c, and has its numbers
abbrev pub IsLike : Connection → Connection → Type 0
IsLike c e = (e.departure ≡ c.departure) × (numbers e.journey ≡ numbers c.journey)

-- it is a connection of all journeys of at most k rides between two stops of the table, its journey is one of them, and its departure is a
-- moment of the timetable
pub record IsScanned (table : Table) (k : ℕ) (c : Connection) : Type 0 where
  pub from : c.journey.from < stops_of table
  pub early : c.departure ≤ LATEST_MOMENT
  pub is : IsJourney table c.journey.from c.journey.to c.departure c.journey
  pub then : LeavesThen c
  pub connects : Connects (Reaches table 0 k c.journey.from c.journey.to) c.departure (numbers c.journey)

-- e is like c, and between the same stops; of all journeys at its departure or later with its numbers, its journey leaves last, and of
-- those that leave as late it walks least
pub record WalksLeastFor (table : Table) (c e : Connection) : Type 0 where
  pub like : IsLike c e
  pub is : IsJourney table c.journey.from c.journey.to c.departure e.journey
  pub then : LeavesThen e
  pub least : LeavesLast table (IsJourney table c.journey.from c.journey.to c.departure) e.journey

-- one departs earlier than the other, or with it and arrives earlier
abbrev pub IsBefore : Connection → Connection → Type 0
IsBefore a b = (a.departure < b.departure) ⊎ ((a.departure ≡ b.departure) × (a.journey.arrival < b.journey.arrival))

-- the connections of the window: by departure, then by arrival, one for each of their numbers
pub record AreConnections (Of : ℕ → Numbers → Type 0) (window : Window) (list : List Connection) : Type 0 where
  pub rising : AllPairs IsBefore list
  pub each : All (IsConnection Of window) list
  pub all : (d : ℕ) (n : Numbers) → window.first ≤ d → d ≤ window.last → Connects Of d n
      → (c : Connection) × Contains list c × (c.departure ≡ d) × (numbers c.journey ≡ n)

-- those of them that depart before `next`
pub record AreConnectionsBefore (Of : ℕ → Numbers → Type 0) (window : Window) (next : ℕ) (list : List Connection) : Type 0 where
  pub rising : AllPairs IsBefore list
  pub each : All (IsConnection Of window) list
  pub before : All (λ c. c.departure < next) list
  pub all : (d : ℕ) (n : Numbers) → window.first ≤ d → d ≤ window.last → d < next → Connects Of d n
      → (c : Connection) × Contains list c × (c.departure ≡ d) × (numbers c.journey ≡ n)

-- they are all connections of the window, or else enough
pub record AreFirst (Of : ℕ → Numbers → Type 0) (window : Window) (enough : ℕ) (list : List Connection) (next : ℕ) : Type 0 where
  pub are : AreConnectionsBefore Of window next list
  pub some : next ≤ window.last → enough ≤ length list

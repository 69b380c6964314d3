-- The first connections of a window, by their number.
use Rattle.std.specs.Prelude.{◌≡◌, ◌⊎◌, ℕ, ◌≤◌, ◌<◌, Bool, true, false, List, Option, None, Some, length, slice_index_or, take}
use Rattle.std.specs.List.{All, AllPairs, AllZip, Contains}
use Rattle.timetable.specs.declared.parts.Numbers.{Numbers}
use Rattle.timetable.specs.Table.{Table}
use Rattle.pattern_query.specs.Answer.{numbers}
use Rattle.connections.specs.Connections.{AreFirst, IsBefore, IsConnection, WalksLeastFor}
use Rattle.connections.specs.declared.connection.Connection.{Connection}
use Rattle.connections.specs.declared.connection.Window.{Window}
use Rattle.told_connections.specs.declared.choosing.TheConstants.{ENOUGH}

-- a connection with its departure and its numbers is in the list
abbrev pub IsListed : List Connection → Connection → Type 0
IsListed list c = (e : Connection) × Contains list e × (e.departure ≡ c.departure) × (numbers e.journey ≡ numbers c.journey)

-- The first n connections of the window, by departure and then by arrival, or all if there are fewer. A connection of the window that isn't
-- among them comes after each of them, and departs at `next` or later; and there are n of them if `next` lies within the window.
pub record AreNext (Of : ℕ → Numbers → Type 0) (window : Window) (n : ℕ) (list : List Connection) (next : ℕ) : Type 0 where
  pub rising : AllPairs IsBefore list
  pub each : All (IsConnection Of window) list
  pub few : length list ≤ n
  pub some : next ≤ window.last → length list ≡ n
  pub rest : (c : Connection) → IsConnection Of window c → IsListed list c ⊎ ((next ≤ c.departure) × All (λ e. IsBefore e c) list)

-- the connections that are reported: the first n of the window, if a number n is asked for; else all that depart before `next`, which are
-- all of the window or else enough
abbrev pub AreChosen : (ℕ → Numbers → Type 0) → Window → Option ℕ → List Connection → ℕ → Type 0
AreChosen Of window None list next = AreFirst Of window ENOUGH list next
AreChosen Of window (Some n) list next = AreNext Of window n list next

-- ---- how they are chosen; only private clauses cite these words

-- how many are searched for
abbrev pub enough_of : Option ℕ → ℕ
enough_of None = ENOUGH
enough_of (Some n) = n

-- of the connections that depart before `next`, those that are reported
abbrev pub chosen_of : Option ℕ → List Connection → List Connection
chosen_of None list = list
chosen_of (Some n) list = take n list

-- when the first one that isn't reported departs, if it is known; else `next`
abbrev pub IsLeftFrom : Option ℕ → List Connection → ℕ → ℕ → Type 0
IsLeftFrom None list next new = new ≡ next
IsLeftFrom (Some n) list next new =
    (length list ≤ n → new ≡ next) × ((d : Connection) → n < length list → new ≡ (slice_index_or list n d).departure)

-- of the connections that depart before `next` these are reported, and the others depart at `new` or later
pub record Chooses (asked : Option ℕ) (list : List Connection) (next : ℕ) (chosen : List Connection) (new : ℕ) : Type 0 where
  pub items : chosen ≡ chosen_of asked list
  pub next_is : IsLeftFrom asked list next new

-- the chosen connections, with the journeys that walk least if their rides are wanted
abbrev pub AreWalked : Table → Bool → List Connection → List Connection → Type 0
AreWalked table false chosen told = told ≡ chosen
AreWalked table true chosen told = AllZip (WalksLeastFor table) chosen told

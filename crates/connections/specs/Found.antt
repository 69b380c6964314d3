-- The connections that are found so far, from the last departures to the first. Only private clauses cite these words.
use Rattle.std.specs.Prelude.{Option, None, Some, ◌≡◌, ℕ, ◌<◌, ◌≤◌, ◌⊎◌, ⊤, List, [], slice_index_or, length}
use Rattle.std.specs.List.{All, AllPairs, Contains}
use Rattle.std.specs.List.Sorted.{IsStrictlyIncreasing}
use Rattle.timetable.specs.declared.parts.Numbers.{Numbers}
use Rattle.timetable.specs.Table.{Table, stops_of}
use Rattle.timetable.specs.Journeys.{IsLeast}
use Rattle.timetable.specs.Front.{IsSooner}
use Rattle.rounds.specs.Mark.{Mark, arrival_in, moment_in}
use Rattle.rounds.specs.Answers.{ArrivesWithin}
use Rattle.rounds.specs.Events.{IsEvent}
use Rattle.pattern_query.specs.Answer.{PointData, numbers}
use Rattle.pattern_query.specs.Questions.{AreComplete, AskedReaches, Held, ReachesBetween}
use Rattle.connections.specs.declared.connection.Connection.{Connection}
use Rattle.connections.specs.declared.connection.Window.{Window}
use Rattle.connections.specs.Connections.{Connects, IsConnection, IsBefore}

-- the moments are those that are so, strictly rising
pub record AreMoments (Is : ℕ → Type 0) (moments : List ℕ) : Type 0 where
  pub rising : IsStrictlyIncreasing moments
  pub each : (e : ℕ) → Contains moments e → Is e
  pub all : (e : ℕ) → Is e → Contains moments e

-- from one moment to another
abbrev pub between : ℕ → ℕ → Window
between first last = record { first = first; last = last }

-- the moments below n are no later than this one, and the others are
abbrev pub SplitsAt : List ℕ → ℕ → ℕ → Type 0
SplitsAt moments moment n =
    ((i : ℕ) → i < n → slice_index_or moments i 0 ≤ moment) × ((i : ℕ) → n ≤ i → i < length moments → moment < slice_index_or moments i 0)

-- d is no later than the moments from n on
abbrev pub IsBy : List ℕ → ℕ → ℕ → Type 0
IsBy moments n d = (i : ℕ) → n ≤ i → i < length moments → d ≤ slice_index_or moments i 0

-- d is after the moments below n, and no later than the others
abbrev pub LiesAt : List ℕ → ℕ → ℕ → Type 0
LiesAt moments n d = ((i : ℕ) → i < n → slice_index_or moments i 0 < d) × IsBy moments n d

-- the connections of the window, the last ones first
pub record AreFound (Of : ℕ → Numbers → Type 0) (window : Window) (list : List Connection) : Type 0 where
  pub falling : AllPairs (λ a b. IsBefore b a) list
  pub each : All (IsConnection Of window) list
  pub all : (d : ℕ) (n : Numbers) → window.first ≤ d → d ≤ window.last → Connects Of d n
      → (c : Connection) × Contains list c × (c.departure ≡ d) × (numbers c.journey ≡ n)

-- a journey that leaves at this moment
abbrev pub leaving : ℕ → PointData → Connection
leaving event p = record { departure = event; journey = p }

-- to the old ones those of these journeys were added that leave at this moment, in their order
pub record AddsSome (These : PointData → Type 0) (event : ℕ) (points : List PointData) (old new : List Connection) : Type 0 where
  pub kept : (c : Connection) → Contains old c → Contains new c
  pub all : (p : PointData) → Contains points p → These p → Contains new (leaving event p)
  pub only : (c : Connection) → Contains new c → Contains old c ⊎ ((p : PointData) × Contains points p × These p × (c ≡ leaving event p))
  pub falling : AllPairs (λ (p q : PointData). q.arrival < p.arrival) points → ((c : Connection) → Contains old c → event < c.departure)
      → AllPairs (λ a b. IsBefore b a) old → AllPairs (λ a b. IsBefore b a) new

-- ---- by the rounds

-- the arrivals are the least of journeys of one ride or more at d
abbrev pub AreLeastAt : Table → ℕ → ℕ → ℕ → List (List (Option Mark)) → Type 0
AreLeastAt table k s d rounds =
    (r t : ℕ) → 1 ≤ r → r ≤ k → t < stops_of table → IsLeast (ArrivesWithin table s d r t) (arrival_in rounds r t)

-- the journey has a ride, and with as many rides one is at t sooner than before
abbrev pub IsLowered : List (List (Option Mark)) → List (List (Option ℕ)) → ℕ → PointData → Type 0
IsLowered rounds before t p = (1 ≤ p.rides) × IsSooner (arrival_in rounds p.rides t) (moment_in before p.rides t)

-- with one to k rides one is at t sooner than before
abbrev pub IsLoweredWithin : List (List (Option Mark)) → List (List (Option ℕ)) → ℕ → ℕ → Type 0
IsLoweredWithin rounds before t k = (r : ℕ) × (1 ≤ r) × (r ≤ k) × IsSooner (arrival_in rounds r t) (moment_in before r t)

-- ---- by the patterns of trees

-- an event of one of the stops
abbrev pub IsEventOf : Table → List ℕ → ℕ → Type 0
IsEventOf table stops e = (s : ℕ) × Contains stops s × IsEvent table s e

-- the journeys of the trees of the first stops to the others; those of at most k rides of the timetable, if these trees are complete
abbrev pub Scope : Table → Held → List ℕ → List ℕ → Option ℕ → ℕ → Numbers → Type 0
Scope table held froms tos None = AskedReaches table held froms tos
Scope table held froms tos (Some k) = ReachesBetween table k froms tos

abbrev pub IsScope : Table → Held → List ℕ → Option ℕ → Type 0
IsScope table held froms None = ⊤
IsScope table held froms (Some k) = AreComplete table held k froms

-- q has a ride, no more rides than p, and arrives by then
abbrev pub IsNoWorse : PointData → PointData → Type 0
IsNoWorse q p = (1 ≤ q.rides) × (q.rides ≤ p.rides) × (q.arrival ≤ p.arrival)

-- one of the points is so
abbrev pub IsThere : List PointData → PointData → Type 0
IsThere next p = (q : PointData) × Contains next q × IsNoWorse q p

-- the journey has a ride, and the points of the next event have none that is no worse
abbrev pub IsLastBefore : List PointData → PointData → Type 0
IsLastBefore next p = (1 ≤ p.rides) × (IsThere next p → ⊥)

-- the points stand for the journeys that begin after e
pub record AreAfter (Of : ℕ → Numbers → Type 0) (e : ℕ) (next : List PointData) : Type 0 where
  pub each : (q : PointData) → Contains next q → 1 ≤ q.rides → (later : ℕ) × (e < later) × Of later (numbers q)
  pub all : (later : ℕ) (m : Numbers) → e < later → 1 ≤ m.rides → Of later m
      → (q : PointData) × Contains next q × (q.arrival ≤ m.arrival) × (q.rides ≤ m.rides)
  pub foot : (q : PointData) → Contains next q → q.rides ≡ 0 → (m : Numbers) × Of e m × (m.rides ≡ 0) × (m.arrival < q.arrival)

-- the points of an answer, if there is one
abbrev pub points_in : Option (List PointData) → List PointData
points_in None = []
points_in (Some points) = points

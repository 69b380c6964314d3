-- Ways on from a stop to the end of a journey, and which of them are kept.
-- RAPTOR (Delling, Pajor, Werneck, ALENEX 2012), section 4: with more criteria a stop has a bag of labels, none of which another dominates.
use Rattle.std.specs.Prelude.{Some, ◌≡◌, ℕ, ◌+◌, ◌<◌, ◌≤◌, ◌⊎◌, Bool, List, [], ◌∷◌, slice_get, slice_index_or, IsSomeAnd}
use Rattle.std.specs.List.{Contains}
use Rattle.std.specs.Option.{unwrap_or}
use Rattle.timetable.specs.declared.parts.Leg.{Leg}
use Rattle.timetable.specs.Table.{Table}
use Rattle.timetable.specs.Journeys.{foot, departs}
use Rattle.lines.specs.declared.line.Halt.{Halt}
use Rattle.direct_connections.specs.Latest.{ServesBy}
use Rattle.pattern_tree.specs.Forest.{Step}
use Rattle.pattern_query.specs.Way.{hop}

-- a way on from a stop: the last moment at which one can be there to take it, the seconds on foot, and the stops of its rides
pub record WayData : Type 0 where
  pub moment : ℕ
  pub walked : ℕ
  pub path : List Step

-- one can take a as late as b, and walks no more
pub record IsNoWorse (a b : WayData) : Type 0 where
  pub late : b.moment ≤ a.moment
  pub short : a.walked ≤ b.walked

-- one of the ways is no worse
abbrev pub HasNoWorse : List WayData → WayData → Type 0
HasNoWorse ways w = (v : WayData) × Contains ways v × IsNoWorse v w

-- the ways of a stop
abbrev pub ways_at : List (List WayData) → ℕ → List WayData
ways_at rows p = slice_index_or rows p []

-- A way of `new` was there, or is one of these ways from that moment on, with less than `bound` on foot. Each way that was there, and each
-- of these, has one that is no worse.
pub record Gathers (Of : WayData → Type 0) (since bound : ℕ) (old new : List WayData) : Type 0 where
  pub attained : (w : WayData) → Contains new w → Contains old w ⊎ (Of w × (since ≤ w.moment) × (w.walked < bound))
  pub kept : (w : WayData) → HasNoWorse old w → HasNoWorse new w
  pub all : (w : WayData) → Of w → since ≤ w.moment → w.walked < bound → HasNoWorse new w

-- the last walk, from p to t, where one is by then
pub record WalksTo (table : Table) (p t by : ℕ) (w : WayData) : Type 0 where
  pub seconds : ℕ
  pub feet : foot table p t ≡ Some seconds
  pub in_time : w.moment + seconds ≡ by
  pub walked : w.walked ≡ seconds
  pub path : w.path ≡ []

-- a ride from b to e, and then one of these ways on from e
pub record RidesTo (table : Table) (b e : ℕ) (Rest : WayData → Type 0) (w : WayData) : Type 0 where
  pub leg : Leg
  pub rest : WayData
  pub goes_on : Rest rest
  pub serves : ServesBy table b e rest.moment leg
  pub moment : w.moment ≡ departs table leg
  pub walked : w.walked ≡ rest.walked
  pub path : w.path ≡ (b, e) ∷ rest.path

-- a ride from b to one of these stops, and then a way of the rows on from there
abbrev pub RidesAmong : Table → ℕ → (ℕ → Type 0) → List (List WayData) → WayData → Type 0
RidesAmong table b Stops rows w = (e : ℕ) × Stops e × RidesTo table b e (Contains (ways_at rows e)) w

-- some seconds, of which `feet` are on foot, and then one of these ways
pub record HopsTo (seconds feet : ℕ) (Rest : WayData → Type 0) (w : WayData) : Type 0 where
  pub rest : WayData
  pub goes_on : Rest rest
  pub moment : w.moment + seconds ≡ rest.moment
  pub walked : w.walked ≡ feet + rest.walked
  pub path : w.path ≡ rest.path

-- one goes from p to one of these stops to board there, before any ride or after one, and then a way of the rows on from there
pub record HopsAmong (table : Table) (ridden : Bool) (p : ℕ) (Stops : ℕ → Type 0) (rows : List (List WayData)) (w : WayData) : Type 0 where
  pub board : ℕ
  pub here : Stops board
  pub seconds : ℕ
  pub hops : hop table ridden p board ≡ Some seconds
  pub then : HopsTo seconds (unwrap_or (foot table p board) 0) (Contains (ways_at rows board)) w

-- the stop of one of the halts from this position on
abbrev pub StopsFrom : List Halt → ℕ → ℕ → Type 0
StopsFrom halts first e = (k : ℕ) × (first ≤ k) × IsSomeAnd (slice_get halts k) (λ halt. halt.stop ≡ e)

-- any stop
abbrev pub Anywhere : ℕ → Type 0
Anywhere stop = Unit {0}

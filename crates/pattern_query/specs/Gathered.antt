-- What searches of several trees put together. Only private clauses cite these words.
use Rattle.std.specs.Prelude.{Option, ◌≡◌, ℕ, suc, ◌⊎◌, List, length, Some}
use Rattle.std.specs.List.{Contains}
use Rattle.timetable.specs.declared.parts.Leg.{Leg}
use Rattle.timetable.specs.Table.{Table}
use Rattle.pattern_tree.specs.Content.{Content}
use Rattle.pattern_query.specs.Answer.{PointData, TreeJourney, IsPoint}
use Rattle.pattern_query.specs.BestSoFar.{at, ThereBy}

-- the tree is this one, and the stop one of these
abbrev pub IsTo : Content → List ℕ → Content → ℕ → Type 0
IsTo one tos tree t = (tree ≡ one) × Contains tos t

-- the point is a journey of the tree to one of the stops
abbrev pub IsPointTo : Table → Content → List ℕ → ℕ → PointData → Type 0
IsPointTo table tree tos d p = Contains tos p.to × IsPoint table tree p.to d p

-- A point of `new` was there or is a journey of a tree and to a stop that were asked. What arrives with few rides by some moment is not
-- lost. Each such journey has a point that arrives as early with as few rides.
pub record AddsAsked (table : Table) (Asked : Content → ℕ → Type 0) (d : ℕ) (old new : List (Option PointData)) : Type 0 where
  pub attained : (r : ℕ) (p : PointData) → at new r ≡ Some p
      → (at old r ≡ Some p) ⊎ ((p.rides ≡ r) × (tree : Content) × Asked tree p.to × IsPoint table tree p.to d p)
  pub kept : (n a : ℕ) → ThereBy old n a → ThereBy new n a
  pub least : (tree : Content) (t : ℕ) (legs : List Leg) (z : ℕ) → Asked tree t → TreeJourney table tree t d legs z
      → ThereBy new (suc (length legs)) z

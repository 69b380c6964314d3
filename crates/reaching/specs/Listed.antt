-- The stops that were looked at so far, in their order. Only private clauses cite these words.
use Rattle.std.specs.Prelude.{Option, ℕ, ◌<◌, List}
use Rattle.std.specs.List.{All, AllPairs}
use Rattle.timetable.specs.Table.{Table}
use Rattle.reaching.specs.Reached.{AreAllReached, IsReached}
use Rattle.reaching.specs.declared.reached.Reached.{Reached}

-- those of the first n stops at which one can be by `last`, by number
pub record AreListed (table : Table) (k s d : ℕ) (last : Option ℕ) (n : ℕ) (list : List Reached) : Type 0 where
  pub rising : AllPairs (λ a b. a.stop < b.stop) list
  pub within : All (λ r. r.stop < n) list
  pub each : All (IsReached table k s d last) list
  pub all : AreAllReached table k s d last n list

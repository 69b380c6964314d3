-- What the program finds on its system.
use Rattle.std.specs.Prelude.{ℕ, Bool, List}
use Rattle.feed_report.specs.Reports.{Names}
use Rattle.gtfs_tables.specs.Feed.{Feed}
use Rattle.printing.specs.Tellings.{Telling}

-- Which feed a folder holds, if its bytes are known, and which names; which bytes a file has that lists stops, if they are known; and
-- whether there are hash keys to look ids up with.
pub record World : Type 1 where
  pub holds : List ℕ → Feed → Type 0
  pub lists : List ℕ → Names → Type 0
  pub has : List ℕ → List ℕ → Type 0
  pub keyed : Bool

-- all of that, and which texts may be made
pub record SystemView : Type 1 where
  pub world : World
  pub telling : Telling

abbrev pub view_of : World → Telling → SystemView
view_of world telling = record { world = world; telling = telling }

-- The moments of a disk's clock, and what a crash leaves at them.
use Rattle.std.specs.Prelude.{◌≡◌, ℕ, zero, suc, List, [], ◌∷◌, ◌++◌, length, All}
use Rattle.disk_model.specs.Image.{Image, IsOutcome}
use Rattle.disk_model.specs.Disk.{State}

-- all moments up to now, the oldest first; a moment's number is its index here
abbrev pub moments : State → List Image
moments disk = disk.past ++ disk.now ∷ []

-- the number of the moment that is now
abbrev pub moment : State → ℕ
moment disk = length disk.past

-- a crash at the moment of that number leaves these bytes
abbrev pub IsLeftAt : List Image → ℕ → List ℕ → Type 0
IsLeftAt [] m bytes = ⊥
IsLeftAt (image ∷ images) zero bytes = IsOutcome image bytes
IsLeftAt (image ∷ images) (suc m) bytes = IsLeftAt images m bytes

-- a crash of the disk at the moment of that number leaves these bytes
abbrev pub IsLeft : State → ℕ → List ℕ → Type 0
IsLeft disk m bytes = IsLeftAt (moments disk) m bytes

-- each outcome has P
abbrev pub Leaves : (List ℕ → Type 0) → Image → Type 0
Leaves P image = (bytes : List ℕ) → IsOutcome image bytes → P bytes

-- time went on from old to new, and at each moment since then each outcome has P
pub record LeavesOnly (old new : State) (P : List ℕ → Type 0) : Type 0 where
  pub since : List Image
  pub are : moments new ≡ moments old ++ since
  pub each : All (Leaves P) since

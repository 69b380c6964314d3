-- One outcome of a crash, by its length and by what its open places are filled with.
use Rattle.std.specs.Prelude.{◌≤◌, ℕ, zero, suc, ◌+◌, ◌-◌, List, [], ◌∷◌, length, drop, get_or, Bool, ◌&&◌, ◌||◌, nat_lt, nat_le, if◌then◌else◌}
use Rattle.std.specs.List.{list_any}
use Rattle.disk_model.specs.Image.{Image, IsLength, settled_image}
use Rattle.disk_model.specs.Disk.{State, next_state}

-- the place lies in one of the ranges
abbrev pub is_covered : ℕ → List (ℕ × ℕ) → Bool
is_covered place ranges = list_any (λ range. nat_le range.0 place && nat_lt (place - range.0) range.1) ranges

-- a crash may leave any byte at this place
abbrev pub is_open : Image → ℕ → Bool
is_open image place = nat_le image.least place || is_covered place image.ranges

-- how many of the next n places are open
abbrev pub open_count : Image → ℕ → ℕ → ℕ
open_count image place zero = 0
open_count image place (suc n) = (if is_open image place then 1 else 0) + open_count image (place + 1) n

-- the bytes of the next n places, the open ones from the fill, in rising order
abbrev pub filled_bytes : Image → ℕ → ℕ → List ℕ → List ℕ
filled_bytes image place zero fill = []
filled_bytes image place (suc n) fill =
    if is_open image place
    then get_or fill 0 0 ∷ filled_bytes image (place + 1) n (drop 1 fill)
    else get_or image.synced place 0 ∷ filled_bytes image (place + 1) n fill

-- a crash may leave that length, and the fill has a byte for each open place below it
pub record CanCrash (image : Image) (len : ℕ) (fill : List ℕ) : Type 0 where
  pub long : IsLength image len
  pub enough : open_count image 0 len ≤ length fill

-- after a crash that left these bytes
abbrev pub after_crash : List ℕ → State → State
after_crash bytes disk = next_state bytes (settled_image bytes) disk

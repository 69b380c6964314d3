-- What a crash may leave of a file. Its length lies between the least and the greatest length since the last sync that succeeded. A byte
-- below every length since then and in no range written since then is as it was at that sync. Every other byte may be anything.
use Rattle.std.specs.Prelude.{◌<◌, ◌≤◌, ◌≡◌, ◌⊎◌, ℕ, ◌+◌, min, max, List, [], ◌∷◌, ◌++◌, length, get_or}

-- the file as it was at the last sync, the least and the greatest length since, and the ranges written since, the oldest
-- first, each by its first place and its number of bytes
pub record Image : Type 0 where
  pub synced : List ℕ
  pub least : ℕ
  pub greatest : ℕ
  pub ranges : List (ℕ × ℕ)

-- the place lies in one of the ranges
abbrev pub IsWritten : ℕ → List (ℕ × ℕ) → Type 0
IsWritten place [] = ⊥
IsWritten place (range ∷ ranges) = ((range.0 ≤ place) × (place < range.0 + range.1)) ⊎ IsWritten place ranges

-- a crash may leave a file of that length
pub record IsLength (image : Image) (len : ℕ) : Type 0 where
  pub no_shorter : image.least ≤ len
  pub no_longer : len ≤ image.greatest

-- a crash may leave these bytes
pub record IsOutcome (image : Image) (bytes : List ℕ) : Type 0 where
  pub long : IsLength image (length bytes)
  pub kept : (place : ℕ) → place < image.least → (IsWritten place image.ranges → ⊥) → get_or bytes place 0 ≡ get_or image.synced place 0

-- after a sync or a crash: these bytes and no others
abbrev pub settled_image : List ℕ → Image
settled_image bytes = record { synced = bytes; least = length bytes; greatest = length bytes; ranges = [] }

-- after a write of `count` bytes, done or done in part
abbrev pub with_write : ℕ → ℕ → Image → Image
with_write at count image =
    record {
      synced = image.synced;
      least = image.least;
      greatest = max image.greatest (at + count);
      ranges = image.ranges ++ (at, count) ∷ [];
    }

-- after a cut to that length, done or done in part
abbrev pub with_cut : ℕ → Image → Image
with_cut len image = record { synced = image.synced; least = min image.least len; greatest = image.greatest; ranges = image.ranges }

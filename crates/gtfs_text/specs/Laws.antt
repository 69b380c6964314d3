-- What the definitions of sheets and values come to, in plain words.
use Rattle.std.specs.Prelude.{◌≡◌, ◌≢◌, ◌≤◌, ◌↔◌, ◌+◌, ◌-◌, ◌*◌, ℕ, true, false, List, [], ◌∷◌, ◌++◌, length, get_or, replicate, nat_eq, Some}
use Rattle.std.specs.List.{starts_with, concat}
use Rattle.gtfs_text.specs.Sheets.{without_marks, without_spaces}
use Rattle.gtfs_text.specs.Values.{decimal, is_digits, time_of}

-- U+FEFF in UTF-8
abbrev pub byte_order_mark : List ℕ
byte_order_mark = 239 ∷ 187 ∷ 191 ∷ []

-- a file is `marks` marks and then these bytes, which don't begin with one
pub record FollowsMarks (file bytes : List ℕ) : Type 0 where
  pub marks : ℕ
  pub whole : file ≡ concat (replicate marks byte_order_mark) ++ bytes
  pub no_more : starts_with nat_eq bytes byte_order_mark ≡ false

abbrev pub MarksGoFromFront : Type 0
MarksGoFromFront = (file : List ℕ) → FollowsMarks file (without_marks file)

-- a field is `before` spaces, these bytes, and `after` spaces, and the bytes neither begin nor end with a space
pub record StandsBetweenSpaces (field bytes : List ℕ) : Type 0 where
  pub before : ℕ
  pub after : ℕ
  pub whole : field ≡ replicate before 32 ++ bytes ++ replicate after 32
  pub first : get_or bytes 0 0 ≢ 32
  pub last : get_or bytes (length bytes - 1) 0 ≢ 32

abbrev pub SpacesGoFromEnds : Type 0
SpacesGoFromEnds = (field : List ℕ) → StandsBetweenSpaces field (without_spaces field)

-- a text spells `value` seconds: `H:MM:SS`, `HH:MM:SS` or `HHH:MM:SS`, up to 167:59:59
pub record SpellsTime (text : List ℕ) (value : ℕ) : Type 0 where
  pub hours : List ℕ
  pub minutes : List ℕ
  pub seconds : List ℕ
  pub whole : text ≡ hours ++ 58 ∷ minutes ++ 58 ∷ seconds
  pub hour_digits : is_digits 1 3 hours ≡ true
  pub minute_digits : is_digits 2 2 minutes ≡ true
  pub second_digits : is_digits 2 2 seconds ≡ true
  pub hours_within : decimal hours ≤ 167
  pub minutes_within : decimal minutes ≤ 59
  pub seconds_within : decimal seconds ≤ 59
  pub total : value ≡ 3600 * decimal hours + 60 * decimal minutes + decimal seconds

abbrev pub TimesAreClockTimes : Type 0
TimesAreClockTimes = (text : List ℕ) (value : ℕ) → (time_of text ≡ Some value) ↔ SpellsTime text value

-- Lines of a file that have no quotes: commas part their fields (RFC 4180, section 2, rules 1 to 4; GTFS Schedule reference, "File
-- requirements").
use Rattle.std.specs.Prelude.{◌≡◌, ◌⊎◌, ◌≤◌, ◌+◌, ◌-◌, Bool, true, not, ℕ, List, [], ◌∷◌, ◌++◌, length, take, drop, map, nat_le, if◌then◌else◌, ◌==◌, ◌||◌}
use Rattle.std.specs.List.{list_all, slice_split}
use Rattle.csv.specs.Reading.{records, default_config, strip_bom}
use Rattle.gtfs_text.specs.Sheets.{is_text}
use Rattle.gtfs_text.specs.declared.lines.Place.{Place}

-- a byte that neither quotes nor ends a line
abbrev pub is_plain : ℕ → Bool
is_plain c = not ((c == 34) || (c == 13) || (c == 10))

abbrev pub is_comma : ℕ → Bool
is_comma c = c == 44

-- the texts between the commas of a line
abbrev pub between_commas : List ℕ → List (List ℕ)
between_commas line = slice_split is_comma line

-- the records of a line: one, or none if it is empty
abbrev pub records_in : List ℕ → List (List (List ℕ))
records_in [] = []
records_in (c ∷ line) = between_commas (c ∷ line) ∷ []

-- a text without a line feed at its front
abbrev pub without_line_feed : List ℕ → List ℕ
without_line_feed [] = []
without_line_feed (c ∷ text) = if c == 10 then text else c ∷ text

-- it is the line at the front of a text, and the text from its line feed on, before which a carriage return may stand: or the text ends
abbrev pub IsFrontLine : List ℕ → List ℕ → List ℕ → Type 0
IsFrontLine text line rest =
    ((text ≡ line ++ rest) × (rest ≡ []))
    ⊎ ((after : List ℕ) × (rest ≡ 10 ∷ after) × ((text ≡ line ++ rest) ⊎ (text ≡ line ++ 13 ∷ rest)))

-- the line at a place of a file
abbrev pub line_at : List ℕ → Place → List ℕ
line_at file place = take place.size (drop place.start file)

-- the records of the lines at these places of a file
abbrev pub rows_at : List ℕ → List Place → List (List (List ℕ))
rows_at file places = map (λ place. between_commas (line_at file place)) places

-- a file ends with this text
pub record EndsWith (file text : List ℕ) : Type 0 where
  pub front : List ℕ
  pub whole : file ≡ front ++ text

-- The first records of a text, all UTF-8, are those of the lines at these places of a file. Its other records are those of the rest. The
-- file ends with the rest, which comes after the lines and doesn't begin with a mark.
pub record AreLines (text file : List ℕ) (places : List Place) (rest : List ℕ) : Type 0 where
  pub whole : records default_config text ≡ rows_at file places ++ records default_config rest
  pub utf8 : list_all is_text (rows_at file places) ≡ true
  pub no_mark : strip_bom rest ≡ rest
  pub end : EndsWith file rest
  pub before : list_all (λ place. nat_le (place.start + place.size) (length file - length rest)) places ≡ true
  pub few : length places + length rest ≤ length file

-- How an id is shown.
-- GTFS Schedule, field types: an id is any UTF-8 text, so it may hold the end of a line, or what a terminal takes for a command.
-- Unicode Standard, table 4-4: the control characters are those of the general category Cc.
use Rattle.std.specs.Prelude.{◌≡◌, ◌==◌, ℕ, List, [], ◌∷◌, if◌then◌else◌}
use Rattle.std.specs.Char.{is_control}
use Rattle.std.specs.Char.Escape.{escape_unicode}
use Rattle.std.specs.List.{flat_map}
use Rattle.std.specs.Str.{chars, encode_utf8_all}

-- a backslash (92) is doubled, a control character is `\u{..}` with its number in hexadecimal, each other character is as it is
unfoldable pub shown_char : ℕ → List ℕ
shown_char c = if c == 92 then 92 ∷ 92 ∷ [] else (if is_control c then escape_unicode c else c ∷ [])

-- the text of an id, as it is shown
unfoldable pub shown : List ℕ → List ℕ
shown id = encode_utf8_all (flat_map shown_char (chars id))

-- ids that look alike are the same
abbrev pub IdsLookDifferent : List ℕ → List ℕ → Type 0
IdsLookDifferent one other = shown one ≡ shown other → one ≡ other

-- Ids whose numbers are known.
use Rattle.std.specs.Prelude.{◌≡◌, ℕ, List, Some}
use Rattle.std.specs.Borrow.{Bor}
use Rattle.gtfs_rows.specs.Rows.{number_in, texts_in}
use Rattle.gtfs_calls.specs.declared.plain_rows.Known.{Known}

-- it is the number of the id among these texts
abbrev pub IsNumbered : List (Bor (List ℕ)) → Known → Type 0
IsNumbered texts known = number_in (texts_in texts) known.id.now ≡ Some known.number

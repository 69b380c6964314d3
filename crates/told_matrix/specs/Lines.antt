-- The lines of a table: CSV as RFC 4180 has it, by the crate csv. A field is quoted if it has a comma, a quote or a line's end, and each line
-- ends with a carriage return and a line feed.
use Rattle.std.specs.Prelude.{ℕ, List, [], ◌∷◌, ◌++◌, Option, None, Some}
use Rattle.std.specs.Fmt.{decimal}
use Rattle.std.specs.Global.{Vec}
use Rattle.csv.specs.Writing.{default_writer, row_text, with_terminator}
use Rattle.csv.specs.declared.parser.Terminator.TheVariants as terminators
use Rattle.csv.specs.declared.writer.WriterBuilder.{WriterBuilder}
use Rattle.reaching.specs.declared.travel_time.TravelTimes.{TravelTimes}
use Rattle.told_matrix.specs.declared.place.Place.{Place}

abbrev pub form : WriterBuilder
form = with_terminator default_writer terminators.CRLF

-- a number of seconds; nothing if there is none
abbrev pub seconds_text : Option ℕ → List ℕ
seconds_text None = []
seconds_text (Some n) = decimal n

-- the least, the median and the greatest number of seconds; none if one doesn't get there
abbrev pub least_of : Option TravelTimes → Option ℕ
least_of None = None
least_of (Some times) = Some times.least

abbrev pub median_of : Option TravelTimes → Option ℕ
median_of None = None
median_of (Some times) = times.median

abbrev pub greatest_of : Option TravelTimes → Option ℕ
greatest_of None = None
greatest_of (Some times) = times.greatest

-- the line of two stops: their ids, and these numbers
abbrev pub line_text : List ℕ → List ℕ → Option TravelTimes → List ℕ
line_text from to cell =
    row_text form (from ∷ to ∷ seconds_text (least_of cell) ∷ seconds_text (median_of cell) ∷ seconds_text (greatest_of cell) ∷ [])

-- the lines of a stop to leave from: one for each stop to go to
abbrev pub lines_from : List ℕ → List Place → List (Option TravelTimes) → List ℕ
lines_from from [] row = []
lines_from from (to ∷ goals) [] = []
lines_from from (to ∷ goals) (cell ∷ row) = line_text from to.id.now cell ++ lines_from from goals row

-- the lines of all stops to leave from
abbrev pub lines_of : List Place → List Place → List (Vec (Option TravelTimes)) → List ℕ
lines_of [] goals rows = []
lines_of (from ∷ origins) goals [] = []
lines_of (from ∷ origins) goals (row ∷ rows) = lines_from from.id.now goals row.items ++ lines_of origins goals rows

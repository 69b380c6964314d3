-- A writer of CSV between two rows. Only private clauses cite these words.
use Rattle.std.specs.Prelude.{◌≡◌, ℕ, false, List, length, Option}
use Rattle.std.specs.Global.{Vec}
use Rattle.std.specs.Io.KnownBytes.{Appends}
use Rattle.csv.specs.Writing.{fields_written, has_written, text_written, writer_setup}
use Rattle.csv.specs.declared.writer.Writer.{Writer}
use Rattle.reaching.specs.declared.travel_time.TravelTimes.{TravelTimes}
use Rattle.told_matrix.specs.Lines.{form}

-- it writes in the form of a table, and the next field is the first of a row
pub record IsReady {W : Type 0} (out : Writer W) : Type 0 where
  pub setup : writer_setup out ≡ form
  pub fields : fields_written out ≡ 0
  pub wrote : has_written out ≡ false

-- it wrote that text, and is between two rows again
pub record Adds {W : Type 0} (contents : W → Option (List ℕ)) (text : List ℕ) (old new : Writer W) : Type 0 where
  pub ready : IsReady new
  pub added : Appends (text_written contents old) (text_written contents new) text

-- a row has that many cells
abbrev pub HasLength : ℕ → Vec (Option TravelTimes) → Type 0
HasLength count row = length row.items ≡ count

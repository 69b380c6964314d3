-- What stands on a stream.
use Rattle.std.specs.Prelude.{◌≡◌, ◌⊎◌, ℕ, List, Option, Bool, true}
use Rattle.std.specs.Io.KnownBytes.{Appends}
use Rattle.answer_lines.specs.Printing.{AppendsBeginning}

-- the bytes that stand on a stream, if they are known, and whether it has refused a write
pub record StreamData : Type 0 where
  pub contents : Option (List ℕ)
  pub has_refused : Bool

abbrev pub stream_of : Option (List ℕ) → Bool → StreamData
stream_of contents has_refused = record { contents = contents; has_refused = has_refused }

-- the whole text was added, and no write was refused
pub record HasWhole (text : List ℕ) (old new : StreamData) : Type 0 where
  pub added : Appends old.contents new.contents text
  pub taken : new.has_refused ≡ old.has_refused

-- a write was refused, and a beginning of the text was added
pub record HasBeginning (text : List ℕ) (old new : StreamData) : Type 0 where
  pub added : AppendsBeginning old.contents new.contents text
  pub refused : new.has_refused ≡ true

-- the whole text was added, or a write was refused
abbrev pub IsSaid : List ℕ → StreamData → StreamData → Type 0
IsSaid text old new = HasWhole text old new ⊎ (new.has_refused ≡ true)

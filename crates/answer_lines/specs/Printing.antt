-- What stands on a writer that refused a write.
use Rattle.std.specs.Prelude.{◌≡◌, ℕ, List, ◌++◌, Option}
use Rattle.std.specs.Io.KnownBytes.{Appends}

-- known bytes grow by the text but for its rest
abbrev pub AppendsBut : Option (List ℕ) → Option (List ℕ) → List ℕ → List ℕ → Type 0
AppendsBut old new text rest = (written : List ℕ) × (text ≡ written ++ rest) × Appends old new written

-- known bytes grow by a beginning of the text
abbrev pub AppendsBeginning : Option (List ℕ) → Option (List ℕ) → List ℕ → Type 0
AppendsBeginning old new text = (rest : List ℕ) × AppendsBut old new text rest

-- What the getters of matches give, by the rows.
use Rattle.std.proofs.Common.{◌≡◌, ◌^◌, refl, ℕ, Option, None, Some, Result, Ok, Err, MatchOption}
use Rattle.std.specs.Str.Parse.{ParsesUnsigned}
use Rattle.clap.specs.Words.{Text, one_text, rows_of, ReadsOne}
use Rattle.clap.specs.declared.parser.matches.Found.{Found}
use Rattle.clap.proofs.WalkLemmas.{one_text-rows}
use Rattle.options.specs.Values.{HasNumber, Spells}

-- what a getter reads by a type's own reading is the number that the rows have
pub has_number : {E : Type 0} (k : ℕ) (f : Found) (id : Text) (n : Option ℕ) (Gives : Text → Result ℕ E → Type 0)
    → ((t : Text) (r : Result ℕ E) → Gives t r → ParsesUnsigned k 10 t r)
    → (one_text f id ≡ None → n ≡ None) → ((t : Text) → one_text f id ≡ Some t → ReadsOne Gives t n)
    → HasNumber (2 ^ k) (rows_of f) id n
has_number {E} k f id n Gives parses none value = rw (← one_text-rows f id) (go (one_text f id) refl)
  where
    spells : (t : Text) (m : Option ℕ) → ReadsOne Gives t m → Spells (2 ^ k) t m
    spells t None given = parses t (Err given.0) given.1
    spells t (Some v) given = parses t (Ok v) given

    go : (o : Option Text) → one_text f id ≡ o → MatchOption o (n ≡ None) (λ t. Spells (2 ^ k) t n)
    go None e = none e
    go (Some t) e = spells t n (value t e)

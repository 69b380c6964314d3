-- Texts without regard to case and accents.
-- The Unicode Standard, sections 3.11 (canonical decomposition), 3.13 (case folding) and 4.5 (general category): what is left of a text
-- that is decomposed, folded and decomposed again once its nonspacing marks are gone.
use Rattle.std.specs.Prelude.{ℕ, Bool, not, List, filter}
use Rattle.std.specs.Str.{chars, encode_utf8_all}
use Rattle.unicode_normalization.specs.Forms.{nfd}
use Rattle.caseless.specs.Caseless.{default_case_fold}
use Rattle.ucd_category.specs.GeneralCategory.{general_category, general_category_number}
use Rattle.std.specs.Bool.{nat_eq}

abbrev pub decomposed : List ℕ → List ℕ
decomposed text = encode_utf8_all (nfd (chars text))

abbrev pub case_folded : List ℕ → List ℕ
case_folded text = encode_utf8_all (default_case_fold (chars text))

-- a nonspacing mark, as an accent that stands after its letter
abbrev pub is_mark : ℕ → Bool
is_mark c = nat_eq (general_category_number (general_category c)) 5

abbrev pub unmarked : List ℕ → List ℕ
unmarked text = encode_utf8_all (filter (λ c. not (is_mark c)) (chars text))

abbrev pub folded : List ℕ → List ℕ
folded text = unmarked (decomposed (case_folded (decomposed text)))

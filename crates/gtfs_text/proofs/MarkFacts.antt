-- Byte order marks at the front.
use Rattle.std.proofs.Common.{◌≡◌, ℕ, true, false, List, [], ◌∷◌, drop, refl, nat_eq, cond, arith, replicate}
use Rattle.std.specs.List.{concat, starts_with}
use Rattle.csv.specs.Reading.{strip_bom, is_bom}
use Rattle.gtfs_text.specs.Laws.{byte_order_mark}
use Rattle.gtfs_text.specs.Lines.{EndsWith}
use Rattle.gtfs_text.specs.Sheets.{without_marks}
use Rattle.gtfs_text.proofs.LawFacts.{follows_marks}

abbrev pub mark : List ℕ
mark = 239 ∷ 187 ∷ 191 ∷ []

-- a mark at the front goes
pub one_mark_less : (xs : List ℕ) → starts_with nat_eq xs mark ≡ true → without_marks (drop 3 xs) ≡ without_marks xs
unfolding without_marks
one_mark_less [] h = refl
one_mark_less (a ∷ []) h = grind (arith, h)
one_mark_less (a ∷ b ∷ []) h = grind (arith, h)
one_mark_less (a ∷ b ∷ c ∷ rest) h = grind (arith, h)

-- with no mark at the front nothing goes
pub no_mark_left : (xs : List ℕ) → starts_with nat_eq xs mark ≡ false → xs ≡ without_marks xs
unfolding without_marks
no_mark_left [] h = refl
no_mark_left (a ∷ []) h = refl
no_mark_left (a ∷ b ∷ []) h = refl
no_mark_left (a ∷ b ∷ c ∷ rest) h = grind (arith, h)

-- what csv does of its own changes nothing after that
pub strip_after : (xs : List ℕ) → strip_bom (without_marks xs) ≡ without_marks xs
unfolding without_marks strip_bom
strip_after [] = refl
strip_after (a ∷ []) = refl
strip_after (a ∷ b ∷ []) = refl
strip_after (a ∷ b ∷ c ∷ rest) =
    elim (is_bom a b c) as (λ t. is_bom a b c ≡ t → strip_bom (cond t (without_marks rest) (a ∷ b ∷ c ∷ rest)) ≡ cond t (without_marks rest) (a ∷ b ∷ c ∷ rest))
    [ true ↦ λ e. strip_after rest | false ↦ λ e. rw e refl ] refl

-- a file ends with what stands after its marks
pub ends_after_marks : (file : List ℕ) → EndsWith file (without_marks file)
ends_after_marks file = let follows = follows_marks file in record { front = concat (replicate follows.marks byte_order_mark); whole = follows.whole }

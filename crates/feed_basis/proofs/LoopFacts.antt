-- Loops that put in something for each item of a list.
use Rattle.std.proofs.Common.{◌≡◌, ℕ, ◌+◌, ◌<◌, List, [], ◌∷◌, ◌++◌, length, take, drop, get_or, ◌∙◌, ap, sym, append_assoc}
use Rattle.std.specs.List.{AllZip}
use Rattle.std.proofs.lemmas.List.{take_more}
use Rattle.std.proofs.lemmas.Slice.Zip.{all_zipped_more}
use Rattle.timetable.specs.declared.parts.Leg.{Leg}
use Rattle.timetable.specs.Table.{Table}
use Rattle.timetable.specs.Journeys.{from, to, arrives}
use Rattle.feed_basis.specs.Stages.{stages_of, walk_stage}
use Rattle.feed_basis.specs.declared.numbered.NumberedStage.{NumberedStage}
use Rattle.feed_basis.specs.declared.numbered.NumberedStage.TheVariants as numbered

-- one item more
pub zip_more : {A B : Type 0} (R : A → B → Type 0) (xs : List A) (ys : List B) (i : ℕ) (d : A) (y : B) → i < length xs
    → AllZip R (take i xs) ys → R (get_or xs i d) y → AllZip R (take (i + 1) xs) (ys ++ y ∷ [])
zip_more R xs ys i d y lt shown here = rw (take_more xs i d lt) (all_zipped_more R (take i xs) ys (get_or xs i d) y shown here)

-- a ride more, with the walk before it
pub stages_more : (table : Table) (xs ys zs : List NumberedStage) (p a t i : ℕ) (legs : List Leg) (leg : Leg) (whole : List NumberedStage)
    → drop i legs ≡ leg ∷ drop (i + 1) legs → ys ≡ xs ++ walk_stage table p a (from table leg) → zs ≡ ys ++ numbered.Ride leg ∷ []
    → xs ++ stages_of table p a (drop i legs) t ≡ whole
    → zs ++ stages_of table (to table leg) (arrives table leg) (drop (i + 1) legs) t ≡ whole
stages_more table xs ys zs p a t i legs leg whole more walked ridden e =
    let rest : List NumberedStage = stages_of table (to table leg) (arrives table leg) (drop (i + 1) legs) t in
    ap (λ l. l ++ rest) ridden
    ∙ (append_assoc ys (numbered.Ride leg ∷ []) rest
    ∙ (ap (λ l. l ++ (numbered.Ride leg ∷ rest)) walked
    ∙ (append_assoc xs (walk_stage table p a (from table leg)) (numbered.Ride leg ∷ rest)
    ∙ (ap (λ l. xs ++ stages_of table p a l t) (sym more) ∙ e))))

-- The lines of one stop more.
use Rattle.std.proofs.Common.{◌≡◌, ◌∙◌, ℕ, zero, suc, ◌<◌, ◌++◌, List, [], ◌∷◌, length, take, get_or, Option, subst, arith, append_assoc, refl, sym, ap, ap₂}
use Rattle.std.proofs.KnownBytes.{Appends-trans}
use Rattle.std.specs.Global.{Vec}
use Rattle.std.specs.Io.KnownBytes.{Appends}
use Rattle.std.proofs.lemmas.List.{append-nil}
use Rattle.csv.specs.Writing.{text_written}
use Rattle.csv.specs.declared.writer.Writer.{Writer}
use Rattle.reaching.specs.declared.travel_time.TravelTimes.{TravelTimes}
use Rattle.told_matrix.specs.Lines.{line_text, lines_from, lines_of}
use Rattle.told_matrix.specs.Writers.{Adds}
use Rattle.told_matrix.specs.declared.place.Place.{Place}

pub lines_more : (from : List ℕ) (goals : List Place) (row : List (Option TravelTimes)) (n : ℕ) (to : Place) (cell : Option TravelTimes)
    → length row ≡ length goals → n < length goals → to ≡ get_or goals n to → cell ≡ get_or row n cell
    → lines_from from (take (suc n) goals) (take (suc n) row)
    ≡ lines_from from (take n goals) (take n row) ++ line_text from to.id.now cell
lines_more from [] row n to cell same below is is' = absurd (let no : ⊥ = omega (arith, below) in no)
lines_more from (t ∷ goals) [] n to cell same below is is' = absurd (let no : ⊥ = omega (arith, same) in no)
lines_more from (t ∷ goals) (x ∷ row) zero to cell same below is is' =
    append-nil (line_text from t.id.now x)
    ∙ ap₂ (λ (p : Place) (o : Option TravelTimes). line_text from p.id.now o) (sym is) (sym is')
lines_more from (t ∷ goals) (x ∷ row) (suc n) to cell same below is is' =
    ap (λ (l : List ℕ). line_text from t.id.now x ++ l)
    (lines_more from goals row n to cell (omega (arith, same)) (omega (arith, below)) is is')
    ∙ sym (append_assoc (line_text from t.id.now x) (lines_from from (take n goals) (take n row)) (line_text from to.id.now cell))

pub all_more : (origins goals : List Place) (rows : List (Vec (Option TravelTimes))) (n : ℕ) (from : Place) (row : Vec (Option TravelTimes))
    → length rows ≡ length origins → n < length origins → from ≡ get_or origins n from → row ≡ get_or rows n row
    → lines_of (take (suc n) origins) goals (take (suc n) rows)
    ≡ lines_of (take n origins) goals (take n rows) ++ lines_from from.id.now goals row.items
all_more [] goals rows n from row same below is is' = absurd (let no : ⊥ = omega (arith, below) in no)
all_more (o ∷ origins) goals [] n from row same below is is' = absurd (let no : ⊥ = omega (arith, same) in no)
all_more (o ∷ origins) goals (r ∷ rows) zero from row same below is is' =
    append-nil (lines_from o.id.now goals r.items)
    ∙ ap₂ (λ (p : Place) (v : Vec (Option TravelTimes)). lines_from p.id.now goals v.items) (sym is) (sym is')
all_more (o ∷ origins) goals (r ∷ rows) (suc n) from row same below is is' =
    ap (λ (l : List ℕ). lines_from o.id.now goals r.items ++ l)
    (all_more origins goals rows n from row (omega (arith, same)) (omega (arith, below)) is is')
    ∙ sym (append_assoc (lines_from o.id.now goals r.items) (lines_of (take n origins) goals (take n rows)) (lines_from from.id.now goals row.items))

-- the lines of some stops to leave from, and then those of others
pub lines_append : (a b goals : List Place) (r s : List (Vec (Option TravelTimes))) → length r ≡ length a
    → lines_of (a ++ b) goals (r ++ s) ≡ lines_of a goals r ++ lines_of b goals s
lines_append [] b goals [] s same = refl
lines_append [] b goals (x ∷ r) s same = absurd (let no : ⊥ = omega (arith, same) in no)
lines_append (o ∷ a) b goals [] s same = absurd (let no : ⊥ = omega (arith, same) in no)
lines_append (o ∷ a) b goals (x ∷ r) s same =
    ap (λ (l : List ℕ). lines_from o.id.now goals x.items ++ l) (lines_append a b goals r s (omega (arith, same)))
    ∙ sym (append_assoc (lines_from o.id.now goals x.items) (lines_of a goals r) (lines_of b goals s))

-- two texts, one after the other
pub adds_more : {W : Type 0} (contents : W → Option (List ℕ)) (a b text : List ℕ) (old mid new : Writer W) → text ≡ a ++ b → Adds contents a old mid
    → Adds contents b mid new → Adds contents text old new
adds_more contents a b text old mid new is first second = record {
  ready = second.ready;
  added = subst (Appends (text_written contents old) (text_written contents new)) (sym is)
      (Appends-trans (text_written contents old) (text_written contents mid) (text_written contents new) a b first.added second.added);
}

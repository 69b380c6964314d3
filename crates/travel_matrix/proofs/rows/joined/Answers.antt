use Rattle.std.proofs.Common.{◌≡◌, ◌∙◌, ◌∷◌, [], List, length, arith, ap, refl, sym}
use Rattle.std.specs.Vec.Iter.{into_iter_items}
use Rattle.travel_matrix.proofs.PartFacts.{joined_all, joined_more}
use Rattle.travel_matrix.proofs.rows.joined.Goals as goal

nothing_left : {X : Type 0} (l : List X) → length l ≡ 0 → l ≡ []
nothing_left [] h = refl
nothing_left (x ∷ xs) h = absurd (omega arith)

pub loop-part-preserved : goal.loop-part-preserved
loop-part-preserved c =
    let at = c.loop-part in
    let next = into_iter_items c.next.new.self in
    let steps : into_iter_items at.part-iterator ≡ c.in-Some.part ∷ next = c.in-Some.ensures.steps.0 in
    record {
      count = let was = at.invariant.count in let gone = c.in-Some.ensures.steps.1 in let short = ap length steps in omega arith;
      rows = joined_more (into_iter_items c.into_iter-part-iterator.result) (into_iter_items at.part-iterator) next c.in-Some.part
          c.in_ok-part.part at.rows.items c.append.new.self.items steps c.in_ok-part.was c.in_ok-append.ensures.items at.invariant.rows;
    }

pub returns : goal.returns
returns c =
    let at = c.loop-part in
    let none = c.in-None.ensures.steps in
    let empty : into_iter_items at.part-iterator ≡ [] = nothing_left _ (sym at.invariant.count ∙ none.0) in
    joined_all c.args.parts.items (into_iter_items c.into_iter-part-iterator.result) (into_iter_items at.part-iterator) at.rows.items
    c.into_iter-part-iterator.ensures.into_iter_gives.0 empty at.invariant.rows

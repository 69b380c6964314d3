use Rattle.std.proofs.Common.{◌∙◌, sym, ap₂, subst, List, Option}
use Rattle.std.proofs.lemmas.Bool.{and_parts, eqb-true}
use Rattle.std.specs.List.{Contains}
use Rattle.pattern_tree.specs.Forest.{Step, Pair}
use Rattle.timetable.proofs.EqualLists.{same_lists}
use Rattle.pattern_building.specs.Latest.{IsIn}
use Rattle.pattern_building.specs.declared.latest.Known.{Known}
use Rattle.pattern_building.proofs.latest.is_known.Goals as goal

pub returns-then-eq : goal.returns-then-eq
returns-then-eq c = λ same content is.
    let known = c.in-Some.known in
    let put_in : Contains content (known.path.items, known.end) = subst (λ (o : Option Known). IsIn content o) c.in-Some.is is in
    let path = sym c.as_slice.ensures.value ∙ same_lists _ (λ x y e. let both = and_parts _ _ e in ap₂ (λ a b. (a, b)) (eqb-true _ _ both.0) (eqb-true _ _ both.1))
    c.as_slice.result.now c.args.path.now (sym c.eq-then-eq.ensures ∙ same) in
    let end = eqb-true known.end c.args.end (sym c.eq.ensures ∙ c.if-eq.true) in
    subst (λ (p : Pair). Contains content p) (ap₂ (λ (x : List Step) y. (x, y)) path end) put_in

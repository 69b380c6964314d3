use Rattle.std.proofs.Common.{◌≡◌, ◌∷◌, ◌++◌, ◌∙◌, rules, refl, true, ap, sym}
use Rattle.std.proofs.lemmas.List.{take_all}
use Rattle.std.proofs.Output.{has_written_append, has_written_of_eq}
use Rattle.std.specs.List.{flat_map}
use Rattle.answer_lines.proofs.LineFacts.{line_more}
use Rattle.answer_lines.specs.Printed.{point_text, points_text}
use Rattle.answer_lines.proofs.answer.write_points.Goals as goal

pub returns-in_default : goal.returns-in_default
unfolding points_text
returns-in_default g c = search rules

pub returns : goal.returns
unfolding points_text
returns g c plain ok =
    let first = c.in_ok-write.ensures.writes plain refl in
    let points_are : c.args.points.now ≡ c.in-Some.first.now ∷ c.in-Some.others.now = search rules in
    has_written_of_eq _ _ _ _ _ (
    ap (λ xs. point_text c.in-Some.first.now ++ flat_map (λ p. 10 ∷ point_text p) xs) (take_all c.loop-point.point-index c.in-Some.others.now c.loop-point-test.false)
    ∙ sym (ap points_text points_are)) (has_written_append _ _ _ _ _ _ first (c.loop-point.invariant first.plain))

pub loop-point-preserved : goal.loop-point-preserved
loop-point-preserved g c plain =
    let so_far = c.loop-point.invariant plain in
    line_more _ _ _ _ (λ p. 10 ∷ point_text p) _ _ _ _ _ refl c.loop-point-test.true c.point-item.is so_far (
    c.in_ok-write-2.ensures.writes so_far.plain (refl {a = true}))

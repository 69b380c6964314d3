use Rattle.std.proofs.Common.{◌≤◌, ◌∷◌, ap, length, refl, subst, true}
use Rattle.std.proofs.Output.{has_written_append, has_written_of_eq}
use Rattle.std.proofs.lemmas.List.{take_all}
use Rattle.std.specs.List.{flat_map}
use Rattle.answer_lines.specs.Printed.{stage_text}
use Rattle.answer_lines.proofs.LineFacts.{line_more}
use Rattle.answer_lines.proofs.answer.PointDisplay.fmt.Goals as goal

pub loop-stage-preserved : goal.loop-stage-preserved
loop-stage-preserved g c plain =
    let so_far = c.loop-stage.invariant plain in
    line_more _ _ _ _ (λ s. 10 ∷ stage_text s) _ _ _ _ _ c.deref-stage-items.ensures.value c.loop-stage-test.true c.stage-item.is so_far (
    c.in_ok-write-2.ensures.writes so_far.plain (refl {a = true}))

pub returns-clause-writes : goal.returns-clause-writes
returns-clause-writes g c plain ok =
    let first = c.in_ok-write.ensures.writes plain (refl {a = true}) in
    let all = subst (λ xs. length xs ≤ c.loop-stage.stage-index) c.deref-stage-items.ensures.value c.loop-stage-test.false in
    has_written_append _ _ _ _ _ _ first (has_written_of_eq _ _ _ _ _ (
    ap (flat_map (λ s. 10 ∷ stage_text s)) (take_all c.loop-stage.stage-index c.args.self.now.stages.items all)) (c.loop-stage.invariant first.plain))

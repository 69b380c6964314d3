use Rattle.std.proofs.Common.{◌≡◌, ◌∙◌, ℕ, true, false, true≢false, refl, sym, subst}
use Rattle.std.proofs.lemmas.Result.{IfOk-weaker}
use Rattle.pattern_tree.specs.Completeness.{Complete}
use Rattle.rounds.specs.Scratch.{rides_of}
use Rattle.auditing.specs.Lacks.{AgreeUnmarked, is_marked}
use Rattle.auditing.proofs.LookFacts.{agree_unmarked, looked_for}
use Rattle.auditing.proofs.lacking.lacking_stops.Goals as goal

pub returns-in-Ok-clause-agree : goal.returns-in-Ok-clause-agree
returns-in-Ok-clause-agree c = λ short.
    agree_unmarked c.args.table.now _ c.args.patterns.now c.in-Ok.tree _ c.walk.new.visitor refl (c.in-Ok.ensures.source ∙ c.source.ensures)
    (subst (λ (s : ℕ). Complete c.args.table.now (rides_of c.args.scratch.now) s c.in-Ok.tree.pairs) (sym c.in-Ok.ensures.source) c.in-Ok.ensures.complete) short c.walk.ensures.shown

pub returns-in-Ok-clause-size : goal.returns-in-Ok-clause-size
returns-in-Ok-clause-size c = (looked_for _ c.in-Ok.tree.pairs c.walk.new.visitor c.walk.ensures.shown).size ∙ c.in_ok-marks_of-in-Ok.ensures.size ∙ c.stops.ensures.value

pub returns-in-Err-TooLarge-clause-agree : goal.returns-in-Err-TooLarge-clause-agree
returns-in-Err-TooLarge-clause-agree c = λ short.
    IfOk-weaker c.marks_of-in-Err-TooLarge.result (λ marks. (t : ℕ) → is_marked marks.items t ≡ false → true ≡ false)
    (λ marks. AgreeUnmarked c.args.table.now c.args.patterns.now (rides_of c.args.scratch.now) marks.items)
    (λ marks all t clear. absurd (true≢false (all t clear))) c.marks_of-in-Err-TooLarge.ensures.same

use Rattle.std.proofs.Common.{◌≡◌, ◌∙◌, ◌++◌, ◌∷◌, List, [], ap, subst, sym}
use Rattle.std.specs.List.{AllZip}
use Rattle.answer_lines.specs.declared.reach.ReachedStop.{ReachedStop}
use Rattle.reaching.specs.declared.reached.Reached.{Reached}
use Rattle.feed_basis.proofs.LoopFacts.{zip_more}
use Rattle.told_reach.specs.Reaches.{TellsStop}
use Rattle.told_reach.proofs.telling.tell_stops.Goals as goal

pub loop-reached-preserved : goal.loop-reached-preserved
loop-reached-preserved c =
    let basis = c.args.basis.now in
    let line = c.tell_stop-stop.result in
    let added : c.extend_from_slice.new.self.items ≡ c.loop-reached.stops.items ++ line ∷ [] =
    c.in_ok-extend_from_slice.ensures.items ∙ ap (λ (more : List ReachedStop). c.loop-reached.stops.items ++ more) c.from_ref.ensures.value in
    subst (AllZip (TellsStop basis c.args.depart) _) (sym added)
    (zip_more (TellsStop basis c.args.depart) c.args.list.now c.loop-reached.stops.items c.loop-reached.reached-index c.reached-item.result line
    c.loop-reached-test.true c.loop-reached.invariant
    (subst (λ (x : Reached). TellsStop basis c.args.depart x line) c.reached-item.is c.tell_stop-stop.ensures))

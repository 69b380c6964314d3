use Rattle.std.proofs.Common.{◌≡◌, ◌∙◌, ◌++◌, ◌∷◌, List, [], ap, subst, sym}
use Rattle.std.specs.List.{AllZip}
use Rattle.answer_lines.specs.declared.timed.TimedStop.{TimedStop}
use Rattle.reaching.specs.declared.travel_time.TravelTimes.{TravelTimes}
use Rattle.feed_basis.proofs.LoopFacts.{zip_more}
use Rattle.told_reach.specs.Times.{TellsTimes}
use Rattle.told_reach.proofs.timing.tell_all.Goals as goal

pub loop-times-preserved : goal.loop-times-preserved
loop-times-preserved c =
    let basis = c.args.basis.now in
    let line = c.tell_times-stop.result in
    let added : c.extend_from_slice.new.self.items ≡ c.loop-times.stops.items ++ line ∷ [] =
    c.in_ok-extend_from_slice.ensures.items ∙ ap (λ (more : List TimedStop). c.loop-times.stops.items ++ more) c.from_ref.ensures.value in
    subst (AllZip (TellsTimes basis) _) (sym added)
    (zip_more (TellsTimes basis) c.args.list.now c.loop-times.stops.items c.loop-times.times-index c.times-item.result line
    c.loop-times-test.true c.loop-times.invariant
    (subst (λ (x : TravelTimes). TellsTimes basis x line) c.times-item.is c.tell_times-stop.ensures))

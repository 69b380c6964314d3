use Rattle.std.proofs.Common.{◌≡◌, ◌≤◌, ◌+◌, ◌++◌, drop, get_or, sym, ap, ◌∙◌, subst₂, arith}
use Rattle.std.proofs.lemmas.List.{drop_more}
use Rattle.timetable.specs.declared.parts.Leg.{Leg}
use Rattle.timetable.specs.Journeys.{arrives}
use Rattle.feed_basis.specs.Stages.{stages_of, walk_stage}
use Rattle.feed_basis.proofs.LoopFacts.{stages_more}
use Rattle.feed_basis.proofs.StageFacts.{arrives_by}
use Rattle.feed_basis.proofs.numbered.numbered_stages.Goals as goal

pub loop-leg-preserved : goal.loop-leg-preserved
loop-leg-preserved c =
    let table = c.args.table.now in
    let legs = c.args.legs.now in
    let i = c.loop-leg.leg-index in
    let no_leg : Leg = record { instance = 0; board = 0; alight = 0 } in
    let leg : Leg = get_or legs i no_leg in
    let whole = stages_of table c.args.from c.args.depart legs c.args.to in
    let walked = c.in_ok-push_walk.ensures ∙ ap (λ q. c.loop-leg.stages.items ++ walk_stage table c.loop-leg.stop c.loop-leg.at q) c.boarding_stop.ensures in
    let early : arrives table leg ≤ 3_455_998 = arrives_by table leg c.requires.valid in
    let at = c.arrival_of-at.ensures in (
      subst₂ (λ stop moment. c.push.new.self.items ++ stages_of table stop moment (drop (i + 1) legs) c.args.to ≡ whole) (sym c.alighting_stop-stop.ensures) (sym at)
          (stages_more table c.loop-leg.stages.items c.push_walk.new.stages.items c.push.new.self.items c.loop-leg.stop c.loop-leg.at c.args.to i legs leg whole
          (drop_more legs i no_leg c.loop-leg-test.true) walked c.in_ok-push.ensures.items c.loop-leg.invariant.0),
      omega (arith, early, at),
    )

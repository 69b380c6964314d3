use Rattle.std.proofs.Common.{Some, ◌≡◌, List, [], sym, ◌∙◌, subst, arith, ap}
use Rattle.std.proofs.lemmas.Option.{same_Some}
use Rattle.timetable.specs.Journeys.{foot}
use Rattle.least_walks.specs.Ways.{WayData, Gathers, WalksTo}
use Rattle.least_walks.proofs.GatherFacts.{gathers_best, gathers_idle}
use Rattle.least_walks.proofs.HopFacts.{walk_is, no_walk}
use Rattle.least_walks.proofs.walking.last_walk.Goals as goal
use Rattle.least_walks.proofs.walking.last_walk.Goals.{in-Some+in-Some-checked_sub+in_ok-offer, in-Some+in_default-checked_sub, in_default}

pub returns : goal.returns
returns c =
    let T = c.args.network.now in
    let p = c.args.from in
    let t = c.args.to in
    let by = c.args.by in
    let bound = c.args.bound in
    elim c.match-foot.branch [
      | in-Some+in-Some-checked_sub+in_ok-offer w ↦
          let start = c.new-ways.ensures in
          let s = w.in-Some-checked_sub.ensures in
          let way : WayData = w.on_foot.result in
          let feet : foot T p t ≡ Some w.in-Some.seconds = sym c.foot.ensures.value ∙ w.in-Some.is in
          let of : WalksTo T p t by way = record {
            seconds = w.in-Some.seconds;
            feet = feet;
            in_time = let m = ap (λ (v : WayData). v.moment) w.on_foot.ensures in omega (arith, s.0, s.1, m);
            walked = ap (λ (v : WayData). v.walked) w.on_foot.ensures;
            path = ap (λ (v : WayData). v.path) w.on_foot.ensures;
          } in
          rw w.ways-is (gathers_best (WalksTo T p t by) 0 bound [] w.offer.new.self way of (λ v k. walk_is T p t by w.in-Some.seconds feet way v of k)
          (subst (λ (ws : List WayData). Gathers (λ v. v ≡ way) 0 bound ws w.offer.new.self) start w.in_ok-offer.ensures))
      | in-Some+in_default-checked_sub w ↦
          let feet : foot T p t ≡ Some w.in-Some.seconds = sym c.foot.ensures.value ∙ w.in-Some.is in
          rw (w.ways-is, c.new-ways.ensures) (gathers_idle (WalksTo T p t by) 0 bound []
          (λ v k late short. absurd (w.in_default-checked_sub.ensures (let x = same_Some k.seconds w.in-Some.seconds (sym k.feet ∙ feet) in let m = k.in_time in omega (arith, x, m)))))
      | in_default w ↦
          rw (w.ways-is, c.new-ways.ensures) (gathers_idle (WalksTo T p t by) 0 bound []
          (λ v k late short. absurd (no_walk (foot T p t) k.seconds (sym c.foot.ensures.value ∙ w.in_default.is) k.feet)))
    ]

use Rattle.std.proofs.Common.{◌≡◌, ◌<◌, ◌≤◌, List, [], ◌∷◌, ◌++◌, sym, subst, arith}
use Rattle.least_walks.specs.Ways.{WayData, Gathers}
use Rattle.least_walks.proofs.GatherFacts.{gathers_new}
use Rattle.least_walks.proofs.ways.Ways.offer.Goals as goal

pub returns : goal.returns
returns c =
    let way : WayData = c.args.way in
    let late : c.args.since ≤ way.moment = (let f = c.if-moment-since.false in let e = c.moment.ensures in omega (arith, f, e)) in
    let short : way.walked < c.args.bound = (let f = c.if-bound-walked.false in let e = c.walked.ensures in omega (arith, f, e)) in
    let e : c.push.new.self.items ≡ c.args.self.now ++ way ∷ [] = cc (c.in_ok-push.ensures.items, c.self.view_is) in
    subst (λ (ws : List WayData). Gathers (λ w. w ≡ way) c.args.since c.args.bound c.args.self.now ws) (sym e)
    (gathers_new c.args.since c.args.bound c.args.self.now way late short)

use Rattle.std.proofs.Common.{ap, arith, refl}
use Rattle.least_walks.specs.Ways.{WayData}
use Rattle.least_walks.proofs.HopFacts.{hops_none, hops_pass, hops_offer, hops_all}
use Rattle.least_walks.proofs.walking.add_hops.Goals as goal

pub loop-way-init : goal.loop-way-init
loop-way-init c = hops_none c.args.seconds c.args.feet c.args.since c.args.bound c.args.row.now c.args.ways.now

pub loop-way-preserved-in_default : goal.loop-way-preserved-in_default
loop-way-preserved-in_default c =
    let y = c.way-item.result in
    hops_pass c.args.seconds c.args.feet c.args.since c.args.bound c.args.row.now c.args.ways.now c.loop-way.way-index y y (omega arith) c.way-item.is c.loop-way.ways
    (λ w h short.
    let a = h.moment in
    let e = ap (λ (v : WayData). v.moment) h.goes_on in
    let m = c.moment.ensures in
    c.in_default.ensures (omega (arith, a, e, m)))
    c.loop-way.invariant

pub loop-way-preserved-in_default-checked_add : goal.loop-way-preserved-in_default-checked_add
loop-way-preserved-in_default-checked_add c =
    let y = c.way-item.result in
    hops_pass c.args.seconds c.args.feet c.args.since c.args.bound c.args.row.now c.args.ways.now c.loop-way.way-index y y (omega arith) c.way-item.is c.loop-way.ways
    (λ w h short.
    let a = h.walked in
    let e = ap (λ (v : WayData). v.walked) h.goes_on in
    let m = c.walked.ensures in
    let f = c.ranges.bound.fits in
    c.in_default-checked_add.ensures (omega (arith, a, e, m, f, short)))
    c.loop-way.invariant

pub loop-way-preserved : goal.loop-way-preserved
loop-way-preserved c =
    let y = c.way-item.result in
    hops_offer c.args.seconds c.args.feet c.args.since c.args.bound c.args.row.now c.args.ways.now c.loop-way.way-index y y (omega arith) c.way-item.is c.loop-way.ways c.offer.new.self
    c.after_hop.result
    (record {
      rest = y;
      goes_on = refl;
      moment = let s = c.in-Some.ensures in let ah = ap (λ (v : WayData). v.moment) c.after_hop.ensures in let m = c.moment.ensures in omega (arith, s.0, s.1, ah, m);
      walked = let s = c.in-Some-checked_add.ensures in let ah = ap (λ (v : WayData). v.walked) c.after_hop.ensures in let m = c.walked.ensures in omega (arith, s.1, ah, m);
      path = ap (λ (v : WayData). v.path) c.after_hop.ensures;
    })
    c.in_ok-offer.ensures
    c.loop-way.invariant

pub returns : goal.returns
returns c = hops_all c.args.seconds c.args.feet c.args.since c.args.bound c.args.row.now c.args.ways.now c.loop-way.ways c.loop-way.way-index (omega arith) c.loop-way.invariant

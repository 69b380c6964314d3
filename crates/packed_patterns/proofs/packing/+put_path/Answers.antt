use Rattle.std.proofs.Common.{◌≡◌, ◌<◌, ◌-◌, suc, length, arith, lit<, sym, ◌∙◌, ap, length-append}
use Rattle.packed_patterns.specs.Patterns.{path_to}
use Rattle.packed_patterns.proofs.PackFacts.{no_rides, no_beginning, one_ride_more, path_short}
use Rattle.packed_patterns.proofs.packing.+put_path.Goals as goal

pub returns-then-most-eq0 : goal.returns-then-most-eq0
returns-then-most-eq0 t c = no_rides c.args.beginnings.now c.args.most c.args.number c.args.path.now.items c.if-most-eq0.true

pub returns-in_default : goal.returns-in_default
returns-in_default t c =
    no_beginning c.args.beginnings.now c.args.most c.args.number c.args.path.now.items (sym c.beginning_of.ensures ∙ c.in_default.is)

pub push-requires : goal.push-requires
push-requires t c =
    let less = c.args.most - 1 in
    let before = c.in-Some.beginning.before in
    let short = path_short less c.args.beginnings.now before in
    let sum = length-append c.args.path.now.items (path_to less c.args.beginnings.now before) in
    let few : length c.put_path.new.path.items < 8 = omega (arith, short, sum, ap length c.put_path.ensures, c.requires, c.if-most-eq0.false) in
    (lit< tt, few)

pub returns : goal.returns
returns t c =
    let less = c.args.most - 1 in
    let more : c.args.most ≡ suc less = omega (arith, c.if-most-eq0.false) in
    one_ride_more c.args.beginnings.now c.args.most less c.args.number c.in-Some.beginning c.args.path.now.items c.put_path.new.path.items c.push.new.self.items
    more (sym c.beginning_of.ensures ∙ c.in-Some.is) c.put_path.ensures c.push.ensures.items

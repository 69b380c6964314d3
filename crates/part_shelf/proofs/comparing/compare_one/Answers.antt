use Rattle.std.proofs.Common.{rules, ◌≡◌, None, Some, false, get_or, sym, ◌∙◌}
use Rattle.std.proofs.lemmas.Bool.{false≢true}
use Rattle.part_shelf.proofs.ComparingFacts.{compared, differs, one_agrees}
use Rattle.part_shelf.proofs.comparing.compare_one.Goals as goal

pub returns-in-Err-clause-agree : goal.returns-in-Err-clause-agree
returns-in-Err-clause-agree g c = λ form states all tree honest here are spots own.
    let there : get_or c.args.spots.now c.args.entry.now.source None ≡ Some c.in-Some-Some.spot = search rules in
    let it = compared form states c.args.spots.now all (g.D.Disk.state c.args.disk.now).read c.args.entry.now tree c.in-Some-Some.spot spots own there in
    c.in-Err.ensures.same form states tree it.other honest here are it.there.0 it.there.1 own.there

pub returns-then-same-clause-agree : goal.returns-then-same-clause-agree
returns-then-same-clause-agree g c = λ form states all tree honest here are spots own.
    let there : get_or c.args.spots.now c.args.entry.now.source None ≡ Some c.in-Some-Some.spot = search rules in
    let it = compared form states c.args.spots.now all (g.D.Disk.state c.args.disk.now).read c.args.entry.now tree c.in-Some-Some.spot spots own there in
    one_agrees all tree it.other it.is ((c.in-Ok.ensures.same form states tree it.other honest here are it.there.0 it.there.1 own.there).0 c.if-same.true)

pub returns-else-same-clause-agree : goal.returns-else-same-clause-agree
returns-else-same-clause-agree g c = λ form states all tree honest here are spots own.
    let there : get_or c.args.spots.now c.args.entry.now.source None ≡ Some c.in-Some-Some.spot = search rules in
    let it = compared form states c.args.spots.now all (g.D.Disk.state c.args.disk.now).read c.args.entry.now tree c.in-Some-Some.spot spots own there in
    let told = c.in-Ok.ensures.same form states tree it.other honest here are it.there.0 it.there.1 own.there in
    let isnt : c.in-Ok.same ≡ false = search rules in
    differs form states all tree it.other c.args.entry.now.source c.in-Some-Some.spot it.there it.is (sym own.source) (λ same. false≢true (sym isnt ∙ told.1 same))

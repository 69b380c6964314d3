use Rattle.std.proofs.Common.{◌≡◌, ◌∙◌, ◌+◌, ◌++◌, ℕ, List, Option, add-one, ap, get_or, subst, take}
use Rattle.std.proofs.lemmas.List.{get_or_default}
use Rattle.reaching.specs.declared.travel_time.TravelTimes.{TravelTimes}
use Rattle.told_matrix.specs.Lines.{lines_from, lines_of}
use Rattle.told_matrix.specs.Writers.{Adds}
use Rattle.told_matrix.specs.declared.place.Place.{Place}
use Rattle.told_matrix.proofs.LineFacts.{adds_more, all_more}
use Rattle.told_matrix.proofs.csv_lines.put_all.Goals as goal

pub loop-number-preserved : goal.loop-number-preserved
loop-number-preserved g c =
    let origins = c.args.origins.now in
    let goals = c.args.goals.now in
    let rows = c.args.rows.now in
    let n = c.loop-number.number in
    let from : Place = get_or origins n c.index-origins-number.result in
    let is_from : from ≡ get_or origins n from = get_or_default origins n c.index-origins-number.result from c.loop-number-test.true in
    let row = c.index-rows-number.result in
    let before = lines_of (take n origins) goals (take n rows) in
    let is : lines_of (take (n + 1) origins) goals (take (n + 1) rows) ≡ before ++ lines_from from.id.now goals row.items =
    ap (λ (m : ℕ). lines_of (take m origins) goals (take m rows)) (add-one n)
    ∙ all_more origins goals rows n from row c.requires.count c.loop-number-test.true is_from c.index-rows-number.is in
    let put = subst (λ (cells : List (Option TravelTimes)). Adds g.W.Write.contents (lines_from from.id.now goals cells) c.loop-number.out c.put_lines.new.out)
    c.deref.ensures.value c.in_ok-put_lines.ensures in
    adds_more g.W.Write.contents before (lines_from from.id.now goals row.items) (lines_of (take (n + 1) origins) goals (take (n + 1) rows))
    c.args.out.now c.loop-number.out c.put_lines.new.out is c.loop-number.invariant put

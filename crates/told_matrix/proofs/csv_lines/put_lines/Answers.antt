use Rattle.std.proofs.Common.{◌≡◌, ◌∙◌, ◌+◌, ◌++◌, ℕ, add-one, ap, get_or, take}
use Rattle.std.proofs.lemmas.List.{get_or_default}
use Rattle.told_matrix.specs.Lines.{line_text, lines_from}
use Rattle.told_matrix.specs.declared.place.Place.{Place}
use Rattle.told_matrix.proofs.LineFacts.{adds_more, lines_more}
use Rattle.told_matrix.proofs.csv_lines.put_lines.Goals as goal

pub loop-number-preserved : goal.loop-number-preserved
loop-number-preserved g c =
    let from = c.args.from.now in
    let goals = c.args.goals.now in
    let row = c.args.row.now in
    let n = c.loop-number.number in
    let to : Place = get_or goals n c.index-goals-number.result in
    let is_to : to ≡ get_or goals n to = get_or_default goals n c.index-goals-number.result to c.loop-number-test.true in
    let cell = c.index-row-number.result in
    let before = lines_from from (take n goals) (take n row) in
    let is : lines_from from (take (n + 1) goals) (take (n + 1) row) ≡ before ++ line_text from to.id.now cell =
    ap (λ (m : ℕ). lines_from from (take m goals) (take m row)) (add-one n)
    ∙ lines_more from goals row n to cell c.requires.count c.loop-number-test.true is_to c.index-row-number.is in
    adds_more g.W.Write.contents before (line_text from to.id.now cell) (lines_from from (take (n + 1) goals) (take (n + 1) row)) c.args.out.now
    c.loop-number.out c.put_line.new.out is c.loop-number.invariant c.in_ok-put_line.ensures

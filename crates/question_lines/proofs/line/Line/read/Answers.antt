use Rattle.std.proofs.Common.{◌≡◌, ◌==◌, IfSome, length, take, length-take, not, sym, subst, ap, ◌∙◌, arith}
use Rattle.question_lines.specs.Lines.{LosesLine, ReadsLine}
use Rattle.question_lines.specs.Reading.{IsWithinLine}
use Rattle.question_lines.proofs.LineFacts.{input_ends, line_ends, line_goes}
use Rattle.question_lines.proofs.line.Line.read.Goals as goal

pub read_part-requires : goal.read_part-requires
read_part-requires g c =
    let bytes = c.self-in-parts.inside.bytes in
    let long = bytes.ok.0 in
    let kept : length bytes.items ≡ length (take 65_538 c.parts.invariant.bytes) = ap length (c.self-in-parts.view_is ∙ c.parts.invariant.kept_is) in
    record { few = omega (arith, long, kept, length-take 65_538 c.parts.invariant.bytes) }

pub returns-in-Line : goal.returns-in-Line
returns-in-Line g c =
    let old = g.R.Read.remaining c.args.input.now in
    let mid = g.R.Read.remaining c.parts.input in
    let new = g.R.Read.remaining c.read_part.new.input in
    let so_far = subst (IsWithinLine old mid) (sym c.self-in-parts.view_is) c.parts.invariant in
    subst (λ l. IfSome old (λ input. LosesLine input new l)) (sym c.drop_return.ensures)
    (line_ends old mid new c.self-in-parts.inside.bytes.items c.read_part.new.kept.items c.in_ok-read_part.field-0 so_far c.in_ok-read_part.ensures.part c.in-Line.is)

pub returns-in-Rest : goal.returns-in-Rest
returns-in-Rest g c =
    let old = g.R.Read.remaining c.args.input.now in
    let mid = g.R.Read.remaining c.parts.input in
    let new = g.R.Read.remaining c.read_part.new.input in
    let kept = c.read_part.new.kept in
    let so_far = subst (IsWithinLine old mid) (sym c.self-in-parts.view_is) c.parts.invariant in
    let empty : c.is_empty.result ≡ (length kept.items == 0) = c.is_empty.ensures ∙ ap (λ n. n == 0) kept.ok.0 in
    subst (λ b. ReadsLine old new kept.items (not b)) (sym empty)
    (input_ends old mid new c.self-in-parts.inside.bytes.items kept.items c.in_ok-read_part.field-0 so_far c.in_ok-read_part.ensures.part c.in-Rest.is)

pub parts-preserved : goal.parts-preserved
parts-preserved g c =
    let old = g.R.Read.remaining c.args.input.now in
    let mid = g.R.Read.remaining c.parts.input in
    let new = g.R.Read.remaining c.read_part.new.input in
    let so_far = subst (IsWithinLine old mid) (sym c.self-in-parts.view_is) c.parts.invariant in
    line_goes old mid new c.self-in-parts.inside.bytes.items c.read_part.new.kept.items c.in_ok-read_part.field-0 so_far c.in_ok-read_part.ensures.part c.in-More.is

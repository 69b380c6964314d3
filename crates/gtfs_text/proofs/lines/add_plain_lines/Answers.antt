use Rattle.std.proofs.Common.{◌≡◌, ◌∙◌, ◌<◌, List, ℕ, Bor, length, length-append, sym, ap, arith, false, IsUtf8}
use Rattle.std.specs.Prelude.{nat_eq}
use Rattle.std.proofs.lemmas.Bool.{eqb-false, eqb-true}
use Rattle.gtfs_text.proofs.LineFacts.{rest_shorter}
use Rattle.gtfs_text.proofs.LinePlaces.{here_ends, line_more, line_without, no_lines}
use Rattle.gtfs_text.proofs.TextLines.{front_is_text, read_is_text, rest_is_text}
use Rattle.gtfs_text.specs.Lines.{without_line_feed}
use Rattle.gtfs_text.proofs.lines.add_plain_lines.Goals as goal

not_none : (n : ℕ) → nat_eq n 0 ≡ false → 0 < n
not_none n e = let some : n ≡ 0 → ⊥ = eqb-false n 0 e in omega arith

pub lines-init : goal.lines-init
lines-init c = record {
  found = rw c.requires.empty (no_lines c.args.text.now c.args.file.now c.requires.no_mark c.requires.end);
  text = λ good. read_is_text c.from_utf8.result c.args.text.now (λ (s : Bor (List ℕ)). s.now ≡ c.args.text.now) _ c.from_utf8.ensures.cases (sym c.is_ok-is_text.ensures.value ∙ good);
}

pub is_text_line-requires : goal.is_text_line-requires
is_text_line-requires c good =
    let front = rw c.without_line_feed-here.ensures at c.in-Some.ensures.front in
    front_is_text c.lines.rest.now c.in-Some.line.now c.in-Some.after.now front (c.lines.invariant.text good)

pub lines-preserved-in_ok-push : goal.lines-preserved-in_ok-push
lines-preserved-in_ok-push c =
    let rest = c.lines.rest.now in
    let line = c.in-Some.line.now in
    let left = not_none (length rest) (sym c.is_empty.ensures ∙ c.lines-test.true) in
    let some = not_none (length line) (sym c.is_empty-in-lines.ensures ∙ c.if-not-is_empty.true) in
    let front = rw c.without_line_feed-here.ensures at c.in-Some.ensures.front in
    let utf8 : IsUtf8 line = c.is_text_line.ensures.0 c.if-not-is_text_line.false in
    let start = rw c.without_line_feed-here.ensures at c.in-Some-place_for.ensures.start in
    record {
      found = rw c.in_ok-push.ensures.items (line_more c.args.text.now c.args.file.now rest line c.in-Some.after.now c.lines.lines.items c.in-Some-place_for.place
          c.lines.invariant.found left c.in-Some.ensures.plain front some utf8 start c.in-Some-place_for.ensures.size);
      text = λ good. rest_is_text rest line c.in-Some.after.now front (c.lines.invariant.text good);
    }

pub lines-preserved : goal.lines-preserved
lines-preserved c =
    let rest = c.lines.rest.now in
    let line = c.in-Some.line.now in
    let left = not_none (length rest) (sym c.is_empty.ensures ∙ c.lines-test.true) in
    let none = eqb-true (length line) 0 (sym c.is_empty-in-lines.ensures ∙ c.if-not-is_empty.false) in
    let front = rw c.without_line_feed-here.ensures at c.in-Some.ensures.front in
    record {
      found = line_without c.args.text.now c.args.file.now rest line c.in-Some.after.now c.lines.lines.items c.lines.invariant.found left c.in-Some.ensures.plain front none;
      text = λ good. rest_is_text rest line c.in-Some.after.now front (c.lines.invariant.text good);
    }

pub overflow_sub-file : goal.overflow_sub-file
overflow_sub-file c =
    let ends = here_ends c.args.file.now c.lines.rest.now c.lines.invariant.found.end in
    rw c.without_line_feed-here.ensures (omega (arith, ap (length {A = ℕ}) ends.whole, length-append ends.front (without_line_feed c.lines.rest.now)))

pub lines-smaller-in_ok-push : goal.lines-smaller-in_ok-push
lines-smaller-in_ok-push c =
    rest_shorter c.lines.rest.now c.in-Some.line.now c.in-Some.after.now (rw c.without_line_feed-here.ensures at c.in-Some.ensures.front)
    (not_none (length c.lines.rest.now) (sym c.is_empty.ensures ∙ c.lines-test.true))

pub lines-smaller : goal.lines-smaller
lines-smaller c =
    rest_shorter c.lines.rest.now c.in-Some.line.now c.in-Some.after.now (rw c.without_line_feed-here.ensures at c.in-Some.ensures.front)
    (not_none (length c.lines.rest.now) (sym c.is_empty.ensures ∙ c.lines-test.true))

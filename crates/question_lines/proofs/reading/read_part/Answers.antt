use Rattle.std.proofs.Common.{◌≡◌, ◌+◌, ◌≤◌, ◌==◌, ℕ, [], ◌++◌, take, length, false, sym, ap, subst, arith, append-nil}
use Rattle.std.proofs.lemmas.List.Elements.{All-nil}
use Rattle.std.specs.Io.KnownBytes.{Consumes}
use Rattle.std.specs.Io.BufRead.{FillKeeps, DropsConsumable}
use Rattle.std.proofs.KnownBytes.{Consumes-nil, Consumes-kept}
use Rattle.std.proofs.BufReadLemmas.{Consumes_shown}
use Rattle.question_lines.specs.Reading.{GoesOn}
use Rattle.question_lines.proofs.Keeping.{before_feed, kept_same, through_feed}
use Rattle.question_lines.proofs.reading.read_part.Goals.{then-len-available, else-len-available+then-len-eq0, else-len-available+else-len-eq0}
use Rattle.question_lines.proofs.reading.read_part.Goals as goal

pub returns-then-eq-clause-part : goal.returns-then-eq-clause-part
returns-then-eq-clause-part g c =
    let kept = c.args.kept.now.items in
    record {
      bytes = [];
      plain = All-nil (λ (b : ℕ). (b == 10) ≡ false);
      lost = Consumes-kept _ _ _ [] (Consumes-nil _) c.fill_buf.follows.holds-at-none.0;
      kept = kept_same kept (subst (λ n. n ≤ 65_538) c.args.kept.now.ok.0 c.requires.few);
      ended = λ is. absurd cc;
    }

pub returns-clause-part : goal.returns-clause-part
returns-clause-part g c =
    let old = g.R.Read.remaining c.args.input.now in
    let new = g.R.Read.remaining c.consume.new.self in
    let before = c.args.kept.now.items in
    let shown = c.in-Ok.available.now in
    let len : ℕ = c.line_len-len.result in
    let within : len ≤ length shown = c.line_len-len.ensures.bound in
    let rested = c.fill_buf.follows.lender-at-none in
    let filled = subst (FillKeeps _ (g.R.Read.remaining rested) (g.R.BufRead.consumable_len rested)) c.in-Ok.is c.fill_buf.follows.holds-at-none in
    let drops = c.consume.ensures.bytes in
    let moved = λ (n : ℕ) (is : c.if-len-available.part.1 ≡ n) (fits : n ≤ length shown).
    Consumes_shown old (g.R.Read.remaining rested) new (g.R.BufRead.consumable_len rested) shown n fits c.in-Ok.ensures.front c.in-Ok.ensures.end filled.0 filled.1
    (subst (λ m. DropsConsumable (g.R.Read.remaining rested) new (g.R.BufRead.consumable_len rested) m) is drops) in
    let plain = before_feed shown len c.line_len-len.ensures.len in
    let kept : c.keep.new.kept.items ≡ take 65_538 (before ++ take len shown) = c.in_ok-keep.ensures.items in
    elim c.if-len-available.branch [
      | then-len-available w ↦
          let is = w.part-is in
          subst (GoesOn old new before c.keep.new.kept.items) (sym (ap (λ p. p.0) is))
          (record {
            bytes = take len shown;
            plain = plain;
            lost = subst (Consumes old new) (through_feed shown len c.line_len-len.ensures.len w.if-len-available.true)
                (moved (len + 1) (ap (λ p. p.1) is) (omega (arith, w.if-len-available.true))).0;
            kept = kept;
            ended = λ rest. absurd cc;
          })
      | else-len-available+then-len-eq0 w ↦
          let is = w.part-is in
          let none : len ≡ 0 = w.if-len-eq0.true in
          let empty : take len shown ≡ [] = ap (λ n. take n shown) none in
          let ends = moved 0 (ap (λ p. p.1) is) (omega arith) in
          subst (GoesOn old new before c.keep.new.kept.items) (sym (ap (λ p. p.0) is))
          (record {
            bytes = take len shown;
            plain = plain;
            lost = subst (Consumes old new) (sym (ap (λ l. l ++ []) empty)) ends.0;
            kept = kept;
            ended = λ rest. (empty, ends.1 (omega (arith, w.if-len-available.false, none)));
          })
      | else-len-available+else-len-eq0 w ↦
          let is = w.part-is in
          subst (GoesOn old new before c.keep.new.kept.items) (sym (ap (λ p. p.0) is))
          (record {
            bytes = take len shown;
            plain = plain;
            lost = subst (Consumes old new) (sym (append-nil (take len shown))) (moved len (ap (λ p. p.1) is) within).0;
            kept = kept;
            ended = λ rest. absurd cc;
          })
    ]

use Rattle.std.proofs.Common.{◌≡◌, ◌∙◌, sym, ap, arith, ℕ, ◌<◌, inr, List, [], ◌∷◌, ◌++◌, length, drop, get_or}
use Rattle.std.proofs.lemmas.List.{take-append-drop}
use Rattle.gtfs_text.specs.Lines.{IsFrontLine}
use Rattle.gtfs_text.proofs.lines.front_line.Goals as goal

-- a line before a carriage return and a line feed
before_feed : (text line after : List ℕ) → text ≡ line ++ after → 1 < length after → get_or after 0 0 ≡ 13 → get_or after 1 0 ≡ 10
    → IsFrontLine text line (drop 1 after)
before_feed text line [] whole more return feed = absurd (omega arith)
before_feed text line (x ∷ []) whole more return feed = absurd (omega arith)
before_feed text line (x ∷ y ∷ after) whole more return feed =
    inr (after, ap (λ (z : ℕ). z ∷ after) feed, inr (whole ∙ ap (λ (z : ℕ). line ++ z ∷ y ∷ after) return))

pub returns-in-Some-eq13-Some-eq10-clause-front : goal.returns-in-Some-eq13-Some-eq10-clause-front
returns-in-Some-eq13-Some-eq10-clause-front c =
    let text = c.args.text.now in
    let line = c.split_at-2.result.0.now in
    let after = c.split_at-2.result.1.now in
    let whole : text ≡ line ++ after = rw (c.split_at-2.ensures.front, c.split_at-2.ensures.back) (sym (take-append-drop c.plain_length.result text)) in
    let more : 1 < length after = c.in-Some-eq13-Some-eq10.ensures'.lookup.3.0 in
    let return : get_or after 0 0 ≡ 13 = omega (arith, c.in-Some-eq13-Some-eq10.ensures.item.3.1 0) in
    let feed : get_or after 1 0 ≡ 10 = omega (arith, c.in-Some-eq13-Some-eq10.ensures'.lookup.3.1 0) in
    rw c.split_at-in-Some-eq13-Some-eq10.ensures.back (before_feed text line after whole more return feed)

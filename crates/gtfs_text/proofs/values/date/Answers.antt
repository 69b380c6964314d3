use Rattle.std.proofs.Common.{◌∙◌, ap, take, drop, refl, ℕ}
use Rattle.gtfs_text.proofs.DigitFacts.{take_some, drop_some, drop_twice}
use Rattle.gtfs_text.proofs.values.date.Goals as goal

pub returns : goal.returns
returns c =
    let text = c.as_bytes-bytes.ensures.value in
    let year = c.split_at.ensures.front ∙ ap (λ (n : ℕ). take n c.as_bytes-bytes.result.now) c.min.ensures ∙ take_some 4 c.as_bytes-bytes.result.now ∙ ap (take 4) text in
    let rest = c.split_at.ensures.back ∙ ap (λ (n : ℕ). drop n c.as_bytes-bytes.result.now) c.min.ensures ∙ drop_some 4 c.as_bytes-bytes.result.now ∙ ap (drop 4) text in
    let month = c.split_at-2.ensures.front ∙ ap (λ (n : ℕ). take n c.split_at.result.1.now) c.min-2.ensures ∙ take_some 2 c.split_at.result.1.now ∙ ap (take 2) rest in
    let day = c.split_at-2.ensures.back ∙ ap (λ (n : ℕ). drop n c.split_at.result.1.now) c.min-2.ensures ∙ drop_some 2 c.split_at.result.1.now ∙ ap (drop 2) rest ∙ drop_twice c.args.text.now in
    c.day.ensures ∙ rw (year, month, day) refl

use Rattle.std.proofs.Common.{◌∙◌, ap, take, drop, length, ◌-◌, refl, ℕ}
use Rattle.std.proofs.lemmas.List.{drop-drop}
use Rattle.gtfs_text.proofs.DigitFacts.{take_some, drop_some}
use Rattle.gtfs_text.proofs.values.any_time.Goals as goal

pub returns : goal.returns
returns c =
    let text = c.args.text.now in
    let after = c.split_at.result.1.now in
    let hours = c.split_at.ensures.front ∙ ap (λ (n : ℕ). take n text) c.saturating_sub.ensures in
    let rest = c.split_at.ensures.back ∙ ap (λ (n : ℕ). drop n text) c.saturating_sub.ensures in
    let minutes = c.split_at-2.ensures.front ∙ ap (λ (n : ℕ). take n after) c.min.ensures ∙ take_some 3 after ∙ ap (take 3) rest in
    let seconds = c.split_at-2.ensures.back ∙ ap (λ (n : ℕ). drop n after) c.min.ensures ∙ drop_some 3 after ∙ ap (drop 3) rest
    ∙ drop-drop 3 (length c.args.text.now - 6) c.args.text.now in
    c.seconds_of.ensures ∙ rw (hours, minutes, seconds) refl

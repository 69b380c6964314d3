use Rattle.std.proofs.Common.{◌-◌, ◌≤◌, ◌∙◌, min, length, ap, subst}
use Rattle.question_lines.proofs.Keeping.{kept_room}
use Rattle.question_lines.proofs.reading.keep.Goals as goal

pub returns-clause-items : goal.returns-clause-items
returns-clause-items c =
    let kept = c.args.kept.now in
    let long = kept.ok.0 in
    c.in_ok-extend_from_slice.ensures.items
    ∙ kept_room 65_538 kept.items c.args.bytes.now c.min-room.result (subst (λ n. n ≤ 65_538) long c.requires.few)
    (c.min-room.ensures ∙ ap (λ n. min (65_538 - n) (length c.args.bytes.now)) (c.len.ensures ∙ long))

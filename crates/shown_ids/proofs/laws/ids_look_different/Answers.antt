use Rattle.std.proofs.Common.{sym, ap, ◌∙◌}
use Rattle.std.proofs.lemmas.Str.{encodes_same, encodes-chars}
use Rattle.std.specs.List.{flat_map}
use Rattle.std.specs.Str.{chars, encode_utf8_all}
use Rattle.shown_ids.specs.Shown.{shown, shown_char}
use Rattle.shown_ids.proofs.ShownFacts.{same_shown}
use Rattle.shown_ids.proofs.laws.ids_look_different.Goals as goal

pub returns : goal.returns
unfolding shown
returns c = λ e.
    let one = c.args.one.now in
    let other = c.args.other.now in
    sym (encodes-chars one c.utf8.one)
    ∙ (ap encode_utf8_all (same_shown (chars one) (chars other) (encodes_same (flat_map shown_char (chars one)) (flat_map shown_char (chars other)) e))
    ∙ encodes-chars other c.utf8.other)

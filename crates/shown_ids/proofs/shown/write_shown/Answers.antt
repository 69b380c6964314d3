use Rattle.std.proofs.Common.{◌++◌, ◌∷◌, [], ap, sym, refl, ◌∙◌, append-nil, append_assoc}
use Rattle.std.proofs.lemmas.Grind.{put_two}
use Rattle.std.proofs.lemmas.Str.{encodes-append}
use Rattle.std.specs.Char.Iter.{escape_rest}
use Rattle.std.specs.Str.{encode_utf8_all}
use Rattle.shown_ids.proofs.shown.write_shown.Goals as goal

pub loop-part-preserved : goal.loop-part-preserved
loop-part-preserved g c =
    let yielded = c.loop-part.yielded in
    let part = c.in-Some.part in
    let before = c.loop-part.invariant in
    record {
      rest = append_assoc yielded (part ∷ []) (escape_rest c.next.new.self) ∙ (ap (λ l. yielded ++ l) (sym c.in-Some.ensures.steps.1.0) ∙ before.rest);
      written = λ plain.
          let so_far = before.written plain in
          put_two _ _ _ _ _ _ _ so_far (c.in_ok-write_char.ensures.writes so_far.plain refl)
          (ap (λ l. encode_utf8_all yielded ++ l) (sym (append-nil _)) ∙ sym (encodes-append yielded (part ∷ [])));
    }

use Rattle.std.proofs.Common.{◌≡◌, ◌++◌, ◌∷◌, [], ap, sym, refl, ◌∙◌, append-nil, append_assoc, rules}
use Rattle.std.proofs.Output.{has_written_of_eq}
use Rattle.std.proofs.lemmas.Grind.{flat_map-append, put_two}
use Rattle.std.proofs.lemmas.List.{nil_from_length}
use Rattle.std.proofs.lemmas.Str.{encodes-append, chars_from_encodes}
use Rattle.std.specs.List.{flat_map}
use Rattle.std.specs.Str.{chars, encode_utf8_all}
use Rattle.std.specs.Str.Iter.{chars_rest}
use Rattle.shown_ids.specs.Shown.{shown, shown_char}
use Rattle.shown_ids.proofs.shown.ShownDisplay.fmt.Goals as goal

pub loop-character-preserved : goal.loop-character-preserved
loop-character-preserved g c =
    let yielded = c.loop-character.yielded in
    let character = c.in-Some.character in
    let before = c.loop-character.invariant in
    let rest = chars_rest c.next.new.self in
    record {
      rest =
          ap (λ l. l ++ rest) (encodes-append yielded (character ∷ []) ∙ ap (λ l. encode_utf8_all yielded ++ l) (append-nil _))
          ∙ (append_assoc (encode_utf8_all yielded) _ rest ∙ (ap (λ l. encode_utf8_all yielded ++ l) (sym c.in-Some.ensures.steps.0) ∙ before.rest));
      written = λ plain.
          let so_far = before.written plain in
          put_two _ _ _ _ _ _ _ so_far (c.in_ok-write_shown.ensures so_far.plain refl)
          (sym (encodes-append (flat_map shown_char yielded) (shown_char character))
          ∙ ap encode_utf8_all (ap (λ l. flat_map shown_char yielded ++ l) (sym (append-nil (shown_char character))) ∙ sym (flat_map-append shown_char yielded (character ∷ []))));
    }

pub returns-clause-writes : goal.returns-clause-writes
unfolding shown
returns-clause-writes g c = λ plain ok.
    let yielded = c.loop-character.yielded in
    let id = c.args.self.now.0.now in
    let over : chars_rest c.loop-character.character-iterator ≡ [] = nil_from_length _ c.in-None.ensures.steps.0.0 in
    let all : encode_utf8_all yielded ≡ id = sym (append-nil _) ∙ (ap (λ l. encode_utf8_all yielded ++ l) (sym over) ∙ c.loop-character.invariant.rest) in
    let whole : yielded ≡ chars id = search (rules, chars_from_encodes) in
    has_written_of_eq _ _ _ _ _ (ap (λ l. encode_utf8_all (flat_map shown_char l)) whole) (c.loop-character.invariant.written plain)

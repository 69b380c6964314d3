use Rattle.std.proofs.Common.{◌≡◌, ◌++◌}
use Rattle.std.specs.Fmt.{HasWritten, IsPlainFormatter}
use Rattle.std.specs.List.{flat_map}
use Rattle.std.specs.Str.{encode_utf8_all}
use Rattle.std.specs.Str.Iter.{chars_rest}
use Rattle.shown_ids.specs.Shown.{shown_char}
use Rattle.shown_ids.proofs.shown.ShownDisplay.fmt.Given as goal

-- the characters so far and those to come are the id; those so far are written
abbrev pub invariant-loop-character : goal.invariant-loop-character
invariant-loop-character g l = record {
  rest : encode_utf8_all l.yielded ++ chars_rest l.character-iterator ≡ l.self.0.now;
  written : IsPlainFormatter l.initial.f → HasWritten g.W.Write.write_str_gives l.initial.f (encode_utf8_all (flat_map shown_char l.yielded)) l.f;
}

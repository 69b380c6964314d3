use Rattle.std.proofs.Common.{◌≡◌, true, length, IsUtf8}
use Rattle.gtfs_text.specs.Lines.{AreLines}
use Rattle.gtfs_text.proofs.lines.add_plain_lines.Given as goal

abbrev pub invariant-lines : goal.invariant-lines
invariant-lines l = record {
  found : AreLines l.text l.file l.lines.items l.rest;
  text : l.is_text ≡ true → IsUtf8 l.rest;
}

abbrev pub decreases-lines : goal.decreases-lines
decreases-lines l = length l.rest

use Rattle.std.proofs.Common.{◌≡◌, ◌-◌, None}
use Rattle.timetable.specs.Widths.{byte_count}
use Rattle.tree_codec.specs.Reading.{ends_at}
use Rattle.tree_codec.proofs.Loops.{with_ends}
use Rattle.tree_codec.proofs.decoding.read_ends.Given as goal

abbrev pub invariant-loop : goal.invariant-loop
invariant-loop g l = with_ends l.ends.items (ends_at (byte_count l.form.width) l.form.stops (l.count - l.counter) l.last l.input.bytes.now) ≡ ends_at (byte_count l.form.width) l.form.stops l.count None l.fn.input.bytes.now

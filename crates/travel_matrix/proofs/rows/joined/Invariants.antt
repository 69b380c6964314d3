use Rattle.std.proofs.Common.{◌++◌, ◌≡◌, List, length}
use Rattle.std.specs.Vec.Iter.{into_iter_items, into_iter_len}
use Rattle.travel_matrix.specs.Parts.{AreJoined}
use Rattle.travel_matrix.proofs.rows.joined.Given as goal

abbrev pub invariant-loop-part : goal.invariant-loop-part
invariant-loop-part l = record {
  count : into_iter_len l.part-iterator ≡ length (into_iter_items l.part-iterator);
  rows : (rest : List _) → AreJoined (into_iter_items l.part-iterator) rest → AreJoined (into_iter_items l.initial.part-iterator) (l.rows.items ++ rest);
}

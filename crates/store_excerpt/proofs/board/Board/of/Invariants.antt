use Rattle.std.proofs.Common.{◌≡◌, ◌++◌, ℕ, List, length, All}
use Rattle.std.specs.Vec.Iter.{into_iter_items, into_iter_len}
use Rattle.section_store.specs.Sections.{Form, sources}
use Rattle.section_store.specs.Lasting.{IsExact}
use Rattle.store_excerpt.specs.Board.{AreOf, IsBoardOf, AreExact, AreWholeAmong, IsWholeAmong}
use Rattle.store_excerpt.proofs.board.Board.of.Given as goal

abbrev pub invariant-loop-tree : goal.invariant-loop-tree
invariant-loop-tree l = record {
  rest : l.yielded ++ into_iter_items l.tree-iterator ≡ into_iter_items l.initial.tree-iterator;
  count : into_iter_len l.tree-iterator ≡ length (into_iter_items l.tree-iterator);
  long : length l.board ≡ l.stops;
  shows : IsBoardOf l.stops (sources l.yielded) l.board;
  same : AreOf l.yielded l.board;
  right : (form : Form) → All (IsExact form) l.yielded → AreExact form l.board;
  whole : (form : Form) (froms : List ℕ) → All (IsWholeAmong form froms) l.yielded → AreWholeAmong form froms l.board;
}

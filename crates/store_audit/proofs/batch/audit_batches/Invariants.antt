use Rattle.std.proofs.Common.{◌≡◌, List, length}
use Rattle.std.specs.Vec.Iter.{into_iter_items, into_iter_len}
use Rattle.pattern_tree.specs.Content.{Content}
use Rattle.section_store.specs.Sections.{form_of}
use Rattle.store_audit.specs.Hands.{AreInHand, joined}
use Rattle.store_audit.proofs.batch.audit_batches.Given as goal

abbrev pub invariant-loop-batch : goal.invariant-loop-batch
invariant-loop-batch g l = record {
  count : into_iter_len l.batch-iterator ≡ length (into_iter_items l.batch-iterator);
  hand : (trees : List Content)
      → AreInHand (form_of l.crew.network.now l.crew.rides) trees l.initial.done.items (joined (into_iter_items l.initial.batch-iterator))
      → AreInHand (form_of l.crew.network.now l.crew.rides) trees l.done.items (joined (into_iter_items l.batch-iterator));
}

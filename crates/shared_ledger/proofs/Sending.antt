-- Threads may share a ledger.
use denote.RattleType.{RattleType}
use denote.Param.Send.{IsSend, IsSync, struct_send, struct_sync, recorded_send, recorded_sync, view_send, sendable}
use denote.Param.SendFields.{as_row_send}
use denote.Struct.Declared.{shape}
use Rattle.std.proofs.Crossing.{crosses, Vec-send}
use Rattle.timetable.proofs.table.Timetable.TheSendSync as table
use Rattle.timetable.proofs.rides.Rides.TheSendSync as rides
use Rattle.timetable.proofs.parts.StopId.TheSendSync as stop
use Rattle.pattern_tree.proofs.node.Node.TheLaws.TheKnot as knot
use Rattle.std.specs.declared.alloc.Allocator.{Ghosts}
use Rattle.std.specs.contracts.alloc.Global as heap
use Rattle.std.specs.contracts.impls.GlobalAllocator.TheImpl.{ghosts}
use Rattle.std.specs.contracts.marker.PhantomData as phantom
use Rattle.std.specs.contracts.sync.Mutex as mutex
use Rattle.std.specs.contracts.vec.Vec as vector
use Rattle.pattern_tree.specs.contracts.node.Node as node
use Rattle.pattern_tree.specs.contracts.tree.PatternTree.TheInside as tree_inside
use Rattle.pattern_tree.specs.contracts.finished.Finished as finished
use Rattle.pattern_tree.specs.contracts.finished.Finished.TheInside as finished_inside
use Rattle.work_ledger.specs.contracts.ledger.Ledger as ledger
use Rattle.work_ledger.specs.contracts.ledger.Ledger.TheInside as ledger_inside
use Rattle.work_ledger.proofs.entry.Status.TheSendSync as status
use Rattle.work_ledger.proofs.entry.Entry.TheSendSync as entry
use Rattle.shared_ledger.specs.declared.basis.Basis.{Ghosts as Basis}
use Rattle.shared_ledger.specs.contracts.desk.Desk as desk
use Rattle.shared_ledger.specs.contracts.shared.Shared as shared

-- by how a vector goes to another thread with what is in it
module _ (T : RattleType) (g : Ghosts T.Denot) (vec : (h : RattleType) → IsSend h → IsSend (vector.the_row h T g)) where
  node_sends : IsSend (node.the_field T g).row
  node_sends = knot.send-Node T g stop.the_send (vec _ stop.the_send) vec

  tree_inside_sends : IsSend (tree_inside.the_row T g)
  tree_inside_sends =
      recorded_send (tree_inside.the_field T g).row _ _ (tree_inside.the_type T g).to_one
      (struct_send (shape (tree_inside.the_type T g)) (stop.the_send, (search sendable, (search sendable, (vec _ (as_row_send (node.the_field T g) node_sends), tt)))))

finished_inside_sends : IsSend finished_inside.the_row
finished_inside_sends =
    recorded_send finished_inside.the_field.row _ _ finished_inside.the_type.to_one
    (struct_send (shape finished_inside.the_type) (search (sendable, crosses, table.the_send, table.the_sync) depth 20, (rides.the_send, (view_send _ _ _ _ _ (tree_inside_sends heap.the_row ghosts Vec-send), tt))))

finished_sends : IsSend finished.the_row
finished_sends = view_send _ _ _ _ _ finished_inside_sends

ledger_inside_sends : IsSend ledger_inside.the_row
ledger_inside_sends = search (sendable, crosses, table.the_send, table.the_sync, rides.the_send, stop.the_send, finished_sends, status.the_send, entry.the_send) depth 40

pub ledger_sends : IsSend ledger.the_row
ledger_sends = view_send _ _ _ _ _ ledger_inside_sends

desk_sends : (B : RattleType) (g : Basis B.Denot) → IsSend B → IsSend (desk.the_row B g)
desk_sends B g s =
    let phantom_sends : IsSend (phantom.the_field B).row = search (sendable, crosses, s) depth 20 in
    recorded_send (desk.the_field B g).row _ _ (desk.the_type B g).to_one
    (struct_send (shape (desk.the_type B g)) (ledger_sends, (search sendable, (search sendable, (phantom_sends, tt)))))

pub shared_syncs : (B : RattleType) (g : Basis B.Denot) → IsSend B → IsSync (shared.the_row B g)
shared_syncs B g s =
    let sent = desk_sends B g s in
    let desk_syncs : IsSync (mutex.the_row (desk.the_row B g)) = search (sendable, crosses, sent) depth 20 in
    recorded_sync (shared.the_field B g).row _ _ (shared.the_type B g).to_one
    (struct_sync (shape (shared.the_type B g))
    (desk_syncs, (search (sendable, crosses) depth 20, (search (sendable, crosses) depth 20, (search (sendable, crosses, table.the_send, table.the_sync) depth 20, (rides.the_sync, (search sendable, tt)))))))

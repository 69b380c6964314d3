use mathlib.Core.List.{[], ◌∷◌}
use denote.Param.{param}
use denote.Param.Send.{shr_send}
use denote.Ref.{ShrRef}
use mir.Syntax.{w8}
use denote.Plain.{UInt}
use Rattle.std.specs.contracts.alloc.Global as heap
use Rattle.std.specs.contracts.impls.GlobalAllocator.TheImpl.{ghosts}
use Rattle.std.specs.contracts.sync.Arc as arc
use Rattle.timetable.specs.contracts.table.Timetable as table
use Rattle.shared_ledger.specs.contracts.shared.Shared as shared
use Rattle.shared_ledger.specs.contracts.seat.Seat as seat
use Rattle.shared_ledger.proofs.seat.Seat.TheSendSync as seats
use Rattle.ledger_tests.proofs.Sending.{closure_sends, heap_goes, ledger_goes, number_goes, table_goes}
use Rattle.ledger_tests.proofs.threads.meeting.pair.Goals as goal

pub join-requires-send-F : goal.join-requires-send-F
join-requires-send-F g c κs within =
    closure_sends 1 _ _
    (ShrRef _ _ (param 1 g.row.R)
    ∷ ShrRef _ _ heap.the_row
    ∷ ShrRef _ _ (shared.the_row (param 0 g.row.B) g.B.Basis)
    ∷ ShrRef _ _ (arc.the_row table.the_row heap.the_row ghosts)
    ∷ ShrRef _ _ (UInt w8)
    ∷ seat.the_row
    ∷ []) (
      shr_send _ _ _ c.type_bounds.sync-R,
      (
        heap_goes,
        (
          ledger_goes (param 0 g.row.B) g.B.Basis c.type_bounds.send-B,
          (
            table_goes,
            (
              number_goes,
              (seats.the_send, tt),
            ),
          ),
        ),
      ),
    )

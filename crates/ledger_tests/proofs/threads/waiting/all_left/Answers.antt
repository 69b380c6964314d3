use mathlib.Core.List.{[], ◌∷◌}
use denote.Param.{param}
use denote.Param.Send.{shr_send}
use denote.Ref.{ShrRef}
use Rattle.shared_ledger.specs.contracts.shared.Shared as shared
use Rattle.shared_ledger.specs.contracts.seat.Seat as seat
use Rattle.shared_ledger.proofs.seat.Seat.TheSendSync as seats
use Rattle.ledger_tests.proofs.Sending.{closure_sends, ledger_goes}
use Rattle.ledger_tests.proofs.threads.waiting.all_left.Goals as goal

pub join-none-requires-send-F : goal.join-none-requires-send-F
join-none-requires-send-F g c κs within =
    closure_sends 1 _ _
    (ShrRef _ _ (param 1 g.row.R)
    ∷ ShrRef _ _ (shared.the_row (param 0 g.row.B) g.B.Basis)
    ∷ ShrRef _ _ seat.the_row
    ∷ []) (
      shr_send _ _ _ c.type_bounds.sync-R,
      (
        ledger_goes (param 0 g.row.B) g.B.Basis c.type_bounds.send-B,
        (shr_send _ _ _ seats.the_sync, tt),
      ),
    )

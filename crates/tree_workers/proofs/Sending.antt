-- What the workers of one build share goes to their threads.
use base.Fml.{Lft}
use mir.Syntax.{Lifetime}
use denote.RattleType.{RattleType}
use denote.Ref.{NamedLft, ShrRef}
use denote.Struct.Declared.{shape}
use denote.Param.Send.{IsSend, IsSync, sendable, recorded_sync, struct_sync, shr_send, shr_sync}
use Rattle.std.proofs.Crossing.{crosses, Vec-send}
use Rattle.std.specs.contracts.alloc.Global as heap
use Rattle.std.specs.contracts.impls.GlobalAllocator.TheImpl.{ghosts}
use Rattle.std.specs.contracts.sync.Mutex as mutex
use Rattle.std.specs.contracts.vec.Vec as vector
use Rattle.direct_connections.specs.contracts.network.Network as network
use Rattle.direct_connections.proofs.network.Network.TheSendSync as networks
use Rattle.timetable.proofs.rides.Rides.TheSendSync as rides_send
use Rattle.shared_ledger.specs.declared.basis.Basis.{Ghosts}
use Rattle.shared_ledger.specs.contracts.shared.Shared as shared
use Rattle.shared_ledger.specs.contracts.seat.Seat as seat
use Rattle.shared_ledger.proofs.seat.Seat.TheSendSync as seats
use Rattle.shared_ledger.proofs.Sending.{shared_syncs}
use Rattle.tree_workers.specs.contracts.halt.Halt as stop
use Rattle.tree_workers.specs.contracts.workshop.Workshop as workshop
use Rattle.tree_workers.proofs.halt.Halt.TheSendSync as stops

-- threads may share the seats
seats_sync : IsSync (mutex.the_row (vector.the_row seat.the_row heap.the_row ghosts))
seats_sync = let sent = Vec-send seat.the_row seats.the_send in search (sendable, crosses, sent) depth 20

-- and all that workers share
workshop_syncs : (ℓ : NamedLft) (B R G : RattleType) (g : Ghosts B.Denot) → IsSend B → IsSync R → IsSync G → IsSync (workshop.the_row ℓ B R G g)
workshop_syncs ℓ B R G g s y z =
    recorded_sync (workshop.the_field ℓ B R G g).row _ _ (workshop.the_type ℓ B R G g).to_one
    (struct_sync (shape (workshop.the_type ℓ B R G g)) (
      shr_sync _ _ R y,
      (
        search (sendable, crosses) depth 20,
        (
          shr_sync _ _ network.the_row networks.the_sync,
          (
            rides_send.the_sync,
            (
              shr_sync _ _ (shared.the_row B g) (shared_syncs B g s),
              (shr_sync _ _ (mutex.the_row (vector.the_row seat.the_row heap.the_row ghosts)) seats_sync, (shr_sync _ _ G z, (shr_sync _ _ stop.the_row stops.the_sync, tt))),
            ),
          ),
        ),
      ),
    ))

pub workshop_goes : {ℓ : Lifetime} {κ : Lft} (ν : NamedLft) (B R G : RattleType) (g : Ghosts B.Denot) → IsSend B → IsSync R → IsSync G
    → IsSend (ShrRef ℓ κ (workshop.the_row ν B R G g))
workshop_goes {ℓ = ℓ} {κ = κ} ν B R G g s y z = shr_send ℓ κ (workshop.the_row ν B R G g) (workshop_syncs ν B R G g s y z)

pub flag_goes : {ℓ : Lifetime} {κ : Lft} → IsSend (ShrRef ℓ κ stop.the_row)
flag_goes {ℓ = ℓ} {κ = κ} = shr_send ℓ κ stop.the_row stops.the_sync

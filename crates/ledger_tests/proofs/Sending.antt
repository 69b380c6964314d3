-- A closure goes to another thread with all that it captured.
use mathlib.Core.List.{List, [], ◌∷◌}
use Prim.Native.Nat.{ℕ}
use base.Fml.{Lft}
use mir.Syntax.{Sym, Ty, Lifetime, w8}
use denote.Exit.{yes}
use denote.RattleType.{RattleType}
use denote.Ref.{ShrRef}
use denote.Array.{Array}
use denote.Plain.{UInt}
use denote.Struct.Struct.{Struct}
use denote.Struct.Field.{rows}
use denote.Struct.Declared.{shape}
use denote.Struct.Tuple.{parts, type_at, TupleAt, Tuple}
use denote.Param.{param, arg}
use denote.Param.Send.{IsSend, AllSend, sendable, param_send, arg_send, array_send, recorded_send, struct_send, shr_send}
use Rattle.std.proofs.Crossing.{sync, Arc-sync}
use Rattle.std.specs.contracts.alloc.Global as heap
use Rattle.std.specs.contracts.impls.GlobalAllocator.TheImpl.{ghosts}
use Rattle.std.specs.contracts.sync.Arc as arc
use Rattle.timetable.specs.contracts.table.Timetable as table
use Rattle.timetable.proofs.table.Timetable.TheSendSync as tables
use Rattle.shared_ledger.specs.declared.basis.Basis.{Ghosts}
use Rattle.shared_ledger.specs.contracts.shared.Shared as shared
use Rattle.shared_ledger.specs.contracts.seat.Seat as seat
use Rattle.shared_ledger.proofs.seat.Seat.TheSendSync as seats
use Rattle.shared_ledger.proofs.Sending.{shared_syncs}

all_send : (Ts : List RattleType) → AllSend Ts → AllSend (rows (parts Ts))
all_send [] s = tt
all_send (T ∷ Ts) s = (s.0, all_send Ts s.1)

captures_send : (ν : Sym) (Ts : List RattleType) → AllSend Ts → IsSend (TupleAt ν Ts)
captures_send ν Ts s =
    recorded_send (Struct (shape (type_at ν Ts))) _ _ (type_at ν Ts).to_one (struct_send (shape (type_at ν Ts)) (all_send Ts s))

-- the closure that a call is passed for its type parameter of number i
pub closure_sends : (i : ℕ) (δ : Ty) (ν : Sym) (Ts : List RattleType) → AllSend Ts → IsSend (param i (arg δ yes (TupleAt ν Ts)))
closure_sends i δ ν Ts s = param_send i (arg δ yes (TupleAt ν Ts)) (arg_send δ yes (TupleAt ν Ts) (captures_send ν Ts s))

-- what closures capture by reference: a number, the allocator, the shared ledger, and its timetable
pub number_goes : {ℓ : Lifetime} {κ : Lft} → IsSend (ShrRef ℓ κ (UInt w8))
number_goes {ℓ = ℓ} {κ = κ} = shr_send ℓ κ (UInt w8) (search sendable)

pub heap_goes : {ℓ : Lifetime} {κ : Lft} → IsSend (ShrRef ℓ κ heap.the_row)
heap_goes {ℓ = ℓ} {κ = κ} = shr_send ℓ κ heap.the_row sync

pub ledger_goes : {ℓ : Lifetime} {κ : Lft} (B : RattleType) (g : Ghosts B.Denot) → IsSend B → IsSend (ShrRef ℓ κ (shared.the_row B g))
ledger_goes {ℓ = ℓ} {κ = κ} B g s = shr_send ℓ κ (shared.the_row B g) (shared_syncs B g s)

pub table_goes : {ℓ : Lifetime} {κ : Lft} → IsSend (ShrRef ℓ κ (arc.the_row table.the_row heap.the_row ghosts))
table_goes {ℓ = ℓ} {κ = κ} = shr_send ℓ κ (arc.the_row table.the_row heap.the_row ghosts) (Arc-sync table.the_row tables.the_send tables.the_sync)

-- twice four seats
pub seats_go : IsSend (Tuple (Array seat.the_row 4 ∷ Array seat.the_row 4 ∷ []))
seats_go =
    let four = array_send seat.the_row 4 seats.the_send in captures_send _ (Array seat.the_row 4 ∷ Array seat.the_row 4 ∷ []) (four, (four, tt))

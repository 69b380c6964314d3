-- Calls that are made one after the other.
use Rattle.std.specs.Prelude.{◌≡◌, ◌⊎◌, ℕ, List, length, Result, MatchResult}
use Rattle.disk_model.specs.Disk.{State, after_write, after_cut, after_sync, WriteFailed, CutFailed, Grew}
use Rattle.disk_model.specs.declared.fault.ReadFault.{ReadFault}
use Rattle.disk_model.specs.declared.fault.ReadFault.TheVariants.{Failed, Memory}

-- a write and a sync after it: both were done; or the write failed; or it was done and the sync failed
abbrev pub WritesAndSyncs : {E : Type 0} → ℕ → List ℕ → Result Unit E → State → State → Type 0
WritesAndSyncs at bytes result old new =
    MatchResult result (λ _. new ≡ after_sync (after_write at bytes old))
    (λ _. WriteFailed at (length bytes) old new ⊎ (new ≡ after_write at bytes old))

-- a cut and a sync after it: both were done; or the cut failed; or it was done and the sync failed
abbrev pub CutsAndSyncs : {E : Type 0} → ℕ → Result Unit E → State → State → Type 0
CutsAndSyncs len result old new =
    MatchResult result (λ _. new ≡ after_sync (after_cut len old)) (λ _. CutFailed len old new ⊎ (new ≡ after_cut len old))

-- a fault comes only if a call failed
abbrev pub FailsByCalls : {T E : Type 0} → Result T E → ℕ → ℕ → Type 0
FailsByCalls result before after = MatchResult result (λ _. after ≡ before) (λ _. Grew before after)

-- no call failed, and there is no fault or memory was refused; or one failed, and that is the fault
abbrev pub FailsByReads : {T : Type 0} → Result T ReadFault → ℕ → ℕ → Type 0
FailsByReads result before after =
    MatchResult result (λ _. after ≡ before) (λ fault. ((fault ≡ Memory) × (after ≡ before)) ⊎ ((fault ≡ Failed) × Grew before after))

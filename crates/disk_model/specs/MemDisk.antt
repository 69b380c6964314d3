-- What clauses see of a disk in memory.
use Rattle.std.specs.Prelude.{◌≡◌, ◌+◌, ◌<◌, Bool, ℕ}
use Rattle.disk_model.specs.Disk.{State}
use Rattle.disk_model.specs.Memory.{state_after}
use Rattle.disk_model.specs.Plan.{is_told_by}
use Rattle.disk_model.specs.declared.memory.MemDisk.{MemDisk}

-- what reads give and what a crash leaves, now and at each earlier moment
abbrev pub state_of : MemDisk → State
state_of disk = state_after disk.calls.items

-- how many calls have failed
abbrev pub failures_of : MemDisk → ℕ
failures_of disk = disk.failures

-- the nth call from now, counted from 1, is told to fail
abbrev pub is_told : MemDisk → ℕ → Bool
is_told disk n = is_told_by disk.plan n

-- one call was made: the one after it is now the first
abbrev pub IsOneCallOn : MemDisk → MemDisk → Type 0
IsOneCallOn old new = (n : ℕ) → 0 < n → is_told new n ≡ is_told old (n + 1)

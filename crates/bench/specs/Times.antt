-- How two times compare.
use Rattle.std.specs.Prelude.{ℕ, ◌-◌, ◌*◌, ◌/◌, ◌^◌, min, max}

-- the last number that is counted
abbrev pub last_count : ℕ
last_count = 2 ^ 64 - 1

-- how many times as long one of `slow_count` questions took as one of `fast_count`, in whole times; the first took `slow` nanoseconds, the
-- others `fast`
abbrev pub times_faster : ℕ → ℕ → ℕ → ℕ → ℕ
times_faster slow slow_count fast fast_count = min (slow * fast_count) last_count / max (min (fast * slow_count) last_count) 1

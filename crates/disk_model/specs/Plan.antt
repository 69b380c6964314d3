-- Which calls are told to fail.
use Rattle.std.specs.Prelude.{Bool, false, ℕ, ◌==◌, nat_le}
use Rattle.disk_model.specs.declared.plan.Plan.{Plan}
use Rattle.disk_model.specs.declared.plan.Plan.TheVariants.{Never, At, From}

-- the nth call from now, counted from 1, is told to fail
abbrev pub is_told_by : Plan → ℕ → Bool
is_told_by Never n = false
is_told_by (At k) n = n == k
is_told_by (From k) n = nat_le k n

-- What the program stands on, from the bytes of a feed's files on.
use Rattle.std.specs.Prelude.{◌≡◌, Bool, true}
use Rattle.gtfs_tables.specs.Feed.{Feed}
use Rattle.command_line.specs.declared.job.Plan.{Plan}
use Rattle.feed_basis.specs.Basis.{BasisData, IsBasis}

-- The timetable of the feed's rows on the covered days, and the ids of its stops and trips. There are hash keys to look ids up with.
pub record IsGround (keyed : Bool) (feed : Feed) (plan : Plan) (basis : BasisData) : Type 0 where
  pub with_keys : keyed ≡ true
  pub over : IsBasis feed plan.settings plan.first basis

use Rattle.std.proofs.Common.{refl}
use Rattle.feed_commands.proofs.tabling.window_of.Goals as goal

pub returns-in-None : goal.returns-in-None
returns-in-None c = rw c.in-None.is (c.moment-moment.ensures, refl)

pub returns-in-Some : goal.returns-in-Some
returns-in-Some c = rw c.in-Some.is (c.times_of-times.result, c.times_of-times.ensures, refl, refl)

use Rattle.std.proofs.Common.{refl, inl}
use Rattle.feed_commands.proofs.checking.told_feed.Goals as goal

pub returns-in-Ok : goal.returns-in-Ok
returns-in-Ok g c = rw c.in-Told.is (inl (c.in-Ok.text, refl, c.in-Ok.ensures))

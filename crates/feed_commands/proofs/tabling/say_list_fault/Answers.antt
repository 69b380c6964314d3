use Rattle.std.proofs.Common.{refl}
use Rattle.feed_commands.proofs.TableFacts.{fault_said}
use Rattle.feed_commands.proofs.tabling.say_list_fault.Goals as goal

pub returns : goal.returns
returns g c = fault_said c.args.path.now c.args.fault c.args.err.now c.say.new.self 6 c.in_default.not-Memory refl c.say.ensures

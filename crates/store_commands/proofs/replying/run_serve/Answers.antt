use Rattle.std.proofs.Common.{inr}
use Rattle.store_commands.proofs.replying.run_serve.Goals as goal

pub returns-in-Lines : goal.returns-in-Lines
returns-in-Lines g c = rw c.in-Lines.is (inr c.serve_by.ensures)

pub returns : goal.returns
returns g c = rw c.in-Told.is (inr c.serve_by-2.ensures)

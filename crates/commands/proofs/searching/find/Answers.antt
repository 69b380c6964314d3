use Rattle.commands.proofs.searching.find.Goals as goal

pub returns-in-Direct : goal.returns-in-Direct
returns-in-Direct c = rw c.in-Direct.is c.ridden.ensures

pub returns-in-Scan : goal.returns-in-Scan
returns-in-Scan c = rw (c.in-Scan.is, ← c.tells_legs-legs.ensures) c.scanned.ensures

pub returns-in-Reach : goal.returns-in-Reach
returns-in-Reach c = rw (c.in-Reach.is, ← c.number_of-minutes.ensures) c.reached.ensures

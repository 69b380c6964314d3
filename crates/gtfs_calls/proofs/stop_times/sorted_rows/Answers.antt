use Rattle.gtfs_calls.proofs.stop_times.sorted_rows.Goals as goal

pub returns-in-Some-clause-tests : goal.returns-in-Some-clause-tests
returns-in-Some-clause-tests c = rw c.in-Some.is at c.in_ok-rows.ensures.tests

pub returns-in-Some-clause-placed : goal.returns-in-Some-clause-placed
returns-in-Some-clause-placed c = rw c.in-Some.is at c.in_ok-rows.ensures.placed

pub returns-in-Some-clause-order : goal.returns-in-Some-clause-order
returns-in-Some-clause-order c = rw c.in-Some.is at c.in_ok-rows.ensures.order

pub returns-in-Some-clause-skipped : goal.returns-in-Some-clause-skipped
returns-in-Some-clause-skipped c = rw c.in-Some.is at c.in_ok-rows.ensures.skipped

pub returns-in-Some-clause-kept : goal.returns-in-Some-clause-kept
returns-in-Some-clause-kept c = rw c.in-Some.is at c.in_ok-rows.ensures.kept

pub row_fault-requires-clause-fails : goal.row_fault-requires-clause-fails
row_fault-requires-clause-fails c = rw c.in-None.is at c.in_ok-rows.ensures.none

pub returns-in-None-clause-tests : goal.returns-in-None-clause-tests
returns-in-None-clause-tests c = c.row_fault.ensures

use Rattle.ledger_tests.proofs.threads.tests.nine_count.Given as goal

abbrev pub ghosts-nine_seats : goal.ghosts-nine_seats
ghosts-nine_seats g a = record { table = a.ledger.table; rides = a.ledger.rides }

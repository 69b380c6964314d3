use Rattle.ledger_tests.proofs.threads.tests.four_count.Given as goal

abbrev pub ghosts-four_seats : goal.ghosts-four_seats
ghosts-four_seats g a = record { table = a.ledger.table; rides = a.ledger.rides }

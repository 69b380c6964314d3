use Rattle.ledger_tests.proofs.threads.waiting.left_by_all_others.Given as goal

abbrev pub ghosts-all_left : goal.ghosts-all_left
ghosts-all_left g a = record { table = a.ledger.table; rides = a.ledger.rides }

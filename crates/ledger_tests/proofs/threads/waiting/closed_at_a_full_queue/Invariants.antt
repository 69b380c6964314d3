use Rattle.ledger_tests.proofs.threads.waiting.closed_at_a_full_queue.Given as goal

abbrev pub ghosts-fill_and_close : goal.ghosts-fill_and_close
ghosts-fill_and_close g a = record { table = a.ledger.table; rides = a.ledger.rides }

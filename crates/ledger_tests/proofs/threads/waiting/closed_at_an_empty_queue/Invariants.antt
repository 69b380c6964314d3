use Rattle.ledger_tests.proofs.threads.waiting.closed_at_an_empty_queue.Given as goal

abbrev pub ghosts-closed_while_empty : goal.ghosts-closed_while_empty
ghosts-closed_while_empty g a = record { table = a.ledger.table; rides = a.ledger.rides }

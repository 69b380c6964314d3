use Rattle.std.proofs.lemmas.Result.{err_from_is_err_and}
use Rattle.std.proofs.Common.{inl}
use Rattle.feed_basis.proofs.FaultFacts.{of_rows}
use Rattle.feed_basis.proofs.basis.basis_of.Goals as goal

pub returns-in_err-tables-clause-fault : goal.returns-in_err-tables-clause-fault
returns-in_err-tables-clause-fault g c = rw c.in-Some.is (λ feed h.
    let p = err_from_is_err_and c.from_residual.result c.from_residual.ensures.1 in
    rw (p.1, p.2) (of_rows feed c.args.settings.now c.in_err-tables.field-0.0 c.args.first (inl (c.in_err-tables.ensures feed h))))

pub returns-clause-basis : goal.returns-clause-basis
returns-clause-basis g c = λ feed h. c.basis_over.ensures.basis feed (c.in_ok-tables.ensures feed h)

pub returns-clause-fault : goal.returns-clause-fault
returns-clause-fault g c = rw c.in-Some.is (λ feed h. c.basis_over.ensures.fault feed (c.in_ok-tables.ensures feed h))

use Rattle.std.proofs.Common.{◌∷◌, [], inl, inr}
use Rattle.std.proofs.lemmas.Result.{err_from_is_err_and}
use Rattle.told_connections.proofs.asking.scan_within.Goals as goal

pub returns-in_err-asked-clause-refusal : goal.returns-in_err-asked-clause-refusal
returns-in_err-asked-clause-refusal c =
    let p = err_from_is_err_and c.from_residual.result c.from_residual.ensures.1 in
    rw (p.1, p.2) (inl c.in_err-asked.ensures.refusal)

pub returns-in_default-clause-refusal : goal.returns-in_default-clause-refusal
returns-in_default-clause-refusal c =
    let asked = c.in_ok-asked.ensures.asked in
    inr (((c.in_ok-asked.asked.from ∷ [], asked.leaves), (c.in_ok-asked.asked.to ∷ [], asked.reaches)), c.in_default.ensures.none)

pub returns-in_err-connections-clause-refusal : goal.returns-in_err-connections-clause-refusal
returns-in_err-connections-clause-refusal c =
    let p = err_from_is_err_and c.from_residual-in_err-connections.result c.from_residual-in_err-connections.ensures.1 in
    rw (p.1, p.2) (inl tt)

use Rattle.std.proofs.Common.{inr}
use Rattle.std.proofs.lemmas.Result.{on_err_weaker}
use Rattle.serving.proofs.printing.print_reply.Goals as goal

pub returns-in-Err-clause-err : goal.returns-in-Err-clause-err
returns-in-Err-clause-err g c =
    on_err_weaker c.print_text-in-Err.result (λ begun. (c.memory_refused.result.now, inr (c.memory_refused.ensures c.args.basis.now c.args.question.now), begun))
    c.print_text-in-Err.ensures.err

use Rattle.std.proofs.Common.{Some, codes, refl}
use Rattle.clap.specs.Words.{rows_of, found_of}
use Rattle.option_words.specs.Questions.{HasPlaces}
use Rattle.command_line.specs.Jobs.{IsTask, task_question}
use Rattle.command_line.specs.declared.job.Task.TheVariants as tasks
use Rattle.command_line.proofs.AskingFacts.{asks}
use Rattle.option_words.proofs.FaultFacts.{of_part}
use Rattle.command_line.proofs.words.ask_of.Goals as goal

pub returns-in-Err-clause-fault : goal.returns-in-Err-clause-fault
returns-in-Err-clause-fault c =
    let rows = rows_of (found_of c.args.found.now) in
    of_part (HasPlaces (codes "from") (codes "to") rows) Some (IsTask (codes "ask") rows) task_question (λ question. tasks.Ask question c.flag_of-legs.result)
    (λ question is. (refl, (is, c.flag_of-legs.ensures))) (λ question. refl) (asks rows) rows c.args.first c.in-Err.fault c.in-Err.ensures.fault

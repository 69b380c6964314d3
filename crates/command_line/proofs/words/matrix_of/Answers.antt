use Rattle.std.proofs.Common.{Some, codes, refl}
use Rattle.clap.specs.Words.{rows_of, found_of}
use Rattle.option_words.specs.Questions.{HasPlaces}
use Rattle.command_line.specs.Jobs.{IsCommand, question_of}
use Rattle.command_line.specs.declared.job.Command.TheVariants as commands
use Rattle.command_line.proofs.AskingFacts.{tables}
use Rattle.option_words.proofs.FaultFacts.{of_part}
use Rattle.command_line.proofs.words.matrix_of.Goals as goal

pub returns-in-Err-clause-fault : goal.returns-in-Err-clause-fault
returns-in-Err-clause-fault c =
    let rows = rows_of (found_of c.args.found.now) in
    of_part (HasPlaces (codes "from-file") (codes "to-file") rows) Some (IsCommand (codes "matrix") rows) question_of (λ question. commands.Matrix question c.in-Some.workers c.flag_of-progress.result)
    (λ question is. (refl, (is, c.in-Some.ensures.workers, c.flag_of-progress.ensures))) (λ question. refl) (λ command is. let words = tables rows command is in (words.0, words.1)) rows c.args.first c.in-Err.fault c.in-Err.ensures.fault

use Rattle.std.proofs.Common.{refl}
use Rattle.clap.specs.Words.{rows_of, found_of}
use Rattle.command_line.specs.Jobs.{IsCommand, IsSearch, question_of, search_question}
use Rattle.command_line.specs.declared.job.Command.TheVariants as commands
use Rattle.option_words.proofs.FaultFacts.{of_part}
use Rattle.command_line.proofs.NameFacts.{found_command}
use Rattle.command_line.proofs.words.command_of.Goals as goal

pub returns-in-Err-clause-fault : goal.returns-in-Err-clause-fault
returns-in-Err-clause-fault c =
    let name = c.args.name.now in
    let rows = rows_of (found_of c.args.found.now) in
    of_part (IsSearch name rows) search_question (IsCommand name rows) question_of (λ search. commands.Find search)
    (λ search is. is) (λ search. refl) (found_command name rows c.in_default.not-serve c.in_default.not-matrix) rows c.args.first c.in-Err.fault c.in-Err.ensures.fault

pub returns-in-Some-clause-command : goal.returns-in-Some-clause-command
returns-in-Some-clause-command c = rw c.in-serve.is c.in-Some.ensures.command

pub returns-in-Some-clause-times : goal.returns-in-Some-clause-times
returns-in-Some-clause-times c = rw c.in-Some.ensures.question (λ one is. tt)

pub returns-in-Some-clause-fault : goal.returns-in-Some-clause-fault
returns-in-Some-clause-fault c = tt

pub returns-in-None-clause-command : goal.returns-in-None-clause-command
returns-in-None-clause-command c = tt

pub returns-in-None-clause-times : goal.returns-in-None-clause-times
returns-in-None-clause-times c = tt

pub returns-in-None-clause-fault : goal.returns-in-None-clause-fault
returns-in-None-clause-fault c = rw c.in-serve.is c.in-None.ensures.none

pub returns-in-matrix-clause-command : goal.returns-in-matrix-clause-command
returns-in-matrix-clause-command c = rw c.in-matrix.is c.matrix_of.ensures.command

pub returns-in-matrix-clause-times : goal.returns-in-matrix-clause-times
returns-in-matrix-clause-times c = c.matrix_of.ensures.times

pub returns-in-matrix-clause-fault : goal.returns-in-matrix-clause-fault
returns-in-matrix-clause-fault c = rw c.in-matrix.is c.matrix_of.ensures.fault

pub returns-in-Ok-clause-command : goal.returns-in-Ok-clause-command
returns-in-Ok-clause-command c = c.in-Ok.ensures.search

pub returns-in-Ok-clause-times : goal.returns-in-Ok-clause-times
returns-in-Ok-clause-times c = c.in-Ok.ensures.times

pub returns-in-Ok-clause-fault : goal.returns-in-Ok-clause-fault
returns-in-Ok-clause-fault c = tt

pub returns-in-Err-clause-command : goal.returns-in-Err-clause-command
returns-in-Err-clause-command c = tt

pub returns-in-Err-clause-times : goal.returns-in-Err-clause-times
returns-in-Err-clause-times c = tt

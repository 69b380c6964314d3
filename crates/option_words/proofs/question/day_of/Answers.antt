use Rattle.clap.specs.Words.{rows_of, found_of}
use Rattle.option_words.proofs.DayFacts.{leaves_on, leaves_on_none}
use Rattle.option_words.proofs.question.day_of.Goals as goal

pub returns-clause-day : goal.returns-clause-day
returns-clause-day c =
    leaves_on (rows_of (found_of c.args.found.now)) c.args.first c.in_ok-first.first c.in_ok-first.was c.named_day.result c.named_day.ensures.day

pub returns-clause-none : goal.returns-clause-none
returns-clause-none c =
    leaves_on_none (rows_of (found_of c.args.found.now)) c.args.first c.in_ok-first.first c.in_ok-first.was c.named_day.result
    c.named_day.ensures.none

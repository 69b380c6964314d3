use Rattle.clap.specs.Words.{rows_of, found_of}
use Rattle.command_line.proofs.PlanFacts.{first_misread, misread}
use Rattle.command_line.proofs.words.plan_of.Goals as goal

pub returns-in-Err-clause-fault : goal.returns-in-Err-clause-fault
returns-in-Err-clause-fault c =
    misread c.args.name.now (rows_of (found_of c.args.found.now)) c.in-Some.settings c.in-Some-style_of.style c.date-first.result
    c.in-Some.ensures.settings c.in-Some-style_of.ensures.style c.date-first.ensures c.in-Err.fault c.in-Err.ensures.fault
    c.unread_of.result c.unread_of.ensures

pub returns-in-None-clause-fault : goal.returns-in-None-clause-fault
returns-in-None-clause-fault c =
    first_misread c.args.name.now (rows_of (found_of c.args.found.now)) c.in-Some.settings c.in-Some-style_of.style c.date-first.result
    c.in-Some.ensures.settings c.in-Some-style_of.ensures.style c.date-first.ensures c.in-None.is c.unread_of-in-None.result
    c.unread_of-in-None.ensures c.in-Ok.command c.in-Ok.ensures.command

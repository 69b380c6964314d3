use Rattle.std.proofs.Common.{◌∙◌, sym, ap, option_map, refl}
use Rattle.clap.specs.Words.{rows_of, found_of}
use Rattle.option_words.proofs.DayFacts.{day_read, no_day}
use Rattle.option_words.proofs.question.named_day.Goals as goal

pub returns-in-None-clause-day : goal.returns-in-None-clause-day
returns-in-None-clause-day c = rw (← c.text_of.ensures, c.in-None.is) refl

pub returns-in-Some-clause-day : goal.returns-in-Some-clause-day
returns-in-Some-clause-day c =
    day_read (rows_of (found_of c.args.found.now)) c.args.option.now c.args.other c.in-Some.text.now
    (sym c.text_of.ensures ∙ ap (option_map (λ text. text.now)) c.in-Some.is) c.date.result c.date.ensures

pub returns-in-Some-clause-none : goal.returns-in-Some-clause-none
returns-in-Some-clause-none c =
    no_day (rows_of (found_of c.args.found.now)) c.args.option.now c.args.other c.in-Some.text.now
    (sym c.text_of.ensures ∙ ap (option_map (λ text. text.now)) c.in-Some.is) c.date.result c.date.ensures

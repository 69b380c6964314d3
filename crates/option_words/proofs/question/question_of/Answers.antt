use Rattle.std.proofs.Common.{◌∙◌, sym, subst}
use Rattle.clap.specs.Words.{rows_of, found_of}
use Rattle.option_words.specs.Questions.{HasDays}
use Rattle.option_words.specs.Questions.{LacksTimes}
use Rattle.option_words.specs.declared.word_fault.WordFault.{WordFault}
use Rattle.option_words.proofs.question.question_of.Goals as goal

pub returns-in_default-time-clause-fault : goal.returns-in_default-time-clause-fault
returns-in_default-time-clause-fault c =
    let places = c.args.places in
    let leaves = c.in-Some.ensures.day in
    let days : HasDays (rows_of (found_of c.args.found.now)) leaves.0 =
    record { day = c.in-Some.day; last = c.in-Some-named_day.last; is_day = leaves.2; is_last = c.in-Some-named_day.ensures.day } in
    (leaves.0, leaves.1, (days, (places.at.now, c.requires.2.at, sym c.time.ensures ∙ c.in_default-time.is)))

pub returns-in-Err-clause-fault : goal.returns-in-Err-clause-fault
returns-in-Err-clause-fault c =
    let places = c.args.places in
    let leaves = c.in-Some.ensures.day in
    let bad = c.in-Err.ensures.fault in
    let days : HasDays (rows_of (found_of c.args.found.now)) leaves.0 =
    record { day = c.in-Some.day; last = c.in-Some-named_day.last; is_day = leaves.2; is_last = c.in-Some-named_day.ensures.day } in
    subst (λ (fault : WordFault). LacksTimes (rows_of (found_of c.args.found.now)) c.args.first fault) (sym bad.0) (
      leaves.0,
      leaves.1,
      ((days, (c.in-Some-time.seconds, (places.at.now, c.requires.2.at, sym c.time.ensures ∙ c.in-Some-time.is))), bad.1),
    )

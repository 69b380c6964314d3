use Rattle.std.proofs.Common.{◌∙◌, ap, option_map, refl, sym}
use Rattle.clap.specs.Words.{rows_of, found_of, first_of}
use Rattle.command_line.specs.Jobs.{IsSearch, IsTask, search_question, task_question}
use Rattle.command_line.specs.declared.job.Search.TheVariants as searches
use Rattle.option_words.proofs.FaultFacts.{of_part}
use Rattle.command_line.proofs.NameFacts.{stored_search}
use Rattle.command_line.proofs.words.search_of.Goals as goal

pub returns-in-direct-clause-search : goal.returns-in-direct-clause-search
returns-in-direct-clause-search c = rw c.in-direct.is c.direct_of.ensures.search

pub returns-in-direct-clause-times : goal.returns-in-direct-clause-times
returns-in-direct-clause-times c = c.direct_of.ensures.times

pub returns-in-direct-clause-fault : goal.returns-in-direct-clause-fault
returns-in-direct-clause-fault c = rw c.in-direct.is c.direct_of.ensures.fault

pub returns-in-scan-clause-search : goal.returns-in-scan-clause-search
returns-in-scan-clause-search c = rw c.in-scan.is c.scan_of.ensures.search

pub returns-in-scan-clause-times : goal.returns-in-scan-clause-times
returns-in-scan-clause-times c = c.scan_of.ensures.times

pub returns-in-scan-clause-fault : goal.returns-in-scan-clause-fault
returns-in-scan-clause-fault c = rw c.in-scan.is c.scan_of.ensures.fault

pub returns-in-reach-clause-search : goal.returns-in-reach-clause-search
returns-in-reach-clause-search c = rw c.in-reach.is c.reach_of.ensures.search

pub returns-in-reach-clause-times : goal.returns-in-reach-clause-times
returns-in-reach-clause-times c = c.reach_of.ensures.times

pub returns-in-reach-clause-fault : goal.returns-in-reach-clause-fault
returns-in-reach-clause-fault c = rw c.in-reach.is c.reach_of.ensures.fault

pub returns-in-Ok-clause-times : goal.returns-in-Ok-clause-times
returns-in-Ok-clause-times c = c.in-Ok.ensures.times

pub returns-in-Ok-clause-fault : goal.returns-in-Ok-clause-fault
returns-in-Ok-clause-fault c = tt

pub returns-in-Err-clause-search : goal.returns-in-Err-clause-search
returns-in-Err-clause-search c = tt

pub returns-in-Err-clause-times : goal.returns-in-Err-clause-times
returns-in-Err-clause-times c = tt

pub returns-in_default-text_of-clause-search : goal.returns-in_default-text_of-clause-search
returns-in_default-text_of-clause-search c = tt

pub returns-in_default-text_of-clause-times : goal.returns-in_default-text_of-clause-times
returns-in_default-text_of-clause-times c = tt

pub returns-in-Err-clause-fault : goal.returns-in-Err-clause-fault
returns-in-Err-clause-fault c =
    let name = c.args.name.now in
    let rows = rows_of (found_of c.args.found.now) in
    of_part (IsTask name rows) task_question (IsSearch name rows) search_question (λ task. searches.Stored c.in-Some.store task)
    (λ task is. (
      is.0,
      (
        ap (λ option. first_of option rows) (sym (c.store_option.ensures task is.0))
            ∙ sym c.text_of.ensures ∙ ap (option_map (λ text. text.now)) c.in-Some.is,
        is.1,
      ),
    )) (λ task. refl)
    (stored_search name rows c.in_default.not-direct c.in_default.not-scan c.in_default.not-reach) rows c.args.first
    c.in-Err.fault c.in-Err.ensures.fault

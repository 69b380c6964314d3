use Rattle.std.proofs.Common.{Some, codes, refl}
use Rattle.clap.specs.Words.{rows_of, found_of}
use Rattle.option_words.specs.Questions.{HasPlaces}
use Rattle.command_line.specs.Jobs.{IsSearch, search_question}
use Rattle.command_line.specs.declared.job.Search.TheVariants as searches
use Rattle.command_line.proofs.AskingFacts.{scans}
use Rattle.option_words.proofs.FaultFacts.{of_part}
use Rattle.command_line.proofs.words.scan_of.Goals as goal

pub returns-in-Err-clause-fault : goal.returns-in-Err-clause-fault
returns-in-Err-clause-fault c =
    let rows = rows_of (found_of c.args.found.now) in
    of_part (HasPlaces (codes "from") (codes "to") rows) Some (IsSearch (codes "scan") rows) search_question (λ question. searches.Scan question c.flag_of-legs.result)
    (λ question is. (refl, (is, c.flag_of-legs.ensures))) (λ question. refl) (scans rows) rows c.args.first c.in-Err.fault c.in-Err.ensures.fault

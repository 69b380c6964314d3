use Rattle.std.proofs.Common.{Some, codes, refl}
use Rattle.clap.specs.Words.{rows_of, found_of}
use Rattle.option_words.specs.Questions.{HasPlaces}
use Rattle.command_line.specs.Jobs.{IsSearch, search_question}
use Rattle.command_line.specs.declared.job.Search.TheVariants as searches
use Rattle.command_line.proofs.AskingFacts.{rides_once}
use Rattle.option_words.proofs.FaultFacts.{of_part}
use Rattle.command_line.proofs.words.direct_of.Goals as goal

pub returns-in-Err-clause-fault : goal.returns-in-Err-clause-fault
returns-in-Err-clause-fault c =
    let rows = rows_of (found_of c.args.found.now) in
    of_part (HasPlaces (codes "from") (codes "to") rows) Some (IsSearch (codes "direct") rows) search_question (λ question. searches.Direct question)
    (λ question is. (refl, is)) (λ question. refl) (rides_once rows) rows c.args.first c.in-Err.fault c.in-Err.ensures.fault

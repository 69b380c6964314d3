use Rattle.std.proofs.Common.{Some, codes, refl}
use Rattle.clap.specs.Words.{rows_of, found_of}
use Rattle.option_words.specs.Questions.{HasPlaces}
use Rattle.command_line.specs.Jobs.{IsSearch, search_question}
use Rattle.command_line.specs.declared.job.Search.TheVariants as searches
use Rattle.command_line.proofs.AskingFacts.{reaches}
use Rattle.option_words.proofs.FaultFacts.{of_part}
use Rattle.command_line.proofs.words.reach_of.Goals as goal

pub returns-in-Err-clause-fault : goal.returns-in-Err-clause-fault
returns-in-Err-clause-fault c =
    let rows = rows_of (found_of c.args.found.now) in
    of_part (HasPlaces (codes "from") (codes "from") rows) Some (IsSearch (codes "reach") rows) search_question (λ question. searches.Reach question c.in-Some.minutes)
    (λ question is. (refl, (is, c.in-Some.ensures.minutes))) (λ question. refl) (λ search is. let words = reaches rows search is in (words.0, words.1)) rows c.args.first c.in-Err.fault c.in-Err.ensures.fault

pub returns-in_default-clause-fault : goal.returns-in_default-clause-fault
returns-in_default-clause-fault c =
    λ search is. let words = reaches (rows_of (found_of c.args.found.now)) search is in c.in_default.ensures.none words.2.0 words.2.1

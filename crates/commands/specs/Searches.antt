-- What a search finds at the timetable.
use Rattle.std.specs.Prelude.{ℕ, Result, option_map}
use Rattle.command_line.specs.declared.job.Search.{Search}
use Rattle.command_line.specs.declared.job.Search.TheVariants as searches
use Rattle.option_words.specs.declared.format.Style.{Style}
use Rattle.faults.specs.declared.fault.Fault.{Fault}
use Rattle.feed_basis.specs.Basis.{BasisData}
use Rattle.answering.specs.Answers.{IsDirect}
use Rattle.printing.specs.Tellings.{tells_legs}
use Rattle.feed_commands.specs.Finds.{IsReachFound, IsScanned, IsStopAnswer}
use Rattle.feed_commands.specs.declared.found.Found.{Found}

-- what it is, to be reported in the style; nothing is found there by a task over a store
abbrev pub IsFoundBy : Style → BasisData → ℕ → Search → Result Found Fault → Type 0
IsFoundBy style basis k (searches.Direct question) found = IsStopAnswer basis question (IsDirect basis) found
IsFoundBy style basis k (searches.Scan question legs) found = IsScanned basis k (tells_legs style legs) question question.within found
IsFoundBy style basis k (searches.Reach question minutes) found =
    IsReachFound basis k question (option_map (λ m. m.number) minutes) question.within found
IsFoundBy style basis k (searches.Stored store task) found = ⊥

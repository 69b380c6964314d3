use Rattle.std.proofs.Common.{ℕ, List, Result}
use Rattle.std.specs.Str.Parse.{ParsesUnsigned, ExplainsUnsignedError, HasUnsignedDigitsIfOk}
use Rattle.std.specs.declared.num.ParseIntError.{ParseIntError}
use Rattle.clap.specs.Words.{found_of}
use Rattle.options.proofs.WordFacts.{has_number}
use Rattle.options.proofs.values.number_of.Goals as goal

-- what `u32` reads of a text
abbrev pub reads : List ℕ → Result ℕ ParseIntError → Type 0
reads text r = ParsesUnsigned 32 10 text r × ExplainsUnsignedError 10 text r × HasUnsignedDigitsIfOk text r

pub returns : goal.returns
returns c = has_number 32 (found_of c.args.found.now) c.args.option.now c.get_one.result reads (λ t r g. g.0) c.get_one.ensures.none c.get_one.ensures.value

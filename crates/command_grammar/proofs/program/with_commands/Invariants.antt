use Rattle.std.proofs.Common.{◌≡◌, fold, take}
use Rattle.clap.specs.Words.{app_of}
use Rattle.command_grammar.specs.Grammars.{with_grammar}
use Rattle.command_grammar.proofs.program.with_commands.Given as goal

abbrev pub invariant-loop-grammar : goal.invariant-loop-grammar
invariant-loop-grammar l = app_of l.program ≡ fold with_grammar (app_of l.initial.program) (take l.grammar-index l.commands)

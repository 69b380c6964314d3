-- The command line that the tables of commands and words give. Only private clauses cite these words.
use Rattle.std.specs.Prelude.{fold, if◌then◌else◌}
use Rattle.clap.specs.Words.{App, new_app, with_subcommand}
use Rattle.options.specs.Options.{common_app}
use Rattle.options.specs.Words.{with_word}
use Rattle.command_grammar.specs.declared.grammar.Grammar.{Grammar}

-- a command before its own words
abbrev pub begun_app : Grammar → App
begun_app grammar = if grammar.has_days then common_app grammar.name.now else new_app grammar.name.now

abbrev pub grammar_app : Grammar → App
grammar_app grammar = fold with_word (begun_app grammar) grammar.words.now

-- a program with one more command
abbrev pub with_grammar : App → Grammar → App
with_grammar app grammar = with_subcommand app (grammar_app grammar).top

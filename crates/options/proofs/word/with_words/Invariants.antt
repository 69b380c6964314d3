use Rattle.std.proofs.Common.{◌≡◌, false, fold, take}
use Rattle.clap.specs.Words.{app_of}
use Rattle.clap.specs.declared.builder.command.Command.TheViews.{out-Command as fields_of}
use Rattle.options.specs.Words.{with_word}
use Rattle.options.proofs.word.with_words.Given as goal

abbrev pub invariant-loop-word : goal.invariant-loop-word
invariant-loop-word l = record {
  shape : app_of l.command ≡ fold with_word (app_of l.initial.command) (take l.word-index l.words);
  local : (fields_of l.command).has_globals ≡ false;
}

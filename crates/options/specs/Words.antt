-- The words that a command takes, one by one.
use Rattle.std.specs.Prelude.{ℕ, Some, pos, true}
use Rattle.clap.specs.Lexer.{usize_max}
use Rattle.clap.specs.Words.{App, Rule, Text, new_rule, with_rule}
use Rattle.clap.specs.declared.builder.value_parser.ValueParser.TheVariants as values
use Rattle.options.specs.Options.{defaulted_rule, flag_rule, number_rule, optional_rule, required_rule}
use Rattle.options.specs.declared.word.Word.{Word}
use Rattle.options.specs.declared.word.Word.TheVariants as words

-- a word that stands without an option
abbrev pub text_rule : Text → Rule
text_rule name = record (new_rule name) { value_names = 1 }

-- a word that stands without an option, once or more often
abbrev pub texts_rule : Text → Rule
texts_rule name =
    record (text_rule name) { range = Some (record { start_inclusive = 1; end_inclusive = usize_max }); required = true }

-- an option whose value is a whole number within bounds, and which may be left out
abbrev pub ranged_rule : Text → ℕ → ℕ → Rule
ranged_rule name least most = record (optional_rule name) { parser = Some (values.Signed (pos least) (pos most)) }

-- the rule of a word
abbrev pub word_rule : Word → Rule
word_rule (words.Required name shown help) = required_rule name.now
word_rule (words.Optional name shown help) = optional_rule name.now
word_rule (words.Defaulted name shown value help) = defaulted_rule name.now value.now
word_rule (words.Flag name help) = flag_rule name.now
word_rule (words.Number name shown value least most help) = number_rule name.now value.now least most
word_rule (words.Ranged name shown least most help) = ranged_rule name.now least most
word_rule (words.Text name shown help) = text_rule name.now
word_rule (words.Texts name shown help) = texts_rule name.now

-- a command with one more word
abbrev pub with_word : App → Word → App
with_word app word = with_rule app (word_rule word)

use Rattle.std.proofs.Common.{◌∙◌, ap, fold, sym, take}
use Rattle.std.proofs.lemmas.List.Sums.{fold_more}
use Rattle.clap.specs.Simple.{Shape, shape_of}
use Rattle.clap.specs.Words.{App, app_of, with_subcommand}
use Rattle.command_grammar.specs.Grammars.{with_grammar}
use Rattle.command_grammar.proofs.program.with_commands.Goals as goal

pub loop-grammar-preserved : goal.loop-grammar-preserved
loop-grammar-preserved c =
    let start = app_of c.args.program in
    let commands = c.args.commands.now in
    let i = c.loop-grammar.grammar-index in
    let command = c.in_ok-command.field-0 in
    let more = c.in_ok-program.ensures.shape c.in_ok-command.ensures.local in
    let top = ap (λ (a : App). a.top) c.in_ok-command.ensures.shape in
    more
    ∙ ap (λ (a : App). with_subcommand a (shape_of command)) c.loop-grammar.invariant
    ∙ ap (λ (s : Shape). with_subcommand (fold with_grammar start (take i commands)) s) top
    ∙ sym (fold_more with_grammar start commands i _ c.loop-grammar-test.true)

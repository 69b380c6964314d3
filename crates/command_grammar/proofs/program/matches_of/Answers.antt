use Rattle.std.proofs.Common.{◌≡◌, ◌∙◌, ap, subst, refl, map, List, true}
use Rattle.std.proofs.lemmas.Result.{IfOk-weaker}
use Rattle.clap.specs.Words.{App, Text, fault_of, FailsBy, subcommand_of, is_simple, is_simple_and_free}
use Rattle.command_grammar.specs.CommandLine.{program_app}
use Rattle.command_grammar.proofs.program.matches_of.Goals as goal

is_simple_program : is_simple program_app ≡ true
is_simple_program = refl

is_free_program : is_simple_and_free program_app ≡ true
is_free_program = refl

pub returns-clause-rows : goal.returns-clause-rows
returns-clause-rows c =
    let words : List Text = map (λ w. w.now) c.args.words.now in
    let is = c.in_ok-program.ensures.shape in
    IfOk-weaker c.try_get_matches_from.result _ _ (λ m h.
    (h (ap is_simple is ∙ is_simple_program)).1 ∙ ap (λ (a : App). subcommand_of a words) is) c.try_get_matches_from.ensures.matches

pub returns-clause-faults : goal.returns-clause-faults
returns-clause-faults c =
    let words : List Text = map (λ w. w.now) c.args.words.now in
    let is = c.in_ok-program.ensures.shape in
    subst (λ (a : App). FailsBy (fault_of a words) c.try_get_matches_from.result) is
    (c.try_get_matches_from.ensures.kinds (ap is_simple_and_free is ∙ is_free_program))

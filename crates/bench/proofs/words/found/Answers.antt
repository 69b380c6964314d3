use Rattle.std.proofs.Common.{◌≡◌, ◌∙◌, ap, subst, refl, map, List, true}
use Rattle.std.proofs.lemmas.Result.{IfOk-weaker}
use Rattle.clap.specs.declared.parser.matches.ArgMatches.{ArgMatches}
use Rattle.clap.specs.Words.{App, Text, HasMatchesOf, app_of, fault_of, FailsBy, found_of, matches_of, rows_of, is_simple, is_simple_and_free}
use Rattle.bench.specs.CommandLine.{bench_app}
use Rattle.bench.proofs.words.found.Goals as goal

is_simple_bench : is_simple bench_app ≡ true
is_simple_bench = refl

is_free_bench : is_simple_and_free bench_app ≡ true
is_free_bench = refl

-- the rows of a command that was built are those of the command line that it is
rows_are : (built line : App) (words : List Text) (m : ArgMatches) → built ≡ line → is_simple line ≡ true → HasMatchesOf built words m → rows_of (found_of m) ≡ matches_of line words
rows_are built line words m is simple h = (h (ap is_simple is ∙ simple)).0 ∙ ap (λ (a : App). matches_of a words) is

pub returns-clause-rows : goal.returns-clause-rows
returns-clause-rows c =
    let words : List Text = map (λ w. w.now) c.args.words.now in
    let built = app_of c.in_ok-command.field-0 in
    IfOk-weaker c.try_get_matches_from.result (HasMatchesOf built words) (λ (m : ArgMatches). rows_of (found_of m) ≡ matches_of bench_app words)
    (λ m h. rows_are built bench_app words m c.in_ok-command.ensures.shape is_simple_bench h) c.try_get_matches_from.ensures.matches

pub returns-clause-faults : goal.returns-clause-faults
returns-clause-faults c =
    let words : List Text = map (λ w. w.now) c.args.words.now in
    let is = c.in_ok-command.ensures.shape in
    subst (λ (a : App). FailsBy (fault_of a words) c.try_get_matches_from.result) is
    (c.try_get_matches_from.ensures.kinds (ap is_simple_and_free is ∙ is_free_bench))

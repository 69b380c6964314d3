use Rattle.std.proofs.Common.{◌∙◌, ◌||◌, Bool, ap, fold, sym, take}
use Rattle.std.proofs.lemmas.List.Sums.{fold_more}
use Rattle.clap.specs.Words.{App, Rule, app_of, rule_of, with_rule}
use Rattle.options.specs.Words.{with_word}
use Rattle.options.proofs.word.with_words.Goals as goal

pub loop-word-preserved : goal.loop-word-preserved
loop-word-preserved c =
    let start = app_of c.args.command in
    let words = c.args.words.now in
    let i = c.loop-word.word-index in
    let adds = c.in_ok-command.ensures in
    let plain = c.arg.ensures.local in
    record {
      shape =
          adds.shape plain
          ∙ ap (λ (a : App). with_rule a (rule_of c.arg.result)) c.loop-word.invariant.shape
          ∙ ap (λ (r : Rule). with_rule (fold with_word start (take i words)) r) c.arg.ensures.rule
          ∙ sym (fold_more with_word start words i _ c.loop-word-test.true);
      local = adds.globals ∙ ap (λ (b : Bool). b || c.arg.result.global) c.loop-word.invariant.local ∙ plain;
    }

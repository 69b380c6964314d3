use Rattle.std.proofs.Common.{◌≡◌, ◌≢◌, ◌∙◌, ◌==◌, Contains, List, ℕ, filter, Some, None, length, not, ap, subst, rules, tests}
use Rattle.std.specs.Str.Lines.{lines}
use Rattle.std.proofs.lemmas.Iterator.{IsFirst-from_position}
use Rattle.std.proofs.lemmas.Iterator.Splits.{YieldsList-from_lines}
use Rattle.csv.specs.Reading.{strip_bom}
use Rattle.stop_lists.proofs.PlaceFacts.{line_after, no_line}
use Rattle.stop_lists.proofs.ids.line_of.Goals as goal

pub returns-in_err-before-clause-none : goal.returns-in_err-before-clause-none
returns-in_err-before-clause-none c =
    let id = c.args.id.now in
    let text = c.in-Ok.text.now in
    let same = ap lines (c.in-Ok.ensures.cases.0 ∙ c.after_mark.ensures) in
    let first = IsFirst-from_position _ _ None (λ line. line ≡ id) (λ line. line ≢ id) c.in_err-before.ensures.ran
    (YieldsList-from_lines text c.lines.ensures.rest) (λ x q k. search (rules, tests)) (λ x q k. search (rules, tests)) in
    let some = λ (line : List ℕ). not (length line == 0) in
    let gone : ¬ Contains (filter some (lines (strip_bom c.args.bytes.now))) id =
    subst (λ (all : List (List ℕ)). ¬ Contains (filter some all) id) same (no_line id (lines text) some first) in
    rw c.from_residual.ensures (λ text. gone)

pub returns-clause-line : goal.returns-clause-line
returns-clause-line c =
    let id = c.args.id.now in
    let text = c.in-Ok.text.now in
    let same = ap lines (c.in-Ok.ensures.cases.0 ∙ c.after_mark.ensures) in
    let first = IsFirst-from_position _ _ (Some c.in_ok-before.before) (λ line. line ≡ id) (λ line. line ≢ id) c.in_ok-before.ensures.ran
    (YieldsList-from_lines text c.lines.ensures.rest) (λ x q k. search (rules, tests)) (λ x q k. search (rules, tests)) in
    line_after c.args.bytes.now id (lines text) c.in_ok-before.before same first.0 first.1 first.2

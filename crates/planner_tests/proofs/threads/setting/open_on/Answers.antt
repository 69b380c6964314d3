use Rattle.std.proofs.Common.{◌≡◌, ◌∙◌, Option, ap, subst, sym}
use Rattle.std.specs.Prelude.{IfSome}
use Rattle.std.proofs.lemmas.List.Elements.{All-pop}
use Rattle.board.specs.Ties.{BoardPart}
use Rattle.planner_tests.proofs.threads.setting.open_on.Goals as goal

pub returns-clause-reader : goal.returns-clause-reader
returns-clause-reader g c =
    let opened = c.in-Ok-open.opened in
    let P = λ (reader : BoardPart). reader ≡ record { origin = opened.desk.board.origin; told = opened.desk.board.told } in
    let is : P c.in-Some.reader = subst (λ (popped : Option BoardPart). IfSome popped P) c.in-Some.is (All-pop P _ _ _ c.pop.ensures.items c.in-Ok-open.ensures.each).1 in
    ap (λ (part : BoardPart). part.origin.form) is ∙ c.in-Ok-open.ensures.own ∙ sym (ap (λ p. p.form) c.in-Ok-open.ensures.planner)

pub returns-clause-board : goal.returns-clause-board
returns-clause-board g c =
    let opened = c.in-Ok-open.opened in
    let P = λ (reader : BoardPart). reader ≡ record { origin = opened.desk.board.origin; told = opened.desk.board.told } in
    let is : P c.in-Some.reader = subst (λ (popped : Option BoardPart). IfSome popped P) c.in-Some.is (All-pop P _ _ _ c.pop.ensures.items c.in-Ok-open.ensures.each).1 in
    ap (λ (part : BoardPart). part.told.book) is

use Rattle.std.proofs.Common.{◌≡◌, ◌∙◌, ℕ, List, map, ap, sym, subst}
use Rattle.timetable.specs.declared.parts.Numbers.{Numbers}
use Rattle.timetable.specs.Front.{AreFront}
use Rattle.timetable.specs.Table.{Table}
use Rattle.pattern_query.specs.Answer.{PointData, numbers}
use Rattle.auditing.specs.Comparing.{ridden}
use Rattle.auditing.proofs.CompareFacts.{compared}
use Rattle.auditing.proofs.comparing.agree.Goals as goal

pub returns : goal.returns
returns c =
    let table = c.args.network.now in
    let tree = c.args.patterns.now in
    let k = c.args.rides in
    let t = c.args.to in
    let d = c.args.depart in
    let asked : List Numbers = map numbers c.ask_any-asked.result in
    let found : List Numbers = c.points-found.result.items in
    let left : c.as_slice-2.result.now ≡ ridden asked =
    c.as_slice-2.ensures.value ∙ c.in_ok-asked.ensures ∙ ap (λ (ps : List PointData). ridden (map numbers ps)) c.points.ensures in
    let right : c.as_slice-3.result.now ≡ ridden found = c.as_slice-3.ensures.value ∙ c.in_ok-found.ensures ∙ ap ridden c.as_slice.ensures.value in
    let front : AreFront table k tree.source t d found = subst (λ (s : ℕ). AreFront table k s t d found) c.source-source.ensures
    (subst (λ (x : Table). AreFront x k c.source-source.result t d found) c.timetable.ensures.value c.points-found.ensures) in
    compared table tree k t d asked found c.ask_any-asked.ensures.best front c.are_equal.result
    (λ h. sym left ∙ c.are_equal.ensures.0 h ∙ right, λ e. c.are_equal.ensures.1 (left ∙ e ∙ sym right))

use Rattle.std.proofs.Common.{◌≡◌, ℕ, List, subst}
use Rattle.pattern_query.specs.Answer.{PointData}
use Rattle.pattern_query.specs.Questions.{Held, IsAskedPoint}
use Rattle.pattern_query.specs.Leaving.{LeavesLast}
use Rattle.connections.specs.declared.connection.Connection.{Connection}
use Rattle.connections.specs.Found.{AddsSome, IsLastBefore, Scope, points_in}
use Rattle.connections.proofs.FoundFacts.{found_more, more_hold}
use Rattle.connections.proofs.TreeFacts.{connects_last, last_connects}
use Rattle.connections.proofs.asking.add_answer.Goals as goal

-- what was added, by the answers
added : (e : ℕ) (answer next points others : List PointData) (old new : List Connection) → points ≡ answer → others ≡ next
    → AddsSome (IsLastBefore others) e points old new → AddsSome (IsLastBefore next) e answer old new
added e answer next points others old new is are adds =
    subst (λ (ps : List PointData). AddsSome (IsLastBefore next) e ps old new) is (subst (λ (ps : List PointData). AddsSome (IsLastBefore ps) e points old new) are adds)

pub returns-clause-best : goal.returns-clause-best
returns-clause-best g c = c.ask_at-answer.ensures.best

pub returns-clause-points : goal.returns-clause-points
returns-clause-points g c = λ were.
    let held : Held = g.T.Trees.held c.args.trees.now in
    let next = points_in c.args.next.now in
    more_hold (IsAskedPoint c.args.network.now held c.args.froms.now c.args.tos.now) c.args.event (IsLastBefore next) c.ask_at-answer.result c.args.found.now.items
    c.add_last.new.found.items c.ask_at-answer.ensures.points
    (added c.args.event c.ask_at-answer.result next c.points.result.now c.points_of.result.now c.args.found.now.items c.add_last.new.found.items
    c.points.ensures c.points_of.ensures c.in_ok-add_last.ensures) were

pub returns-clause-last : goal.returns-clause-last
returns-clause-last g c = λ were.
    let T = c.args.network.now in
    let held : Held = g.T.Trees.held c.args.trees.now in
    let next = points_in c.args.next.now in
    more_hold (λ d p. LeavesLast T (IsAskedPoint T held c.args.froms.now c.args.tos.now d) p) c.args.event (IsLastBefore next) c.ask_at-answer.result c.args.found.now.items
    c.add_last.new.found.items c.ask_at-answer.ensures.last
    (added c.args.event c.ask_at-answer.result next c.points.result.now c.points_of.result.now c.args.found.now.items c.add_last.new.found.items
    c.points.ensures c.points_of.ensures c.in_ok-add_last.ensures) were

pub returns-clause-found : goal.returns-clause-found
returns-clause-found g c = λ scope last is within found.
    let T = c.args.network.now in
    let held : Held = g.T.Trees.held c.args.trees.now in
    let e = c.args.event in
    let answer = c.ask_at-answer.result in
    let next = points_in c.args.next.now in
    let Of = Scope T held c.args.froms.now c.args.tos.now scope in
    let best = c.ask_at-answer.ensures.best scope is in
    let after = c.requires.after scope is in
    found_more Of (IsLastBefore next) e last answer c.args.found.now.items c.add_last.new.found.items best
    (last_connects Of e answer next best after) (connects_last Of e answer next best after)
    (added e answer next c.points.result.now c.points_of.result.now c.args.found.now.items c.add_last.new.found.items c.points.ensures c.points_of.ensures c.in_ok-add_last.ensures)
    within found

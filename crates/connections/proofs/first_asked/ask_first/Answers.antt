use Rattle.std.proofs.Common.{Option, Some, None, ◌≡◌, ℕ, ◌+◌, ◌≤◌, ◌++◌, List, length, arith, le_refl, sym, subst}
use Rattle.std.specs.List.{All}
use Rattle.std.proofs.lemmas.List.Elements.{All-append}
use Rattle.timetable.specs.Table.{Table}
use Rattle.pattern_query.specs.Questions.{AreComplete, AskedReaches, Held, IsAskedPoint, ReachesBetween}
use Rattle.connections.specs.declared.connection.Connection.{Connection}
use Rattle.connections.specs.declared.connection.Window.{Window}
use Rattle.connections.specs.Connections.{AreConnections, AreConnectionsBefore, WalksLeast}
use Rattle.connections.specs.Found.{IsScope, Scope}
use Rattle.connections.proofs.LeaveFacts.{asked_then}
use Rattle.connections.proofs.FirstFacts.{none_before, one_step}
use Rattle.connections.proofs.first_asked.ask_first.Goals.{then-loop-next-test+else-len-enough, else-loop-next-test}
use Rattle.connections.proofs.first_asked.ask_first.Goals as goal

-- what is asked of a step, for each scope
of_scope : (table : Table) (held : Held) (froms tos : List ℕ) (step : Window) (list : List Connection)
    → AreConnections (AskedReaches table held froms tos) step list
    → ((k : ℕ) → AreComplete table held k froms → AreConnections (ReachesBetween table k froms tos) step list)
    → (scope : Option ℕ) → IsScope table held froms scope → AreConnections (Scope table held froms tos scope) step list
of_scope table held froms tos step list best exact None is = best
of_scope table held froms tos step list best exact (Some k) complete = exact k complete

pub loop-next-init : goal.loop-next-init
loop-next-init g c =
    let T = c.args.network.now in
    let held : Held = g.T.Trees.held c.args.trees.now in
    let froms = c.args.froms.now in
    let tos = c.args.tos.now in
    record {
      after = le_refl c.args.window.first;
      has = λ scope is.
          subst (λ (l : List Connection). AreConnectionsBefore (Scope T held froms tos scope) c.args.window c.args.window.first l)
          (sym c.new-connections.ensures.items) (none_before (Scope T held froms tos scope) c.args.window);
      points = subst (λ (l : List Connection). All (λ (x : Connection). IsAskedPoint T held froms tos x.departure x.journey) l)
          (sym c.new-connections.ensures.items) (λ i d lt. absurd (let z : ⊥ = omega (arith, lt) in z));
      last = subst (λ (l : List Connection). All (WalksLeast T held froms tos) l)
          (sym c.new-connections.ensures.items) (λ i d lt. absurd (let z : ⊥ = omega (arith, lt) in z));
    }

pub loop-next-preserved : goal.loop-next-preserved
loop-next-preserved g c =
    let T = c.args.network.now in
    let held : Held = g.T.Trees.held c.args.trees.now in
    let froms = c.args.froms.now in
    let tos = c.args.tos.now in
    let inv = c.loop-next.invariant in
    let step = c.step_of-step.result in
    let first = c.step_of-step.ensures.first in
    let some = c.step_of-step.ensures.some in
    let within = c.step_of-step.ensures.within in
    let after = inv.after in
    let list = c.loop-next.connections.items in
    let more = c.in_ok-more.more.items in
    let items : c.append.new.self.items ≡ list ++ more = c.in_ok-append.ensures.items in
    let Is = λ (x : Connection). IsAskedPoint T held froms tos x.departure x.journey in
    record {
      after = omega (arith, first, some, after);
      has = λ scope is. subst (λ (l : List Connection). AreConnectionsBefore (Scope T held froms tos scope) c.args.window (step.last + 1) l) (sym items)
          (one_step (Scope T held froms tos scope) c.args.window c.loop-next.next step list more first some within after (inv.has scope is)
          (of_scope T held froms tos step more c.in_ok-more.ensures.best c.in_ok-more.ensures.exact scope is));
      points = subst (λ (l : List Connection). All Is l) (sym items) (All-append Is list more inv.points c.in_ok-more.ensures.points);
      last = subst (λ (l : List Connection). All (WalksLeast T held froms tos) l) (sym items)
          (All-append (WalksLeast T held froms tos) list more inv.last c.in_ok-more.ensures.last);
    }

-- so much is enough, if the window goes on
enough_found : (g : _) (c : goal.Left-loop-next g) → c.loop-next.next ≤ c.args.window.last → c.args.enough ≤ length c.loop-next.connections.items
enough_found g c le = elim c.loop-next-test.branch [
  | then-loop-next-test+else-len-enough w ↦ (let f = w.if-len-enough.false in let l = w.len.ensures in let o = c.loop-next.connections.ok.0 in omega (arith, f, l, o))
  | else-loop-next-test w ↦ absurd (let f = w.loop-next-test.false in let z : ⊥ = omega (arith, f, le) in z)
]

pub returns-clause-best : goal.returns-clause-best
returns-clause-best g c = record { are = c.loop-next.invariant.has None tt; some = enough_found g c }

pub returns-clause-exact : goal.returns-clause-exact
returns-clause-exact g c = λ k complete. record { are = c.loop-next.invariant.has (Some k) complete; some = enough_found g c }

pub returns-clause-departures : goal.returns-clause-departures
returns-clause-departures g c =
    asked_then c.args.network.now (g.T.Trees.held c.args.trees.now) c.args.froms.now c.args.tos.now c.args.window c.loop-next.connections.items
    (c.loop-next.invariant.has None tt).each c.loop-next.invariant.points

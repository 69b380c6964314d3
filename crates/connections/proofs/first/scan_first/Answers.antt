use Rattle.std.proofs.Common.{◌≡◌, ◌∙◌, ℕ, ◌+◌, ◌++◌, List, arith, sym, subst}
use Rattle.std.specs.List.{All}
use Rattle.std.proofs.lemmas.List.Elements.{All-append}
use Rattle.timetable.specs.Journeys.{Reaches}
use Rattle.pattern_query.specs.Answer.{IsJourney}
use Rattle.rounds.specs.Scratch.{rides_of}
use Rattle.connections.specs.declared.connection.Connection.{Connection}
use Rattle.connections.specs.Connections.{AreConnections, AreConnectionsBefore}
use Rattle.connections.proofs.LeaveFacts.{scanned_then}
use Rattle.connections.proofs.FirstFacts.{one_step}
use Rattle.connections.proofs.first.scan_first.Goals as goal

pub loop-next-preserved : goal.loop-next-preserved
loop-next-preserved c =
    let T = c.args.network.now in
    let s = c.args.from in
    let t = c.args.to in
    let k = rides_of c.args.scratch.now in
    let inv = c.loop-next.invariant in
    let step = c.step_of-step.result in
    let first = c.step_of-step.ensures.first in
    let some = c.step_of-step.ensures.some in
    let within = c.step_of-step.ensures.within in
    let after = inv.after in
    let list = c.loop-next.connections.items in
    let more = c.in_ok-more.more.items in
    let items : c.append.new.self.items ≡ list ++ more = c.in_ok-append.ensures.items in
    let right : AreConnections (Reaches T 0 k s t) step more =
    subst (λ (x : ℕ). AreConnections (Reaches T 0 x s t) step more) inv.same.rides c.in_ok-more.ensures.right in
    let same = c.scan_connections.ensures.same in
    let Is = λ (x : Connection). IsJourney T s t x.departure x.journey in
    record {
      same = record { rides = same.rides ∙ inv.same.rides; made = λ table is. same.made table (inv.same.made table is) };
      after = omega (arith, first, some, after);
      has = subst (λ (l : List Connection). AreConnectionsBefore (Reaches T 0 k s t) c.args.window (step.last + 1) l) (sym items)
          (one_step (Reaches T 0 k s t) c.args.window c.loop-next.next step list more first some within after inv.has right);
      journeys = subst (λ (l : List Connection). All Is l) (sym items) (All-append Is list more inv.journeys c.in_ok-more.ensures.journeys);
    }

pub returns-clause-departures : goal.returns-clause-departures
returns-clause-departures c =
    scanned_then c.args.network.now (rides_of c.args.scratch.now) c.args.from c.args.to c.args.window c.loop-next.connections.items
    c.loop-next.invariant.has.each c.loop-next.invariant.journeys

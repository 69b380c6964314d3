use Rattle.std.proofs.Common.{◌≡◌, ◌<◌, ◌≤◌, ℕ, true, List, All, sym, subst}
use Rattle.std.specs.List.{AllZip}
use Rattle.timetable.specs.Journeys.{Reaches, foot}
use Rattle.timetable.specs.Table.{Table, stops_of}
use Rattle.timetable.specs.declared.parts.TheConstants.{LATEST_MOMENT}
use Rattle.pattern_query.specs.Answer.{IsJourney}
use Rattle.pattern_query.specs.Leaving.{LeavesLast}
use Rattle.rounds.specs.Scratch.{IsMadeFor, rides_of}
use Rattle.connections.specs.Connections.{AreFirst, IsScanned}
use Rattle.connections.specs.declared.connection.Connection.{Connection}
use Rattle.told_connections.specs.Next.{AreChosen, AreWalked}
use Rattle.told_connections.specs.Windows.{TellsConnection, between}
use Rattle.told_connections.proofs.LikeFacts.{chosen_like, scanned_all, walked_early, walked_journeys, walked_least, walked_like}
use Rattle.told_connections.proofs.NextFacts.{chosen_all, chosen_are, departs_early}
use Rattle.told_connections.proofs.ToldFacts.{known_all}
use Rattle.feed_basis.specs.Points.{IsKnownJourney}
use Rattle.told_connections.proofs.asking.found_within.Goals as goal

pub walked-requires-clause-made : goal.walked-requires-clause-made
walked-requires-clause-made c =
    c.scan_first.ensures.same.made c.in_ok-network.network
    (subst (λ (table : Table). IsMadeFor c.in_ok-scratch.scratch table) c.timetable.ensures.value c.in_ok-scratch.ensures.table)

pub walked-requires-clause-scanned : goal.walked-requires-clause-scanned
walked-requires-clause-scanned c =
    let T = c.in_ok-network.network in
    let k = rides_of c.in_ok-scratch.scratch in
    let found = c.in_ok-first.first in
    let told = c.chosen-told.result in
    let list = told.connections.items in
    let from = subst (λ (table : Table). c.args.asked.from < stops_of table) (sym c.in_ok-network.ensures) c.requires.from in
    let window = between c.args.asked.depart c.args.last in
    let are = scanned_all T c.args.asked.from c.args.asked.to k window from c.requires.early found.connections.items c.in_ok-first.ensures.journeys
    c.in_ok-first.ensures.departures c.in_ok-first.ensures.right.are.each in
    subst (λ (k : ℕ). All (IsScanned T k) list) (sym c.scan_first.ensures.same.rides)
    (chosen_all (IsScanned T k) c.args.next found.connections.items found.next list told.next c.chosen-told.ensures are)

pub tell_connections-requires-clause-early : goal.tell_connections-requires-clause-early
tell_connections-requires-clause-early c =
    let found = c.in_ok-first.first in
    let told = c.chosen-told.result in
    let list = c.in_ok-connections.connections.items in
    let Early = λ (x : Connection). x.departure ≤ LATEST_MOMENT in
    subst (λ (l : List Connection). All Early l) (sym c.deref.ensures.value)
    (walked_early c.in_ok-network.network LATEST_MOMENT c.args.legs told.connections.items list c.in_ok-connections.ensures
    (chosen_all Early c.args.next found.connections.items found.next told.connections.items told.next c.chosen-told.ensures
    (departs_early (Reaches c.in_ok-network.network 0 (rides_of c.in_ok-scratch.scratch) c.args.asked.from c.args.asked.to)
    (between c.args.asked.depart c.args.last) c.enough_for.result found.connections.items found.next LATEST_MOMENT c.in_ok-first.ensures.right
    c.requires.early)))

pub tell_connections-requires-clause-known : goal.tell_connections-requires-clause-known
tell_connections-requires-clause-known c =
    let basis = c.args.basis.now in
    let s = c.args.asked.from in
    let t = c.args.asked.to in
    let T = c.in_ok-network.network in
    let found = c.in_ok-first.first in
    let told = c.chosen-told.result in
    let list = c.in_ok-connections.connections.items in
    let chosen = chosen_all (λ (x : Connection). IsJourney T s t x.departure x.journey) c.args.next found.connections.items found.next
    told.connections.items told.next c.chosen-told.ensures c.in_ok-first.ensures.journeys in
    let walked = walked_journeys T s t c.args.legs told.connections.items list c.in_ok-connections.ensures chosen in
    let journeys = subst (λ (table : Table). All (λ (x : Connection). IsJourney table s t x.departure x.journey) list) c.in_ok-network.ensures walked in
    subst (λ (l : List Connection). All (λ (x : Connection). IsKnownJourney basis x.departure x.journey) l) (sym c.deref.ensures.value)
    (known_all basis c.requires.sound s t c.requires.from c.requires.to list journeys)

pub returns : goal.returns
returns c =
    let basis = c.args.basis.now in
    let s = c.args.asked.from in
    let t = c.args.asked.to in
    let window = between c.args.asked.depart c.args.last in
    let T = c.in_ok-network.network in
    let found = c.in_ok-first.first in
    let told = c.chosen-told.result in
    let list = c.in_ok-connections.connections.items in
    let walked : AreWalked T c.args.legs told.connections.items list = c.in_ok-connections.ensures in
    let chosen = chosen_all (λ (x : Connection). IsJourney T s t x.departure x.journey) c.args.next found.connections.items found.next
    told.connections.items told.next c.chosen-told.ensures c.in_ok-first.ensures.journeys in
    let of_rides = subst (λ (k : ℕ). AreFirst (Reaches T 0 k s t) window c.enough_for.result found.connections.items found.next)
    c.in_ok-scratch.ensures.rides c.in_ok-first.ensures.right in
    let right = chosen_like (Reaches T 0 c.args.rides s t) window told.connections.items list
    (walked_like T c.args.legs told.connections.items list walked) c.args.next told.next
    (chosen_are (Reaches T 0 c.args.rides s t) window c.args.next c.enough_for.result found.connections.items found.next
    told.connections.items told.next c.enough_for.ensures of_rides c.chosen-told.ensures) in
    record {
      found = list;
      next = told.next;
      journeys = subst (λ (table : Table). All (λ (x : Connection). IsJourney table s t x.departure x.journey) list) c.in_ok-network.ensures
          (walked_journeys T s t c.args.legs told.connections.items list walked chosen);
      least = subst (λ (table : Table). c.args.legs ≡ true → All (λ (x : Connection). LeavesLast table (IsJourney table s t x.departure) x.journey) list)
          c.in_ok-network.ensures (walked_least T s t c.args.legs told.connections.items list walked chosen);
      right = subst (λ (table : Table). AreChosen (Reaches table 0 c.args.rides s t) window c.args.next list told.next) c.in_ok-network.ensures right;
      told = subst (λ (l : List Connection). AllZip (TellsConnection basis c.args.legs) l c.in_ok-tell_connections.field-0.items) c.deref.ensures.value
          c.in_ok-tell_connections.ensures;
      rest = c.tell_next.ensures;
      walk = subst (λ (table : Table). c.foot.result ≡ foot table s t) c.timetable-2.ensures.value c.foot.ensures;
    }

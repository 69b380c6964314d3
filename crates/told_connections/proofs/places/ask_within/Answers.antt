use Rattle.std.proofs.Common.{◌≡◌, ◌∙◌, ℕ, ◌≤◌, List, Some, All, inl, inr, sym, subst}
use Rattle.std.proofs.lemmas.Result.{err_from_is_err_and}
use Rattle.std.specs.List.{AllZip}
use Rattle.timetable.specs.Journeys.{IsLeast}
use Rattle.timetable.specs.declared.parts.TheConstants.{LATEST_MOMENT}
use Rattle.feed_ids.specs.Names.{stops_at}
use Rattle.pattern_query.specs.Questions.{AreComplete, AskedReaches, Held, IsAskedPoint, ReachesBetween}
use Rattle.connections.specs.Connections.{WalksLeast}
use Rattle.connections.specs.declared.connection.Connection.{Connection}
use Rattle.told_connections.specs.Next.{AreChosen}
use Rattle.told_connections.specs.Windows.{IsWalk, TellsConnection, between}
use Rattle.told_connections.proofs.NextFacts.{chosen_all, chosen_are, departs_early}
use Rattle.told_connections.proofs.ToldFacts.{asked_known, known_stops, moved}
use Rattle.feed_basis.specs.Points.{IsKnownJourney}
use Rattle.told_connections.proofs.places.ask_within.Goals as goal

pub tell_connections-requires-clause-known : goal.tell_connections-requires-clause-known
tell_connections-requires-clause-known g c =
    let basis = c.args.basis.now in
    let held : Held = g.T.Trees.held c.args.trees.now in
    let question = c.args.question.now in
    let asked = c.in_ok-first.ensures.found in
    let sound = c.in_ok-first.ensures.sound in
    let fs = c.stops_of_any-froms.result.now in
    let ts = c.stops_of_any-tos.result.now in
    let found = c.in_ok-found.found in
    let list = c.chosen-told.result.connections.items in
    let froms : fs ≡ asked.froms = c.stops_of_any-froms.ensures asked.froms
    (c.place_named-start.ensures ∙ subst (λ n. stops_at n question.from.now ≡ Some asked.froms) (sym c.names.ensures.value) asked.leaves) in
    let tos : ts ≡ asked.tos = c.stops_of_any-tos.ensures asked.tos
    (c.place_named-end.ensures ∙ subst (λ n. stops_at n question.to.now ≡ Some asked.tos) (sym c.names-2.ensures.value) asked.reaches) in
    let points = moved (λ t f u. All (λ (x : Connection). IsAskedPoint t held f u x.departure x.journey) list)
    c.args.network.now basis.timetable fs asked.froms ts asked.tos c.requires.network froms tos
    (chosen_all (λ (x : Connection). IsAskedPoint c.args.network.now held fs ts x.departure x.journey) c.args.times.next found.connections.items
    found.next list c.chosen-told.result.next c.chosen-told.ensures c.in_ok-found.ensures.points) in
    subst (λ (l : List Connection). All (λ (x : Connection). IsKnownJourney basis x.departure x.journey) l) (sym c.deref.ensures.value)
    (asked_known basis sound held asked.froms asked.tos (known_stops basis sound question.from.now asked.froms asked.leaves)
    (known_stops basis sound question.to.now asked.tos asked.reaches) list points)

pub tell_connections-requires-clause-early : goal.tell_connections-requires-clause-early
tell_connections-requires-clause-early g c =
    let held : Held = g.T.Trees.held c.args.trees.now in
    let found = c.in_ok-found.found in
    let told = c.chosen-told.result in
    let Early = λ (x : Connection). x.departure ≤ LATEST_MOMENT in
    subst (λ (l : List Connection). All Early l) (sym c.deref.ensures.value)
    (chosen_all Early c.args.times.next found.connections.items found.next told.connections.items told.next c.chosen-told.ensures
    (departs_early (AskedReaches c.args.network.now held c.stops_of_any-froms.result.now c.stops_of_any-tos.result.now)
    (between c.in_ok-first.first c.in-Some.last) c.enough_for-enough.result found.connections.items found.next LATEST_MOMENT
    c.in_ok-found.ensures.best c.in-Some.ensures.early))

pub returns-clause-answer : goal.returns-clause-answer
returns-clause-answer g c =
    let basis = c.args.basis.now in
    let held : Held = g.T.Trees.held c.args.trees.now in
    let question = c.args.question.now in
    let asked = c.in_ok-first.ensures.found in
    let moment = c.in_ok-first.ensures.moment in
    let until = c.in-Some.ensures.moment in
    let T = c.args.network.now in
    let same = c.requires.network in
    let fs = c.stops_of_any-froms.result.now in
    let ts = c.stops_of_any-tos.result.now in
    let window = between c.in_ok-first.first c.in-Some.last in
    let found = c.in_ok-found.found in
    let wanted = c.args.times.next in
    let list = c.chosen-told.result.connections.items in
    let next = c.chosen-told.result.next in
    let chooses = c.chosen-told.ensures in
    let enough = c.enough_for-enough in
    let froms : fs ≡ asked.froms = c.stops_of_any-froms.ensures asked.froms
    (c.place_named-start.ensures ∙ subst (λ n. stops_at n question.from.now ≡ Some asked.froms) (sym c.names.ensures.value) asked.leaves) in
    let tos : ts ≡ asked.tos = c.stops_of_any-tos.ensures asked.tos
    (c.place_named-end.ensures ∙ subst (λ n. stops_at n question.to.now ≡ Some asked.tos) (sym c.names-2.ensures.value) asked.reaches) in
    record {
      froms = asked.froms;
      tos = asked.tos;
      first = c.in_ok-first.first;
      last = c.in-Some.last;
      asked = record { leaves = asked.leaves; reaches = asked.reaches; leaves_at = moment.0; covered = moment.1 };
      until_is = until.0;
      covered = until.1;
      right = record {
        stored = asked.stored;
        found = list;
        next = next;
        journeys = moved (λ t f u. All (λ (x : Connection). IsAskedPoint t held f u x.departure x.journey) list)
            T basis.timetable fs asked.froms ts asked.tos same froms tos
            (chosen_all (λ (x : Connection). IsAskedPoint T held fs ts x.departure x.journey) wanted found.connections.items found.next list next
            chooses c.in_ok-found.ensures.points);
        least = moved (λ t f u. All (WalksLeast t held f u) list) T basis.timetable fs asked.froms ts asked.tos same froms tos
            (chosen_all (WalksLeast T held fs ts) wanted found.connections.items found.next list next chooses c.in_ok-found.ensures.last);
        right = moved (λ t f u. AreChosen (AskedReaches t held f u) window wanted list next)
            T basis.timetable fs asked.froms ts asked.tos same froms tos
            (chosen_are (AskedReaches T held fs ts) window wanted enough.result found.connections.items found.next list next enough.ensures
            c.in_ok-found.ensures.best chooses);
        exact = moved (λ t f u. (k : ℕ) → AreComplete t held k f → AreChosen (ReachesBetween t k f u) window wanted list next)
            T basis.timetable fs asked.froms ts asked.tos same froms tos
            (λ k complete. chosen_are (ReachesBetween T k fs ts) window wanted enough.result found.connections.items found.next list next
            enough.ensures (c.in_ok-found.ensures.exact k complete) chooses);
        told = subst (λ (l : List Connection). AllZip (TellsConnection basis c.args.legs) l c.in_ok-tell_connections.field-0.items) c.deref.ensures.value
            c.in_ok-tell_connections.ensures;
        rest = c.tell_next.ensures;
        walk = moved (λ t f u. IsLeast (IsWalk t f u) c.least_walk.result)
            c.timetable.result.now basis.timetable fs asked.froms ts asked.tos c.timetable.ensures.value froms tos c.least_walk.ensures;
      };
    }

pub returns-in_err-first-clause-refusal : goal.returns-in_err-first-clause-refusal
returns-in_err-first-clause-refusal g c =
    let p = err_from_is_err_and c.from_residual.result c.from_residual.ensures.1 in
    rw (p.1, p.2) (inl c.in_err-first.ensures.refusal)

pub returns-in_default-clause-refusal : goal.returns-in_default-clause-refusal
returns-in_default-clause-refusal g c =
    let asked = c.in_ok-first.ensures.found in
    inr (((asked.froms, asked.leaves), (asked.tos, asked.reaches)), c.in_default.ensures.none)

pub returns-in_err-found-clause-refusal : goal.returns-in_err-found-clause-refusal
returns-in_err-found-clause-refusal g c =
    let p = err_from_is_err_and c.from_residual-in_err-found.result c.from_residual-in_err-found.ensures.1 in
    rw (p.1, p.2) (inl tt)

pub returns-in_err-tell_connections-clause-refusal : goal.returns-in_err-tell_connections-clause-refusal
returns-in_err-tell_connections-clause-refusal g c =
    let p = err_from_is_err_and c.from_residual-in_err-tell_connections.result c.from_residual-in_err-tell_connections.ensures.1 in
    rw (p.1, p.2) (inl tt)

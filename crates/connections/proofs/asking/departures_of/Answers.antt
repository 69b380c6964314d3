use Rattle.std.proofs.Common.{◌≡◌, ◌≤◌, ℕ, ◌+◌, ◌++◌, List, [], length, eqb, take, sym, subst}
use Rattle.std.specs.List.{dedup}
use Rattle.std.specs.List.Sorted.{IsPermutation, IsSorted}
use Rattle.std.specs.Ordering.{nat_cmp}
use Rattle.std.proofs.lemmas.List.{take_all}
use Rattle.std.proofs.lemmas.List.Filters.{dedup_is}
use Rattle.timetable.specs.Table.{Table}
use Rattle.rounds.specs.Events.{AreEvents}
use Rattle.connections.specs.Found.{AreMoments, IsEventOf}
use Rattle.connections.proofs.MomentFacts.{AreGathered, gathered_more, moments_early, moments_of, none_gathered}
use Rattle.connections.proofs.asking.departures_of.Goals as goal

pub loop-stop-init : goal.loop-stop-init
loop-stop-init c = subst (λ (l : List ℕ). AreGathered c.args.network.now [] l) (sym c.new-moments.ensures.items) (none_gathered c.args.network.now)

pub loop-stop-preserved : goal.loop-stop-preserved
loop-stop-preserved c =
    let T = c.args.network.now in
    let stops = c.args.stops.now in
    let s = c.stop-item.result in
    let moments = c.loop-stop.moments.items in
    let more = c.in_ok-more.more.items in
    let items : c.append.new.self.items ≡ moments ++ more = c.in_ok-append.ensures.items in
    let events : AreEvents T s more = subst (λ (t : Table). AreEvents t s more) c.timetable-table.ensures.value c.in_ok-more.ensures in
    subst (λ (l : List ℕ). AreGathered T (take (c.loop-stop.stop-index + 1) stops) l) (sym items)
    (gathered_more T stops c.loop-stop.stop-index s moments more c.loop-stop-test.true c.stop-item.is c.loop-stop.invariant events)

-- the events of all the stops
are_moments : (T : Table) (stops gathered sorted moments : List ℕ) (i : ℕ) → length stops ≤ i → AreGathered T (take i stops) gathered
    → IsPermutation gathered sorted → IsSorted nat_cmp sorted → moments ≡ dedup eqb sorted → AreMoments (IsEventOf T stops) moments
are_moments T stops gathered sorted moments i past are permuted rising deduped =
    moments_of T stops gathered sorted moments (subst (λ (l : List ℕ). AreGathered T l gathered) (take_all i stops past) are) permuted rising deduped

pub returns-clause-moments : goal.returns-clause-moments
returns-clause-moments c =
    are_moments c.args.network.now c.args.stops.now c.loop-stop.moments.items c.sort_unstable.new.self.items c.dedup.new.self.items c.loop-stop.stop-index
    c.loop-stop-test.false c.loop-stop.invariant c.sort_unstable.ensures.permutation c.sort_unstable.ensures.sorted
    (dedup_is eqb c.sort_unstable.new.self.items c.dedup.new.self.items c.dedup.ensures.filtered)

pub returns-clause-early : goal.returns-clause-early
returns-clause-early c =
    moments_early c.args.network.now c.args.stops.now c.dedup.new.self.items c.timetable-table.ensures.valid
    (are_moments c.args.network.now c.args.stops.now c.loop-stop.moments.items c.sort_unstable.new.self.items c.dedup.new.self.items c.loop-stop.stop-index
    c.loop-stop-test.false c.loop-stop.invariant c.sort_unstable.ensures.permutation c.sort_unstable.ensures.sorted
    (dedup_is eqb c.sort_unstable.new.self.items c.dedup.new.self.items c.dedup.ensures.filtered))

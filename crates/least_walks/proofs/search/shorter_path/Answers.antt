use Rattle.std.proofs.Common.{◌≡◌, ℕ, ◌+◌, ◌-◌, ◌<◌, ◌≤◌, false, List, [], length, All, sym, ◌∙◌, subst, arith, le_refl}
use Rattle.std.specs.List.{Contains}
use Rattle.pattern_tree.specs.Forest.{Step}
use Rattle.pattern_query.specs.Leaving.{walked}
use Rattle.least_walks.specs.Ways.{WayData, Gathers, HopsAmong, Anywhere, ways_at}
use Rattle.least_walks.specs.Layers.{AreWays, AreBoards}
use Rattle.least_walks.specs.Least.{IsPathLike, WalksAtLeast}
use Rattle.least_walks.proofs.SearchFacts.{path_short, path_like, least_path, none_less}
use Rattle.least_walks.proofs.search.shorter_path.Goals as goal

pub loop-more-init : goal.loop-more-init
loop-more-init c =
    let T = c.args.network.now in
    let p = c.args.point.now in
    let rows : List (List WayData) = c.in_ok-alights.alights.items in
    record {
      some = le_refl 1;
      within = c.requires.some;
      ways = λ i n sum one.
          let z : n ≡ 0 = omega (arith, one) in
          subst (λ (n : ℕ). AreWays T p.from p.departure p.to p.arrival c.args.bound i n rows) (sym z)
          (subst (λ (by : ℕ). AreWays T p.from p.departure p.to by c.args.bound i 0 rows) c.arrival.ensures
          (subst (λ (t : ℕ). AreWays T p.from p.departure t c.arrival.result c.args.bound i 0 rows) c.to.ensures (c.in_ok-alights.ensures p.from p.departure i)));
    }

pub one_ride_more-requires-clause-short : goal.one_ride_more-requires-clause-short
one_ride_more-requires-clause-short c =
    let T = c.args.network.now in
    let p = c.args.point.now in
    let more = c.loop-more.more in
    let some = c.loop-more.invariant.some in
    let within = c.loop-more.invariant.within in
    let few = c.requires.short in
    let n : ℕ = more - 1 in
    let i : ℕ = p.rides - n in
    let are = c.loop-more.invariant.ways i n (let z : i + n ≡ p.rides = omega (arith, some, within) in z) (let z : n + 1 ≡ more = omega (arith, some) in z) in
    subst (λ (rows : List (List WayData)). (q : ℕ) → All (λ (w : WayData). length w.path < 8) (ways_at rows q)) (sym c.deref.ensures.value)
    (path_short T p.from p.departure p.to p.arrival c.args.bound i n c.loop-more.alights.items (let z : n < 8 = omega (arith, some, within, few) in z) are)

pub loop-more-preserved : goal.loop-more-preserved
loop-more-preserved c =
    let T = c.args.network.now in
    let p = c.args.point.now in
    let more = c.loop-more.more in
    let count = c.rides-count.result in
    let same : count ≡ p.rides = c.rides-count.ensures in
    let test = c.loop-more-test.true in
    let some = c.loop-more.invariant.some in
    let old = c.loop-more.invariant.ways (count - more + 1) (more - 1)
    (let z : (count - more + 1) + (more - 1) ≡ p.rides = omega (arith, same, test, some) in z) (let z : (more - 1) + 1 ≡ more = omega (arith, some) in z) in
    let are = subst (λ (rows : List (List WayData)). AreWays T p.from p.departure p.to p.arrival c.args.bound (count - more + 1) (more - 1) rows) (sym c.deref.ensures.value) old in
    let new : AreWays T p.from p.departure p.to p.arrival c.args.bound (count - more) ((more - 1) + 1) c.in_ok-alights-2.alights.items =
    c.in_ok-alights-2.ensures p.from p.departure p.to p.arrival (more - 1) c.requires.rounds are in
    record {
      some = let z : 1 ≤ more + 1 = omega arith in z;
      within = let z : more + 1 ≤ p.rides = omega (arith, same, test) in z;
      ways = λ i n sum one.
          subst (λ (i : ℕ). AreWays T p.from p.departure p.to p.arrival c.args.bound i n c.in_ok-alights-2.alights.items) (let z : count - more ≡ i = omega (arith, sum, one, same, test) in z)
          (subst (λ (n : ℕ). AreWays T p.from p.departure p.to p.arrival c.args.bound (count - more) n c.in_ok-alights-2.alights.items) (let z : (more - 1) + 1 ≡ n = omega (arith, one, some) in z) new);
    }

pub boards_of-requires : goal.boards_of-requires
boards_of-requires c =
    let T = c.args.network.now in
    let p = c.args.point.now in
    let some = c.loop-more.invariant.some in
    let within = c.loop-more.invariant.within in
    let same = c.rides-count.ensures in
    let test = c.loop-more-test.false in
    let few = c.requires.short in
    let are = c.loop-more.invariant.ways 1 (p.rides - 1) (let z : 1 + (p.rides - 1) ≡ p.rides = omega (arith, some, within) in z)
    (let z : (p.rides - 1) + 1 ≡ c.loop-more.more = omega (arith, some, within, same, test) in z) in
    record {
      short = subst (λ (rows : List (List WayData)). (q : ℕ) → All (λ (w : WayData). length w.path < 8) (ways_at rows q)) (sym c.deref-2.ensures.value)
          (path_short T p.from p.departure p.to p.arrival c.args.bound 1 (p.rides - 1) c.loop-more.alights.items (let z : p.rides - 1 < 8 = omega (arith, few) in z) are);
    }

pub returns-in-Some-clause-like : goal.returns-in-Some-clause-like
returns-in-Some-clause-like c =
    let T = c.args.network.now in
    let p = c.args.point.now in
    let bound = c.args.bound in
    let some = c.loop-more.invariant.some in
    let within = c.loop-more.invariant.within in
    let same = c.rides-count.ensures in
    let test = c.loop-more-test.false in
    let n : ℕ = p.rides - 1 in
    let count : n + 1 ≡ p.rides = omega (arith, some, within) in
    let rows = c.deref-2.result.now in
    let boards = c.deref-3.result.now in
    let found = c.in_ok-ways.ways in
    let are = subst (λ (rs : List (List WayData)). AreWays T p.from p.departure p.to p.arrival bound 1 n rs) (sym c.deref-2.ensures.value)
    (c.loop-more.invariant.ways 1 n (let z : 1 + n ≡ p.rides = omega (arith, some, within) in z) (let z : n + 1 ≡ c.loop-more.more = omega (arith, some, within, same, test) in z)) in
    let board : AreBoards T bound rows boards = rw c.deref-3.ensures.value c.in_ok-boards.ensures.boards in
    let gathers : Gathers (HopsAmong T false p.from Anywhere boards) p.departure bound [] found = subst (λ (s : ℕ). Gathers (HopsAmong T false s Anywhere boards) p.departure bound [] found) c.from.ensures
    (subst (λ (d : ℕ). Gathers (HopsAmong T false c.from.result Anywhere boards) d bound [] found) c.departure-depart.ensures c.in_ok-ways.ensures) in
    let way = c.in-Some.way.now in
    let in' : Contains found way = subst (λ (ws : List WayData). Contains ws way) c.row.ensures c.in-Some.ensures.some.0 in
    subst (IsPathLike T p) (sym (c.path_of.ensures ∙ c.path.ensures.value)) (path_like T c.in_ok-boards.ensures.valid p bound n count rows boards found are board gathers way in')

pub returns-in-Some-clause-least : goal.returns-in-Some-clause-least
returns-in-Some-clause-least c =
    let T = c.args.network.now in
    let p = c.args.point.now in
    let bound = c.args.bound in
    let some = c.loop-more.invariant.some in
    let within = c.loop-more.invariant.within in
    let same = c.rides-count.ensures in
    let test = c.loop-more-test.false in
    let n : ℕ = p.rides - 1 in
    let count : n + 1 ≡ p.rides = omega (arith, some, within) in
    let rows = c.deref-2.result.now in
    let boards = c.deref-3.result.now in
    let found = c.in_ok-ways.ways in
    let are = subst (λ (rs : List (List WayData)). AreWays T p.from p.departure p.to p.arrival bound 1 n rs) (sym c.deref-2.ensures.value)
    (c.loop-more.invariant.ways 1 n (let z : 1 + n ≡ p.rides = omega (arith, some, within) in z) (let z : n + 1 ≡ c.loop-more.more = omega (arith, some, within, same, test) in z)) in
    let board : AreBoards T bound rows boards = rw c.deref-3.ensures.value c.in_ok-boards.ensures.boards in
    let gathers : Gathers (HopsAmong T false p.from Anywhere boards) p.departure bound [] found = subst (λ (s : ℕ). Gathers (HopsAmong T false s Anywhere boards) p.departure bound [] found) c.from.ensures
    (subst (λ (d : ℕ). Gathers (HopsAmong T false c.from.result Anywhere boards) d bound [] found) c.departure-depart.ensures c.in_ok-ways.ensures) in
    let way = c.in-Some.way.now in
    let in' : Contains found way = subst (λ (ws : List WayData). Contains ws way) c.row.ensures c.in-Some.ensures.some.0 in
    let all = subst (λ (ws : List WayData). All (λ (o : WayData). way.walked ≤ o.walked) ws) c.row.ensures c.in-Some.ensures.some.1 in
    subst (λ (path : List Step). WalksAtLeast T p (walked T p.from path p.to)) (sym (c.path_of.ensures ∙ c.path.ensures.value))
    (least_path T c.in_ok-boards.ensures.valid p bound n count rows boards found are board gathers way in' all)

pub returns-clause-none : goal.returns-clause-none
returns-clause-none c =
    let T = c.args.network.now in
    let p = c.args.point.now in
    let bound = c.args.bound in
    let some = c.loop-more.invariant.some in
    let within = c.loop-more.invariant.within in
    let same = c.rides-count.ensures in
    let test = c.loop-more-test.false in
    let n : ℕ = p.rides - 1 in
    let count : n + 1 ≡ p.rides = omega (arith, some, within) in
    let rows = c.deref-2.result.now in
    let boards = c.deref-3.result.now in
    let found = c.in_ok-ways.ways in
    let are = subst (λ (rs : List (List WayData)). AreWays T p.from p.departure p.to p.arrival bound 1 n rs) (sym c.deref-2.ensures.value)
    (c.loop-more.invariant.ways 1 n (let z : 1 + n ≡ p.rides = omega (arith, some, within) in z) (let z : n + 1 ≡ c.loop-more.more = omega (arith, some, within, same, test) in z)) in
    let board : AreBoards T bound rows boards = rw c.deref-3.ensures.value c.in_ok-boards.ensures.boards in
    let gathers : Gathers (HopsAmong T false p.from Anywhere boards) p.departure bound [] found = subst (λ (s : ℕ). Gathers (HopsAmong T false s Anywhere boards) p.departure bound [] found) c.from.ensures
    (subst (λ (d : ℕ). Gathers (HopsAmong T false c.from.result Anywhere boards) d bound [] found) c.departure-depart.ensures c.in_ok-ways.ensures) in
    none_less T c.in_ok-boards.ensures.valid p bound n count rows boards found are board gathers (sym c.row.ensures ∙ c.in-None.ensures.none)

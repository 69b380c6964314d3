-- The ways on from all stops, by the rides that are left.
use Rattle.std.proofs.Common.{Option, Some, None, IsSomeAnd, MatchOption, ◌≡◌, ℕ, ◌+◌, ◌-◌, ◌<◌, ◌≤◌, Bool, true, false, List, [], ◌∷◌, ◌++◌, length, option_map, unwrap_or, length-append, arith, refl, sym, ◌∙◌, ap, subst, inl, inr, le_refl, le_trans, le_of_eq}
use Rattle.std.specs.List.{Contains}
use Rattle.std.proofs.lemmas.Bool.{cases_lt}
use Rattle.std.proofs.lemmas.List.{get_or_past}
use Rattle.timetable.specs.declared.parts.Leg.{Leg}
use Rattle.timetable.specs.declared.parts.Call.{Call}
use Rattle.timetable.specs.Table.{Table, IsTable, stops_of}
use Rattle.timetable.specs.Journeys.{Ride, call_at, from, to, departs, arrives, foot, link, Onward, Journey, IsLeast, pattern}
use Rattle.timetable.specs.Legs.{Rides, Ready}
use Rattle.timetable.proofs.Legs.{there, stop_known_at}
use Rattle.timetable.proofs.Rows.{foot_same}
use Rattle.timetable.proofs.Taken.{the_some, some_and, journey_of, rides_more, rides_some}
use Rattle.rounds.specs.Mark.{Mark, arrival_in}
use Rattle.rounds.specs.Answers.{AreRounds, ArrivesWithin}
use Rattle.pattern_tree.specs.Forest.{Step}
use Rattle.pattern_query.specs.Way.{hop}
use Rattle.pattern_query.specs.Leaving.{walked, GoesOn}
use Rattle.least_walks.specs.Ways.{WayData, IsNoWorse, HasNoWorse, ways_at, Gathers, WalksTo, RidesAmong, HopsAmong, Anywhere}
use Rattle.least_walks.specs.Layers.{IsWay, Alights, AreWays, AreBoards}
use Rattle.least_walks.proofs.GatherFacts.{has_then}
use Rattle.least_walks.proofs.RowFacts.{AreRows}

-- ---- a way with a ride before it

-- the rides that one takes from a stop on, and those before
goes_first : (table : Table) (ridden : Bool) (p m : ℕ) (leg : Leg) (legs : List Leg) (t z x : ℕ) → Ride table leg → hop table ridden p (from table leg) ≡ Some x
    → m + x ≤ departs table leg → Onward table (to table leg) (arrives table leg) legs t z → GoesOn table ridden p m (leg ∷ legs) t z
goes_first table true p m leg legs t z x ride hops le on = (ride, subst (λ (o : Option ℕ). IsSomeAnd o (λ w. m + w ≤ departs table leg)) (sym hops) le, on)
goes_first table false p m leg legs t z x ride hops le on = (ride, subst (λ (o : Option ℕ). IsSomeAnd o (λ w. m + w ≤ departs table leg)) (sym hops) le, on)

-- what one takes first
record GoesFirst (table : Table) (ridden : Bool) (p m : ℕ) (leg : Leg) (legs : List Leg) (t z : ℕ) : Type 0 where
  ride : Ride table leg
  seconds : ℕ
  hops : hop table ridden p (from table leg) ≡ Some seconds
  late : m + seconds ≤ departs table leg
  on : Onward table (to table leg) (arrives table leg) legs t z

first_goes : (table : Table) (ridden : Bool) (p m : ℕ) (leg : Leg) (legs : List Leg) (t z : ℕ) → GoesOn table ridden p m (leg ∷ legs) t z → GoesFirst table ridden p m leg legs t z
first_goes table true p m leg legs t z h =
    let w = the_some (link table p (from table leg)) (λ w. m + w ≤ departs table leg) h.1 in
    record { ride = h.0; seconds = w.0; hops = w.1; late = w.2; on = h.2 }
first_goes table false p m leg legs t z h =
    let w = the_some (foot table p (from table leg)) (λ w. m + w ≤ departs table leg) h.1 in
    record { ride = h.0; seconds = w.0; hops = w.1; late = w.2; on = h.2 }

-- one who is there earlier goes on as well, and is there no later
onward_earlier : (table : Table) (p a m : ℕ) (legs : List Leg) (t z : ℕ) → a ≤ m → Onward table p m legs t z → (y : ℕ) × Onward table p a legs t y × (y ≤ z)
onward_earlier table p a m [] t z le h =
    let w = the_some (foot table p t) (λ w. z ≡ m + w) h in
    let e = w.2 in
    (a + w.0, subst (λ (o : Option ℕ). IsSomeAnd o (λ v. a + w.0 ≡ a + v)) (sym w.1) refl, (let k : a + w.0 ≤ z = omega (arith, e, le) in k))
onward_earlier table p a m (leg ∷ legs) t z le h = (
  z,
  (
    h.0,
    some_and (link table p (from table leg)) (λ w. m + w ≤ departs table leg) (λ w. a + w ≤ departs table leg)
        (λ w k. let r : a + w ≤ departs table leg = omega (arith, k, le) in r) h.1,
    h.2,
  ),
  le_refl z,
)

-- where a ride alights is a stop of the timetable
alights_known : (table : Table) (leg : Leg) → IsTable table → Ride table leg → to table leg < stops_of table
alights_known table leg valid ride =
    let c = there (call_at table leg.instance leg.alight) ride.alights in
    let e : to table leg ≡ c.0.stop = ap (λ (o : Option Call). unwrap_or (option_map (λ (c : Call). c.stop) o) 0) c.1 in
    let known = (stop_known_at table leg.instance leg.alight c.0 valid c.1).known in
    omega (arith, e, known)

boards_known : (table : Table) (leg : Leg) → IsTable table → Ride table leg → from table leg < stops_of table
boards_known table leg valid ride =
    let c = there (call_at table leg.instance leg.board) ride.boards in
    let e : from table leg ≡ c.0.stop = ap (λ (o : Option Call). unwrap_or (option_map (λ (c : Call). c.stop) o) 0) c.1 in
    let known = (stop_known_at table leg.instance leg.board c.0 valid c.1).known in
    omega (arith, e, known)

none_in : (w : WayData) → Contains [] w → ⊥
none_in w h = let lt = h.1 in omega (arith, lt)

module _ (table : Table) (valid : IsTable table) (s d t by bound i n : ℕ) (rows boards : List (List WayData)) (are : AreWays table s d t by bound i n rows)
    (board : AreBoards table bound rows boards) where
  -- a ride and a way of the rows
  rides_of : (b : ℕ) (v : WayData) → Contains (ways_at boards b) v → RidesAmong table b Anywhere rows v
  rides_of b v h = elim (cases_lt b (stops_of table)) [
    | inl known ↦ elim ((board.each b known).attained v h) [
      | inl none ↦ absurd (none_in v none)
      | inr of ↦ of.0
    ]
    | inr past ↦ absurd (none_in v (subst (λ (ws : List WayData). Contains ws v) (get_or_past boards b [] (let e = board.size in omega (arith, e, past))) h))
  ]

  -- what begins with a hop is a way with one ride more
  pub hop_is_way : (ridden : Bool) (p : ℕ) (w : WayData) → HopsAmong table ridden p Anywhere boards w → IsWay table ridden t by (n + 1) p w
  hop_is_way ridden p w h =
      let v = h.then.rest in
      let r = rides_of h.board v h.then.goes_on in
      let e = r.0 in
      let ride = r.2 in
      let leg = ride.leg in
      let u = are.each e ride.rest ride.goes_on in
      let serves = ride.serves in
      let on = onward_earlier table e (arrives table leg) ride.rest.moment u.legs t u.arrival serves.in_time u.goes in
      let m = h.then.moment in
      let vm = ride.moment in
      let by' = u.in_time in
      let steps : w.path ≡ pattern table (leg ∷ u.legs) =
      h.then.path ∙ (ride.path ∙ (ap (λ (rest : List Step). (h.board, e) ∷ rest) u.path ∙ ap (λ (x : Step). x ∷ pattern table u.legs) (pair h.board (from table leg) e (to table leg) (sym serves.starts) (sym serves.ends)))) in
      record {
        legs = leg ∷ u.legs;
        arrival = on.0;
        counted = let k = u.counted in omega (arith, k);
        goes = goes_first table ridden p w.moment leg u.legs t on.0 h.seconds serves.ride (subst (λ (q : ℕ). hop table ridden p q ≡ Some h.seconds) (sym serves.starts) h.hops)
            (let z : w.moment + h.seconds ≤ departs table leg = omega (arith, m, vm) in z)
            (subst (λ (q : ℕ). Onward table q (arrives table leg) u.legs t on.0) (sym serves.ends) on.1);
        in_time = let le = on.2 in omega (arith, le, by');
        path = steps;
        feet = feet_of h.board e leg u.legs v ride.rest (sym serves.starts) (sym serves.ends) h.then.walked ride.walked u.feet;
      } where
        pair : (a b c e : ℕ) → a ≡ b → c ≡ e → ◌≡◌ {A = Step} (a, c) (b, e)
        pair a b c e x y = ap (λ (k : ℕ). (k, c)) x ∙ ap (λ (k : ℕ). (b, k)) y

        feet_of : (b e : ℕ) (leg : Leg) (legs : List Leg) (v u : WayData) → b ≡ from table leg → e ≡ to table leg → w.walked ≡ unwrap_or (foot table p b) 0 + v.walked → v.walked ≡ u.walked
            → u.walked ≡ walked table e (pattern table legs) t → w.walked ≡ unwrap_or (foot table p (from table leg)) 0 + walked table (to table leg) (pattern table legs) t
        feet_of b e leg legs v u x y first same rest =
            first ∙ (ap (λ (k : ℕ). unwrap_or (foot table p b) 0 + k) (same ∙ (rest ∙ ap (λ (q : ℕ). walked table q (pattern table legs) t) y))
            ∙ ap (λ (q : ℕ). unwrap_or (foot table p q) 0 + walked table (to table leg) (pattern table legs) t) x)

  -- a way with one ride more whose rest can be taken after i rides has a hop that is no worse
  pub way_has_hop : (ridden : Bool) (p since : ℕ) (ways : List WayData) (w : WayData) → Gathers (HopsAmong table ridden p Anywhere boards) since bound [] ways
      → IsWay table ridden t by (n + 1) p w
      → ((leg : Leg) (x : ℕ) → Ride table leg → hop table ridden p (from table leg) ≡ Some x → w.moment + x ≤ departs table leg → Alights table s d i (to table leg) (arrives table leg))
      → since ≤ w.moment → w.walked < bound → HasNoWorse ways w
  way_has_hop ridden p since ways w gathers way reached late short = go way.legs way.counted way.goes way.feet where
    go : (legs : List Leg) → length legs ≡ n + 1 → GoesOn table ridden p w.moment legs t way.arrival → w.walked ≡ walked table p (pattern table legs) t → HasNoWorse ways w
    go [] count goes feet = absurd (omega (arith, count))
    go (leg ∷ legs) count goes feet =
        let f = first_goes table ridden p w.moment leg legs t way.arrival goes in
        let b = from table leg in
        let e = to table leg in
        let x = f.seconds in
        let walk = unwrap_or (foot table p b) 0 in
        -- the rest
        let rest : WayData = record { moment = arrives table leg; walked = walked table e (pattern table legs) t; path = pattern table legs } in
        let is : IsWay table true t by n e rest =
        record { legs = legs; arrival = way.arrival; counted = omega (arith, count); goes = f.on; in_time = way.in_time; path = refl; feet = refl } in
        let u = are.all e rest (alights_known table leg valid f.ride) is (reached leg x f.ride f.hops f.late) (let z : rest.walked < bound = omega (arith, feet, short) in z) in
        let uv = u.2 in
        let ul = uv.late in
        let us = uv.short in
        -- the ride before it
        let v0 : WayData = record { moment = departs table leg; walked = u.0.walked; path = (b, e) ∷ u.0.path } in
        let rides : RidesAmong table b Anywhere rows v0 = (
          e,
          tt,
          record {
            leg = leg;
            rest = u.0;
            goes_on = u.1;
            serves = record { ride = f.ride; starts = refl; ends = refl; in_time = ul };
            moment = refl;
            walked = refl;
            path = refl;
          },
        ) in
        let v = (board.each b (boards_known table leg valid f.ride)).all v0 rides (let z : 0 ≤ v0.moment = omega arith in z) (let z : u.0.walked < bound = omega (arith, feet, short, us) in z) in
        let vl = v.2.late in
        let vs = v.2.short in
        -- the hop before that
        let le = f.late in
        let w1 : WayData = record { moment = v.0.moment - x; walked = walk + v.0.walked; path = v.0.path } in
        let hops : HopsAmong table ridden p Anywhere boards w1 = record {
          board = b;
          here = tt;
          seconds = x;
          hops = f.hops;
          then = record { rest = v.0; goes_on = v.1; moment = (let z : (v.0.moment - x) + x ≡ v.0.moment = omega (arith, vl, le) in z); walked = refl {a = walk + v.0.walked}; path = refl {a = v.0.path} };
        } in
        let better : IsNoWorse w1 w = record { late = (let z : w.moment ≤ v.0.moment - x = omega (arith, vl, le) in z); short = (let z : walk + v.0.walked ≤ w.walked = omega (arith, feet, us, vs) in z) } in
        let k1 = better.late in
        let k2 = better.short in
        has_then ways w1 w (gathers.all w1 hops (let z : since ≤ w1.moment = omega (arith, late, k1) in z) (let z : w1.walked < bound = omega (arith, k2, short) in z)) better

-- ---- the first layer

module _ (table : Table) (t by bound : ℕ) (rows : List (List WayData)) (are : AreRows (λ p ways. Gathers (WalksTo table p t by) 0 bound [] ways) (stops_of table) rows) where
  first_each : (p : ℕ) (w : WayData) → Contains (ways_at rows p) w → IsWay table true t by 0 p w
  first_each p w h = elim (cases_lt p (stops_of table)) [
    | inl known ↦ elim ((are.each p known).attained w h) [
      | inl none ↦ absurd (none_in w none)
      | inr of ↦
          let k = of.0 in
          record {
            legs = [];
            arrival = by;
            counted = refl;
            goes = subst (λ (o : Option ℕ). IsSomeAnd o (λ x. by ≡ w.moment + x)) (sym k.feet) (sym k.in_time);
            in_time = le_refl by;
            path = k.path;
            feet = k.walked ∙ sym (ap (λ (o : Option ℕ). unwrap_or o 0) k.feet);
          }
    ]
    | inr past ↦ absurd (none_in w (subst (λ (ws : List WayData). Contains ws w) (get_or_past rows p [] (let e = are.size in omega (arith, e, past))) h))
  ]

  first_all : (p : ℕ) (w : WayData) → p < stops_of table → IsWay table true t by 0 p w → w.walked < bound → HasNoWorse (ways_at rows p) w
  first_all p w known way short = go way.legs way.counted way.goes way.feet where
    go : (legs : List Leg) → length legs ≡ 0 → GoesOn table true p w.moment legs t way.arrival → w.walked ≡ walked table p (pattern table legs) t → HasNoWorse (ways_at rows p) w
    go (leg ∷ legs) count goes feet = absurd (omega (arith, count))
    go [] count goes feet =
        let x = the_some (foot table p t) (λ x. way.arrival ≡ w.moment + x) goes in
        let e = x.2 in
        let le = way.in_time in
        let same : w.walked ≡ x.0 = feet ∙ ap (λ (o : Option ℕ). unwrap_or o 0) x.1 in
        let best : WayData = record { moment = by - x.0; walked = x.0; path = [] } in
        let of : WalksTo table p t by best = record { seconds = x.0; feet = x.1; in_time = (let z : (by - x.0) + x.0 ≡ by = omega (arith, e, le) in z); walked = refl; path = refl } in
        let better : IsNoWorse best w = record { late = (let z : w.moment ≤ by - x.0 = omega (arith, e, le) in z); short = le_of_eq (sym same) } in
        has_then (ways_at rows p) best w ((are.each p known).all best of (let z : 0 ≤ best.moment = omega arith in z) (let z : x.0 < bound = omega (arith, same, short) in z)) better

  pub first_ways : (s d i : ℕ) → AreWays table s d t by bound i 0 rows
  first_ways s d i = record { each = first_each; all = λ p w known way reached short. first_all p w known way short }

-- ---- one ride more

ready_of : (table : Table) (s d : ℕ) (legs : List Leg) (p a q x : ℕ) → Rides table s d legs p a → link table p q ≡ Some x → Ready table s d legs q (a + x)
ready_of table s d [] p a q x h l = absurd h
ready_of table s d (leg ∷ legs) p a q x h l = (p, a, h, subst (λ (o : Option ℕ). IsSomeAnd o (λ w. a + x ≡ a + w)) (sym l) refl)

-- the least arrival is there, and no later than that of a journey
least_there : (Of : ℕ → Type 0) (o : Option ℕ) (a : ℕ) → IsLeast Of o → Of a → (since : ℕ) × (o ≡ Some since) × (since ≤ a)
least_there Of None a h of = absurd (h a of)
least_there Of (Some since) a h of = (since, refl, h.1 a of)

-- what one may do from there on, if there is a moment
abbrev pub HopsSince : Table → ℕ → List (List WayData) → ℕ → Option ℕ → List WayData → Type 0
HopsSince table bound boards p since ways = MatchOption since (ways ≡ []) (λ since. Gathers (HopsAmong table true p Anywhere boards) since bound [] ways)

module _ (table : Table) (valid : IsTable table) (s d t by bound i n k : ℕ) (rounds : List (List (Option Mark))) (rows boards new : List (List WayData))
    (round : AreRounds table s d k rounds) (some : 1 ≤ i) (few : i ≤ k) (are : AreWays table s d t by bound (i + 1) n rows) (board : AreBoards table bound rows boards)
    (hops : AreRows (λ p ways. HopsSince table bound boards p (arrival_in rounds i p) ways) (stops_of table) new) where
  more_each : (p : ℕ) (w : WayData) → Contains (ways_at new p) w → IsWay table true t by (n + 1) p w
  more_each p w h = elim (cases_lt p (stops_of table)) [
    | inl known ↦ go (arrival_in rounds i p) (hops.each p known)
    | inr past ↦ absurd (none_in w (subst (λ (ws : List WayData). Contains ws w) (get_or_past new p [] (let e = hops.size in omega (arith, e, past))) h))
  ] where
    go : (o : Option ℕ) → HopsSince table bound boards p o (ways_at new p) → IsWay table true t by (n + 1) p w
    go None empty = absurd (none_in w (subst (λ (ws : List WayData). Contains ws w) empty h))
    go (Some since) gathers = elim (gathers.attained w h) [
      | inl none ↦ absurd (none_in w none)
      | inr of ↦ hop_is_way table valid s d t by bound (i + 1) n rows boards are board true p w of.0
    ]

  more_all : (p : ℕ) (w : WayData) → p < stops_of table → IsWay table true t by (n + 1) p w → Alights table s d i p w.moment → w.walked < bound → HasNoWorse (ways_at new p) w
  more_all p w known way reached short =
      let legs = reached.0 in
      let a = reached.1 in
      let count = reached.2 in
      let rides = reached.3 in
      let before = reached.4 in
      let there' : IsSomeAnd (foot table p p) (λ x. a ≡ a + x) = subst (λ (o : Option ℕ). IsSomeAnd o (λ x. a ≡ a + x)) (sym (foot_same table p)) (let z : a ≡ a + 0 = omega arith in z) in
      let within : ArrivesWithin table s d i p a = (legs, journey_of table s d legs p a p a rides there', rides_some table s d legs p a rides, le_of_eq count) in
      let since = least_there (ArrivesWithin table s d i p) (arrival_in rounds i p) a (round.least i p some few known) within in
      let gathers = subst (λ (o : Option ℕ). HopsSince table bound boards p o (ways_at new p)) since.1 (hops.each p known) in
      way_has_hop table valid s d t by bound (i + 1) n rows boards are board true p since.0 (ways_at new p) w gathers way
      (λ leg x ride hop' late.
      let ready = ready_of table s d legs p a (from table leg) x rides hop' in (
        legs ++ leg ∷ [],
        arrives table leg,
        (let e = length-append legs (leg ∷ []) in let z : length (legs ++ leg ∷ []) ≡ i + 1 = omega (arith, e, count) in z),
        rides_more table s d legs leg (a + x) ready (let z : a + x ≤ departs table leg = omega (arith, late, before) in z) ride,
        le_refl (arrives table leg),
      ))
      (let le = since.2 in let z : since.0 ≤ w.moment = omega (arith, le, before) in z) short

  pub more_ways : AreWays table s d t by bound i (n + 1) new
  more_ways = record { each = more_each; all = more_all }

-- ---- before any ride

module _ (table : Table) (valid : IsTable table) (s d t by bound n : ℕ) (rows boards : List (List WayData)) (are : AreWays table s d t by bound 1 n rows) (board : AreBoards table bound rows boards)
    (found : List WayData) (gathers : Gathers (HopsAmong table false s Anywhere boards) d bound [] found) where
  -- what is found can be taken in time
  pub found_way : (w : WayData) → Contains found w → IsWay table false t by (n + 1) s w × (d ≤ w.moment) × (w.walked < bound)
  found_way w h = elim (gathers.attained w h) [
    | inl none ↦ absurd (none_in w none)
    | inr of ↦ (hop_is_way table valid s d t by bound 1 n rows boards are board false s w of.0, of.1, of.2)
  ]

  pub found_all : (w : WayData) → IsWay table false t by (n + 1) s w → d ≤ w.moment → w.walked < bound → HasNoWorse found w
  found_all w way late short =
      way_has_hop table valid s d t by bound 1 n rows boards are board false s d found w gathers way
      (λ leg x ride hop' le.
      let ready : Ready table s d [] (from table leg) (d + x) = subst (λ (o : Option ℕ). IsSomeAnd o (λ w. d + x ≡ d + w)) (sym hop') refl in
      (leg ∷ [], arrives table leg, refl, rides_more table s d [] leg (d + x) ready (let z : d + x ≤ departs table leg = omega (arith, le, late) in z) ride, le_refl (arrives table leg)))
      late short

  -- a journey that leaves then walks at least as much as the least of what is found, or the bound
  pub least_of : (legs : List Leg) (z : ℕ) → Journey table s d legs t z → length legs ≡ n + 1 → z ≤ by → (feet : ℕ) → feet ≤ bound
      → ((w : WayData) → Contains found w → feet ≤ w.walked) → feet ≤ walked table s (pattern table legs) t
  least_of legs z journey count in_time feet below each = elim (cases_lt (walked table s (pattern table legs) t) bound) [
    | inl short ↦
        let w : WayData = record { moment = d; walked = walked table s (pattern table legs) t; path = pattern table legs } in
        let way : IsWay table false t by (n + 1) s w = record { legs = legs; arrival = z; counted = count; goes = journey; in_time = in_time; path = refl; feet = refl } in
        let v = found_all w way (le_refl d) short in
        let k = each v.0 v.1 in
        le_trans k v.2.short
    | inr le ↦ le_trans below le
  ]

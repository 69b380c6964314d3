-- The steps of gathering the events of a stop.
use Rattle.std.proofs.Common.{Option, ◌≡◌, ℕ, ◌+◌, ◌-◌, ◌<◌, ◌≤◌, ◌⊎◌, List, [], ◌∷◌, ◌++◌, length, Some, None, IsSomeAnd, Contains, IsTrue, slice_get, get_or, option_map, unwrap_or, eqb, arith, refl, sym, ◌∙◌, ap, subst, inl, inr, eq-or-lt_of_le}
use Rattle.std.specs.List.{dedup}
use Rattle.std.specs.List.Sorted.{IsPermutation, IsSorted, IsStrictlyIncreasing}
use Rattle.std.specs.Ordering.{nat_cmp}
use Rattle.std.proofs.lemmas.Bool.{cases_eq}
use Rattle.std.proofs.lemmas.List.Elements.{Contains-push, Contains-push_cases, Contains-append_left, at_from_Contains}
use Rattle.std.proofs.lemmas.List.Kept.{Contains-dedup_nat, Contains-from_dedup}
use Rattle.std.proofs.lemmas.List.Sorted.{Contains-permutation, IsPermutation-sym}
use Rattle.std.proofs.lemmas.Map.Keys.{IsStrictlyIncreasing-dedup}
use Rattle.std.proofs.lemmas.Option.{same_Some, slice_get_within, slice_get-get_or, get_or_from_slice_get}
use Rattle.timetable.specs.declared.parts.Call.{Call}
use Rattle.timetable.specs.declared.parts.Leg.{Leg}
use Rattle.timetable.specs.declared.parts.Walk.{Walk}
use Rattle.timetable.specs.Table.{Table, IsTable, stops_of, walks_of}
use Rattle.timetable.specs.Journeys.{Ride, call_at, from, departs, foot}
use Rattle.timetable.proofs.Rows.{walk_found, walk_listed, walk_good, foot_other}
use Rattle.timetable.proofs.Taken.{the_some}
use Rattle.timetable.proofs.Legs.{there}
use Rattle.lines.specs.declared.line.Halt.{Halt}
use Rattle.lines.specs.declared.line.Times.{Times}
use Rattle.lines.specs.declared.lines.LinePosition.{LinePosition}
use Rattle.lines.specs.Lines.{LineData, LineTable, no_line, IsLine, AreLines, CallsAt, column, line_at, positions_at, halt_of, times_of}
use Rattle.stop_events.specs.Events.{IsAt, IsEvent, LeavesFor, AreEvents, Gathered}
use Rattle.stop_events.proofs.MemberFacts.{halt_there, member_at, member_halts, line_of, call_on}
use Rattle.stop_events.proofs.WalkFacts.{SeenOf}

split_at : (i j : ℕ) → i < j + 1 → (i < j) ⊎ (i ≡ j)
split_at i j h = elim (eq-or-lt_of_le (let k : i ≤ j = omega (arith, h) in k)) [ inl e ↦ inr e | inr l ↦ inl l ]

-- some more was looked at
pub gathered_step : (table : Table) (s : ℕ) (Seen Next : Leg → Type 0) (old mid new : List ℕ)
    → ((e : ℕ) → Contains new e → Contains mid e ⊎ IsEvent table s e)
    → ((e : ℕ) → Contains mid e → Contains new e)
    → ((leg : Leg) (e : ℕ) → Next leg → Ride table leg → LeavesFor table s leg e → Seen leg ⊎ Contains new e)
    → Gathered table s Seen old mid → Gathered table s Next old new
gathered_step table s Seen Next old mid new each kept all is = record {
  each = λ e c. elim (each e c) [ inl was ↦ is.each e was | inr event ↦ inr event ];
  kept = λ e c. kept e (is.kept e c);
  all = λ leg e next ride leaves. elim (all leg e next ride leaves) [
    | inl seen ↦ kept e (is.all leg e seen ride leaves)
    | inr here ↦ here
  ];
}

-- one after the other
pub gathered_then : (table : Table) (s : ℕ) (Seen Here Next : Leg → Type 0) (old mid new : List ℕ)
    → ((leg : Leg) → Next leg → Seen leg ⊎ Here leg)
    → Gathered table s Seen old mid → Gathered table s Here mid new → Gathered table s Next old new
gathered_then table s Seen Here Next old mid new split is step =
    gathered_step table s Seen Next old mid new step.each step.kept
    (λ leg e next ride leaves. elim (split leg next) [ inl seen ↦ inl seen | inr here ↦ inr (step.all leg e here ride leaves) ]) is

pub gathered_none : (table : Table) (s : ℕ) (Seen : Leg → Type 0) (old : List ℕ) → ((leg : Leg) (e : ℕ) → Seen leg → Ride table leg → LeavesFor table s leg e → Contains old e)
    → Gathered table s Seen old old
gathered_none table s Seen old none = record {
  each = λ e c. inl c;
  kept = λ e c. c;
  all = none;
}

-- the first n instances of the line that board at the position
abbrev pub SeenMembers : LineData → ℕ → ℕ → Leg → Type 0
SeenMembers line position n leg = (k : ℕ) × (k < n) × (get_or line.members k 0 ≡ leg.instance) × (leg.board ≡ position)

stop_of : (table : Table) (leg : Leg) (c : Call) → call_at table leg.instance leg.board ≡ Some c → from table leg ≡ c.stop
stop_of table leg c is = ap (λ o. unwrap_or (option_map (λ (c : Call). c.stop) o) 0) is

departure_of : (table : Table) (leg : Leg) (c : Call) → call_at table leg.instance leg.board ≡ Some c → departs table leg ≡ c.departure
departure_of table leg c is = ap (λ o. unwrap_or (option_map (λ (c : Call). c.departure) o) 0) is

-- a line that calls at a position to which one walks `seconds` seconds
module _ (table : Table) (s seconds position : ℕ) (line : LineData) (halt : Halt) (valid : IsTable table) (ok : IsLine table line)
    (is : slice_get line.halts position ≡ Some halt) (way : foot table s halt.stop ≡ Some seconds) where
  midnight : Times
  midnight = record { arrival = 0; departure = 0 }

  -- the call of the leg of an instance that boards there
  call_here : (k : ℕ) (leg : Leg) → k < length line.members → get_or line.members k 0 ≡ leg.instance → leg.board ≡ position
      → (c : Call) × (call_at table leg.instance leg.board ≡ Some c) × (halt_of c ≡ halt) × ((d : Times) → get_or (column line position) k d ≡ times_of c)
  call_here k leg h same here =
      let c = call_on table line ok k position halt h is in
      (c.0, ap (λ p. call_at table leg.instance p) here ∙ (ap (λ n. call_at table n position) (sym same) ∙ c.1), c.2, c.3)

  leaving : (k : ℕ) (leg : Leg) (e : ℕ) (t d : Times) → k < length line.members → get_or line.members k 0 ≡ leg.instance → leg.board ≡ position
      → t ≡ get_or (column line position) k d → LeavesFor table s leg e → e + seconds ≡ t.departure
  leaving k leg e t d h same here time leaves =
      let c = call_here k leg h same here in
      let stop : from table leg ≡ halt.stop = stop_of table leg c.0 c.1 ∙ ap (λ (h : Halt). h.stop) c.2 in
      let w = the_some (foot table s (from table leg)) (λ w. e + w ≡ departs table leg) leaves in
      let same : w.0 ≡ seconds = same_Some w.0 seconds (sym w.1 ∙ (ap (λ q. foot table s q) stop ∙ way)) in
      let dep : departs table leg ≡ t.departure = departure_of table leg c.0 c.1 ∙ ap (λ (t : Times). t.departure) (sym (c.3 d) ∙ sym time) in
      let sum = w.2 in
      let k : e + seconds ≡ t.departure = omega (arith, sum, same, dep) in k

  -- nobody leaves for the ride of this instance
  pub gathered_past : (k : ℕ) (t d : Times) (old moments : List ℕ) → k < length line.members → t ≡ get_or (column line position) k d → t.departure < seconds
      → Gathered table s (SeenMembers line position k) old moments → Gathered table s (SeenMembers line position (k + 1)) old moments
  gathered_past k t d old moments h time late has =
      gathered_step table s (SeenMembers line position k) (SeenMembers line position (k + 1)) old moments moments (λ e c. inl c) (λ e c. c)
      (λ leg e next ride leaves. elim (split_at next.0 k next.1) [
        | inl before ↦ inl (next.0, before, next.2, next.3)
        | inr now ↦
            let sum = leaving k leg e t d h (ap (λ x. get_or line.members x 0) (sym now) ∙ next.2) next.3 time leaves in
            absurd (let b : ⊥ = omega (arith, sum, late) in b)
      ]) has

  -- one leaves for the rides of this instance
  pub gathered_more : (k last : ℕ) (t d : Times) (old moments : List ℕ) → k < length line.members → t ≡ get_or (column line position) k d → seconds ≤ t.departure
      → IsTrue halt.board → position < last → IsSomeAnd (slice_get line.halts last) (λ h. IsTrue h.alight)
      → Gathered table s (SeenMembers line position k) old moments
      → Gathered table s (SeenMembers line position (k + 1)) old (moments ++ (t.departure - seconds) ∷ [])
  gathered_more k last t d old moments h time early may before alights has =
      let event = t.departure - seconds in
      gathered_step table s (SeenMembers line position k) (SeenMembers line position (k + 1)) old moments (moments ++ event ∷ [])
      (λ e found. elim (Contains-push_cases moments event e found) [
        | inl was ↦ inl was
        | inr here ↦
            let leg : Leg = record { instance = get_or line.members k 0; board = position; alight = last } in
            let c = call_here k leg h refl refl in
            let g = the_halt (slice_get line.halts last) alights in
            let a = call_on table line ok k last g.0 h g.1 in
            let stop : halt.stop ≡ from table leg = sym (stop_of table leg c.0 c.1 ∙ ap (λ (h : Halt). h.stop) c.2) in
            let dep : departs table leg ≡ t.departure = departure_of table leg c.0 c.1 ∙ ap (λ (t : Times). t.departure) (sym (c.3 d) ∙ sym time) in
            inr (
              leg,
              record {
                boards = subst (λ o. IsSomeAnd o (λ c. IsTrue c.board)) (sym c.1) (subst (λ (h : Halt). IsTrue h.board) (sym c.2) may);
                alights = subst (λ o. IsSomeAnd o (λ c. IsTrue c.alight)) (sym a.1) (subst (λ (h : Halt). IsTrue h.alight) (sym a.2) g.2);
                later = before;
              },
              subst (λ x. LeavesFor table s leg x) here
                  (subst (λ q. IsSomeAnd (foot table s q) (λ w. event + w ≡ departs table leg)) stop
                  (subst (λ o. IsSomeAnd o (λ w. event + w ≡ departs table leg)) (sym way)
                  (let k : event + seconds ≡ departs table leg = omega (arith, early, dep) in k))),
            )
      ])
      (λ e found. Contains-append_left moments (event ∷ []) e found)
      (λ leg e next ride leaves. elim (split_at next.0 k next.1) [
        | inl seen ↦ inl (next.0, seen, next.2, next.3)
        | inr now ↦
            let sum = leaving k leg e t d h (ap (λ x. get_or line.members x 0) (sym now) ∙ next.2) next.3 time leaves in
            let same : event ≡ e = omega (arith, sum, early) in
            inr (subst (λ x. Contains (moments ++ event ∷ []) x) same (Contains-push moments event))
      ]) has where
        the_halt : (o : Option Halt) → IsSomeAnd o (λ h. IsTrue h.alight) → (h : Halt) × (o ≡ Some h) × IsTrue h.alight
        the_halt None h = absurd h
        the_halt (Some x) h = (x, refl, h)

  -- all instances were looked at
  pub gathered_members : (n : ℕ) (old new : List ℕ) → length line.members ≤ n
      → Gathered table s (SeenMembers line position n) old new → Gathered table s (IsAt line position) old new
  gathered_members n old new long has =
      gathered_step table s (SeenMembers line position n) (IsAt line position) old new new (λ e c. inl c) (λ e c. c)
      (λ leg e next ride leaves.
      let m = member_at line leg.instance next.0 in
      let in' = m.1 in
      inl (m.0, (let k : m.0 < n = omega (arith, in', long) in k), m.2, next.1)) has

  -- no ride boards there
  pub gathered_closed : (last : ℕ) (old : List ℕ) → ((k : ℕ) → IsSomeAnd (slice_get line.halts k) (λ h. IsTrue h.alight) → k ≤ last)
      → (IsTrue halt.board → position < last → ⊥) → Gathered table s (IsAt line position) old old
  gathered_closed last old lasts none = gathered_none table s (IsAt line position) old (λ leg e at ride leaves.
      let m = member_at line leg.instance at.0 in
      let c = call_here m.0 leg m.1 m.2 at.1 in
      let a = there (call_at table leg.instance leg.alight) ride.alights in
      let g = halt_there table leg.instance leg.alight line.halts a.0 (member_halts table line leg.instance ok at.0) a.1 in
      let may_alight : IsTrue (halt_of a.0).alight = subst (λ o. IsSomeAnd o (λ c. IsTrue c.alight)) a.1 ride.alights in
      let low = lasts leg.alight (subst (λ o. IsSomeAnd o (λ (h : Halt). IsTrue h.alight)) (sym g) may_alight) in
      let later = ride.later in
      let here = at.1 in
      let may : IsTrue (halt_of c.0).board = subst (λ o. IsSomeAnd o (λ c. IsTrue c.board)) c.1 ride.boards in
      absurd (none (subst (λ (h : Halt). IsTrue h.board) c.2 may) (let k : position < last = omega (arith, low, later, here) in k)))

-- ---- the lines that call at a stop

-- the first n positions at the stop
abbrev pub SeenPositions : LineTable → ℕ → ℕ → Leg → Type 0
SeenPositions lines stop n leg = (k : ℕ) × (position : LinePosition) × (k < n) × (slice_get (positions_at lines stop) k ≡ Some position) × IsAt (line_at lines position.line) position.position leg

-- all positions at the stop: each ride that boards there is of a line that calls there
pub gathered_positions : (table : Table) (lines : LineTable) (s stop n : ℕ) (old new : List ℕ) → AreLines table lines → length (positions_at lines stop) ≤ n
    → Gathered table s (SeenPositions lines stop n) old new → Gathered table s (λ leg. from table leg ≡ stop) old new
gathered_positions table lines s stop n old new are long has =
    gathered_step table s (SeenPositions lines stop n) (λ leg. from table leg ≡ stop) old new new (λ e c. inl c) (λ e c. c)
    (λ leg e next ride leaves.
    let k = line_of table lines leg are ride in
    let position : LinePosition = record { line = k.0; position = leg.board } in
    let has : Contains (positions_at lines stop) position = (are.positions stop).all position (subst (λ q. CallsAt lines.lines q position) next k.3) in
    let in' = has.1 in
    inl (has.0, position, (let lt : has.0 < n = omega (arith, in', long) in lt), read (positions_at lines stop) has.0 position in' has.2, (k.2, refl))) has where
      read : (xs : List LinePosition) (i : ℕ) (x : LinePosition) → i < length xs → get_or xs i x ≡ x → slice_get xs i ≡ Some x
      read xs i x in' e = slice_get-get_or xs i x in' ∙ ap (λ y. Some y) e

-- ---- the stops to which one walks

-- all walks: each ride for which one leaves boards at the stop or where a walk leads
pub gathered_walks : (table : Table) (s n : ℕ) (old new : List ℕ) → length (walks_of table s) ≤ n
    → Gathered table s (λ leg. SeenOf s (walks_of table s) n (from table leg)) old new → Gathered table s (λ _. Unit {0}) old new
gathered_walks table s n old new long has =
    gathered_step table s (λ leg. SeenOf s (walks_of table s) n (from table leg)) (λ _. Unit {0}) old new new (λ e c. inl c) (λ e c. c)
    (λ leg e next ride leaves. elim (cases_eq (from table leg) s) [
      | inl same ↦ inl (inl same)
      | inr other ↦
          let w = the_some (foot table s (from table leg)) (λ w. e + w ≡ departs table leg) leaves in
          let f = walk_found table s (from table leg) w.0 (sym (foot_other table s (from table leg) other) ∙ w.1) in
          let in' = slice_get_within (walks_of table s) f.0 f.1 f.2 in
          inl (inr (f.0, f.1, (let lt : f.0 < n = omega (arith, in', long) in lt), f.2, f.3))
    ]) has

-- the way on foot to where a walk of the row leads
pub way_of : (table : Table) (s k : ℕ) (w : Walk) → IsTable table → s < stops_of table → slice_get (walks_of table s) k ≡ Some w → foot table s w.to ≡ Some w.seconds
way_of table s k w valid in' e = foot_other table s w.to (walk_good table s k w valid in' e).other ∙ walk_listed table s k w valid in' e

no_moment : (e : ℕ) → Contains {X = ℕ} [] e → ⊥
no_moment e c = let k = at_from_Contains [] e c in let b : ⊥ = omega (arith, k.1) in b

-- after a sort and a dedup
pub events_are : (table : Table) (s : ℕ) (gathered sorted moments : List ℕ)
    → Gathered table s (λ _. Unit {0}) [] gathered → IsPermutation gathered sorted → IsSorted nat_cmp sorted
    → moments ≡ dedup eqb sorted → AreEvents table s moments
events_are table s gathered sorted moments is permuted rising deduped = record {
  rising = subst IsStrictlyIncreasing (sym deduped) (IsStrictlyIncreasing-dedup sorted rising);
  each = λ e c. elim (is.each e (Contains-permutation sorted gathered e (IsPermutation-sym gathered sorted permuted)
      (Contains-from_dedup eqb sorted e (subst (λ xs. Contains xs e) deduped c)))) [
        | inl none ↦ absurd (no_moment e none)
        | inr event ↦ event
      ];
  all = λ e event.
      subst (λ xs. Contains xs e) (sym deduped)
      (Contains-dedup_nat sorted e (Contains-permutation gathered sorted e permuted (is.all event.0 e tt event.1 event.2)));
}

-- what stands at a position of a stop
pub position_there : (table : Table) (lines : LineTable) (stop k : ℕ) (items : List LinePosition) (d : LinePosition) → AreLines table lines → items ≡ positions_at lines stop
    → k < length items
    → ((get_or items k d).line < length lines.lines) × IsLine table (line_at lines (get_or items k d).line)
    × ((halt : Halt) × (slice_get (line_at lines (get_or items k d).line).halts (get_or items k d).position ≡ Some halt) × (halt.stop ≡ stop))
    × (slice_get (positions_at lines stop) k ≡ Some (get_or items k d))
position_there table lines stop k items d are same in' =
    let position = get_or items k d in
    let calls : CallsAt lines.lines stop position = subst (λ (ps : List LinePosition). CallsAt lines.lines stop (get_or ps k d)) (sym same) ((are.positions stop).each k d (subst (λ (ps : List LinePosition). k < length ps) same in')) in
    go position (slice_get lines.lines position.line) refl calls (ap (λ (ps : List LinePosition). slice_get ps k) (sym same) ∙ slice_get-get_or items k d in') where
      the_halt : (o : Option Halt) → IsSomeAnd o (λ h. h.stop ≡ stop) → (h : Halt) × (o ≡ Some h) × (h.stop ≡ stop)
      the_halt None h = absurd h
      the_halt (Some x) h = (x, refl, h)

      go : (position : LinePosition) (o : Option LineData) → slice_get lines.lines position.line ≡ o
          → IsSomeAnd o (λ line. IsSomeAnd (slice_get line.halts position.position) (λ halt. halt.stop ≡ stop)) → slice_get (positions_at lines stop) k ≡ Some position
          → (position.line < length lines.lines) × IsLine table (line_at lines position.line)
          × ((halt : Halt) × (slice_get (line_at lines position.line).halts position.position ≡ Some halt) × (halt.stop ≡ stop))
          × (slice_get (positions_at lines stop) k ≡ Some position)
      go position None e calls read = absurd calls
      go position (Some line) e calls read =
          let lt = slice_get_within lines.lines position.line line e in
          let here : line_at lines position.line ≡ line = get_or_from_slice_get lines.lines position.line line no_line e in (
            lt,
            are.each position.line no_line lt,
            the_halt (slice_get (line_at lines position.line).halts position.position)
                (subst (λ (x : LineData). IsSomeAnd (slice_get x.halts position.position) (λ halt. halt.stop ≡ stop)) (sym here) calls),
            read,
          )

-- one position more
pub positions_more : (table : Table) (lines : LineTable) (s stop k : ℕ) (position : LinePosition) (old mid new : List ℕ) → slice_get (positions_at lines stop) k ≡ Some position
    → Gathered table s (SeenPositions lines stop k) old mid → Gathered table s (IsAt (line_at lines position.line) position.position) mid new
    → Gathered table s (SeenPositions lines stop (k + 1)) old new
positions_more table lines s stop k position old mid new here is step =
    gathered_then table s (SeenPositions lines stop k) (IsAt (line_at lines position.line) position.position) (SeenPositions lines stop (k + 1)) old mid new
    (λ leg next. elim (split_at next.0 k next.2) [
      | inl before ↦ inl (next.0, next.1, before, next.3, next.4)
      | inr now ↦
          let same : next.1 ≡ position = same_Some next.1 position (sym next.3 ∙ (ap (λ i. slice_get (positions_at lines stop) i) now ∙ here)) in
          inr (subst (λ (p : LinePosition). IsAt (line_at lines p.line) p.position leg) same next.4)
    ]) is step

-- the stop itself
pub walks_none : (table : Table) (s : ℕ) (old new : List ℕ) → Gathered table s (λ leg. from table leg ≡ s) old new
    → Gathered table s (λ leg. SeenOf s (walks_of table s) 0 (from table leg)) old new
walks_none table s old new is =
    gathered_step table s (λ leg. from table leg ≡ s) (λ leg. SeenOf s (walks_of table s) 0 (from table leg)) old new new (λ e c. inl c) (λ e c. c)
    (λ leg e next ride leaves. elim next [ inl same ↦ inl same | inr v ↦ absurd (let lt = v.2 in let b : ⊥ = omega (arith, lt) in b) ]) is

-- one walk more
pub walks_more : (table : Table) (s k : ℕ) (w : Walk) (old mid new : List ℕ) → slice_get (walks_of table s) k ≡ Some w
    → Gathered table s (λ leg. SeenOf s (walks_of table s) k (from table leg)) old mid → Gathered table s (λ leg. from table leg ≡ w.to) mid new
    → Gathered table s (λ leg. SeenOf s (walks_of table s) (k + 1) (from table leg)) old new
walks_more table s k w old mid new here is step =
    gathered_then table s (λ leg. SeenOf s (walks_of table s) k (from table leg)) (λ leg. from table leg ≡ w.to)
    (λ leg. SeenOf s (walks_of table s) (k + 1) (from table leg)) old mid new
    (λ leg next. elim next [
      | inl same ↦ inl (inl same)
      | inr v ↦ elim (split_at v.0 k v.2) [
        | inl before ↦ inl (inr (v.0, v.1, before, v.3, v.4))
        | inr now ↦ inr (sym v.4 ∙ ap (λ (x : Walk). x.to) (same_Some v.1 w (sym v.3 ∙ (ap (λ i. slice_get (walks_of table s) i) now ∙ here))))
      ]
    ]) is step

-- The ways that begin with a ride.
use Rattle.std.proofs.Common.{Option, Some, None, IsSomeAnd, ◌≡◌, ℕ, ◌+◌, ◌<◌, ◌≤◌, ◌⊎◌, List, [], ◌∷◌, length, get_or, slice_get, option_map, unwrap_or, arith, refl, sym, ◌∙◌, ap, subst, inl, inr, eq-or-lt_of_le}
use Rattle.std.specs.List.{Contains}
use Rattle.timetable.specs.declared.parts.Leg.{Leg}
use Rattle.timetable.specs.Table.{Table}
use Rattle.timetable.specs.Journeys.{call_at, departs}
use Rattle.lines.specs.declared.line.Halt.{Halt}
use Rattle.lines.specs.declared.lines.LinePosition.{LinePosition}
use Rattle.lines.specs.Lines.{LineTable, AreLines, CallsAt, halt_of, no_line, line_at, positions_at}
use Rattle.direct_connections.specs.Latest.{ServesBy}
use Rattle.std.proofs.lemmas.Option.{slice_get_within}
use Rattle.timetable.specs.declared.parts.Call.{Call}
use Rattle.timetable.proofs.Legs.{there}
use Rattle.rounds.proofs.MemberFacts.{line_of, member_halts, halt_there}
use Rattle.least_walks.specs.Ways.{WayData, IsNoWorse, ways_at, Gathers, RidesTo, RidesAmong, StopsFrom, Anywhere}
use Rattle.least_walks.proofs.GatherFacts.{gathers_idle, gathers_for, gathers_then, gathers_best, Seen, seen_none, seen_before, seen_here, seen_split, seen_contained, seen_all}

module _ (table : Table) (b : ℕ) where
  -- ---- the ways of one row

  pub rides_for : (e : ℕ) (Rest Next : WayData → Type 0) → ((v : WayData) → Rest v → Next v) → (w : WayData) → RidesTo table b e Rest w → RidesTo table b e Next w
  rides_for e Rest Next f w h =
      record { leg = h.leg; rest = h.rest; goes_on = f h.rest h.goes_on; serves = h.serves; moment = h.moment; walked = h.walked; path = h.path }

  pub rides_split : (e : ℕ) (A B Next : WayData → Type 0) → ((v : WayData) → Next v → A v ⊎ B v) → (w : WayData) → RidesTo table b e Next w
      → RidesTo table b e A w ⊎ RidesTo table b e B w
  rides_split e A B Next split w h = elim (split h.rest h.goes_on) [
    | inl a ↦ inl (record { leg = h.leg; rest = h.rest; goes_on = a; serves = h.serves; moment = h.moment; walked = h.walked; path = h.path })
    | inr a ↦ inr (record { leg = h.leg; rest = h.rest; goes_on = a; serves = h.serves; moment = h.moment; walked = h.walked; path = h.path })
  ]

  module _ (e bound : ℕ) (row old : List WayData) (i : ℕ) (y d : WayData) (within : i < length row) (is : y ≡ get_or row i d) where
    rides_more : (mid new : List WayData) → Gathers (RidesTo table b e (Seen row i)) 0 bound old mid → Gathers (RidesTo table b e (λ v. v ≡ y)) 0 bound mid new
        → Gathers (RidesTo table b e (Seen row (i + 1))) 0 bound old new
    rides_more mid new before here =
        gathers_then (RidesTo table b e (Seen row i)) (RidesTo table b e (λ v. v ≡ y)) (RidesTo table b e (Seen row (i + 1))) 0 bound old mid new
        (rides_for e (Seen row i) (Seen row (i + 1)) (λ v s. seen_before row i v s))
        (rides_for e (λ v. v ≡ y) (Seen row (i + 1)) (λ v same. subst (Seen row (i + 1)) (sym same) (seen_here row i y d within is)))
        (rides_split e (Seen row i) (λ v. v ≡ y) (Seen row (i + 1)) (seen_split row i y d within is))
        before here

    -- no ride is in time for it
    pub rides_pass : (mid : List WayData) → ((leg : Leg) → ¬ ServesBy table b e y.moment leg) → Gathers (RidesTo table b e (Seen row i)) 0 bound old mid
        → Gathers (RidesTo table b e (Seen row (i + 1))) 0 bound old mid
    rides_pass mid none before =
        rides_more mid mid before (gathers_idle (RidesTo table b e (λ v. v ≡ y)) 0 bound mid
        (λ w h late short. absurd (none h.leg (subst (λ (v : WayData). ServesBy table b e v.moment h.leg) h.goes_on h.serves))))

    -- the last ride that is
    pub rides_offer : (mid new : List WayData) (leg : Leg) (way : WayData) → ServesBy table b e y.moment leg
        → ((other : Leg) → ServesBy table b e y.moment other → departs table other ≤ departs table leg)
        → way ≡ record { moment = departs table leg; walked = y.walked; path = (b, e) ∷ y.path }
        → Gathers (λ w. w ≡ way) 0 bound mid new
        → Gathers (RidesTo table b e (Seen row i)) 0 bound old mid → Gathers (RidesTo table b e (Seen row (i + 1))) 0 bound old new
    rides_offer mid new leg way serves most shape offered before =
        rides_more mid new before (gathers_best (RidesTo table b e (λ v. v ≡ y)) 0 bound mid new way of better offered) where
          of : RidesTo table b e (λ v. v ≡ y) way
          of = record {
            leg = leg;
            rest = y;
            goes_on = refl;
            serves = serves;
            moment = ap (λ (v : WayData). v.moment) shape;
            walked = ap (λ (v : WayData). v.walked) shape;
            path = ap (λ (v : WayData). v.path) shape;
          }

          better : (w : WayData) → RidesTo table b e (λ v. v ≡ y) w → IsNoWorse way w
          better w h =
              let m = most h.leg (subst (λ (v : WayData). ServesBy table b e v.moment h.leg) h.goes_on h.serves) in
              let a = of.moment in
              let k = h.moment in
              let x = of.walked in
              let z = h.walked in
              let same = ap (λ (v : WayData). v.walked) h.goes_on in
              record { late = omega (arith, m, a, k); short = omega (arith, x, z, same) }

  pub rides_none : (e bound : ℕ) (row old : List WayData) → Gathers (RidesTo table b e (Seen row 0)) 0 bound old old
  rides_none e bound row old =
      gathers_idle (RidesTo table b e (Seen row 0)) 0 bound old (λ w h late short. absurd (seen_none row h.rest h.goes_on))

  pub rides_all : (e bound : ℕ) (row old new : List WayData) (i : ℕ) → length row ≤ i → Gathers (RidesTo table b e (Seen row i)) 0 bound old new
      → Gathers (RidesTo table b e (Contains row)) 0 bound old new
  rides_all e bound row old new i long is =
      gathers_for (RidesTo table b e (Seen row i)) (RidesTo table b e (Contains row)) 0 bound old new
      (rides_for e (Seen row i) (Contains row) (λ v s. seen_contained row i v s))
      (rides_for e (Contains row) (Seen row i) (λ v s. seen_all row i v long s)) is

  -- ---- the rows of several stops

  module _ (bound : ℕ) (rows : List (List WayData)) where
    pub among_for : (S T : ℕ → Type 0) (old new : List WayData) → ((e : ℕ) → S e → T e)
        → ((e : ℕ) (leg : Leg) (by : ℕ) → ServesBy table b e by leg → T e → S e)
        → Gathers (RidesAmong table b S rows) 0 bound old new → Gathers (RidesAmong table b T rows) 0 bound old new
    among_for S T old new to from is =
        gathers_for (RidesAmong table b S rows) (RidesAmong table b T rows) 0 bound old new
        (λ w h. (h.0, to h.0 h.1, h.2)) (λ w h. (h.0, from h.0 h.2.leg h.2.rest.moment h.2.serves h.1, h.2)) is

    pub among_then : (S T U : ℕ → Type 0) (old mid new : List WayData) → ((e : ℕ) → S e → U e) → ((e : ℕ) → T e → U e) → ((e : ℕ) → U e → S e ⊎ T e)
        → Gathers (RidesAmong table b S rows) 0 bound old mid → Gathers (RidesAmong table b T rows) 0 bound mid new
        → Gathers (RidesAmong table b U rows) 0 bound old new
    among_then S T U old mid new left right split first second =
        gathers_then (RidesAmong table b S rows) (RidesAmong table b T rows) (RidesAmong table b U rows) 0 bound old mid new
        (λ w h. (h.0, left h.0 h.1, h.2)) (λ w h. (h.0, right h.0 h.1, h.2))
        (λ w h. elim (split h.0 h.1) [ inl s ↦ inl (h.0, s, h.2) | inr t ↦ inr (h.0, t, h.2) ])
        first second

    pub among_none : (S : ℕ → Type 0) (old : List WayData) → ((e : ℕ) → S e → ⊥) → Gathers (RidesAmong table b S rows) 0 bound old old
    among_none S old none = gathers_idle (RidesAmong table b S rows) 0 bound old (λ w h late short. absurd (none h.0 h.1))

    -- only one row
    pub among_one : (q : ℕ) (row old new : List WayData) → row ≡ ways_at rows q → Gathers (RidesTo table b q (Contains row)) 0 bound old new
        → Gathers (RidesAmong table b (λ e. e ≡ q) rows) 0 bound old new
    among_one q row old new same is =
        gathers_for (RidesTo table b q (Contains row)) (RidesAmong table b (λ e. e ≡ q) rows) 0 bound old new
        (λ w h. (q, refl, subst (λ (ws : List WayData). RidesTo table b q (Contains ws) w) same h))
        (λ w h. subst (λ (ws : List WayData). RidesTo table b q (Contains ws) w) (sym same)
        (subst (λ (e : ℕ). RidesTo table b e (Contains (ways_at rows e)) w) h.1 h.2)) is

-- the stop of one of the halts that were seen
abbrev pub SeenHalt : List Halt → ℕ → ℕ → ℕ → Type 0
SeenHalt halts first i e = (k : ℕ) × (first ≤ k) × (k < i) × IsSomeAnd (slice_get halts k) (λ halt. halt.stop ≡ e)

-- the stop of one of the halts after a position that was seen
abbrev pub SeenBehind : LineTable → List LinePosition → ℕ → ℕ → Type 0
SeenBehind lines positions i e = (at : LinePosition) × Seen positions i at × StopsFrom (line_at lines at.line).halts (at.position + 1) e

module _ (table : Table) (b bound : ℕ) (rows : List (List WayData)) (halts : List Halt) (first : ℕ) where
  pub halts_none : (old : List WayData) → Gathers (RidesAmong table b (SeenHalt halts first first) rows) 0 bound old old
  halts_none old = among_none table b bound rows (SeenHalt halts first first) old (λ e h. let le = h.1 in let lt = h.2 in let z : ⊥ = omega (arith, le, lt) in z)

  -- one more halt
  pub halts_more : (i stop : ℕ) (halt : Halt) (row old mid new : List WayData) → first ≤ i → slice_get halts i ≡ Some halt → halt.stop ≡ stop → row ≡ ways_at rows stop
      → Gathers (RidesAmong table b (SeenHalt halts first i) rows) 0 bound old mid → Gathers (RidesTo table b stop (Contains row)) 0 bound mid new
      → Gathers (RidesAmong table b (SeenHalt halts first (i + 1)) rows) 0 bound old new
  halts_more i stop halt row old mid new from is at same before here =
      among_then table b bound rows (SeenHalt halts first i) (λ e. e ≡ stop) (SeenHalt halts first (i + 1)) old mid new
      (λ e h. (h.0, h.1, (let lt = h.2 in let z : h.0 < i + 1 = omega (arith, lt) in z), h.3))
      (λ e h. (i, from, (let z : i < i + 1 = omega arith in z), subst (λ (o : Option Halt). IsSomeAnd o (λ halt. halt.stop ≡ e)) (sym is) (at ∙ sym h)))
      (λ e h. elim (eq-or-lt_of_le (let lt = h.2 in let z : h.0 ≤ i = omega (arith, lt) in z)) [
        | inl k ↦
            let there : halt.stop ≡ e = subst (λ (o : Option Halt). IsSomeAnd o (λ halt. halt.stop ≡ e)) is (subst (λ (k : ℕ). IsSomeAnd (slice_get halts k) (λ halt. halt.stop ≡ e)) k h.3) in
            inr (sym there ∙ at)
        | inr lt ↦ inl (h.0, h.1, lt, h.3)
      ])
      before (among_one table b bound rows stop row mid new same here)

  pub halts_all : (i : ℕ) (old new : List WayData) → length halts ≤ i
      → Gathers (RidesAmong table b (SeenHalt halts first i) rows) 0 bound old new → Gathers (RidesAmong table b (StopsFrom halts first) rows) 0 bound old new
  halts_all i old new long is =
      among_for table b bound rows (SeenHalt halts first i) (StopsFrom halts first) old new
      (λ e h. (h.0, h.1, h.3)) (λ e leg by s h. (h.0, h.1, below (λ halt. halt.stop ≡ e) h.0 (slice_get halts h.0) refl h.2, h.2)) is where
        below : (P : Halt → Type 0) (k : ℕ) (o : Option Halt) → slice_get halts k ≡ o → IsSomeAnd o P → k < i
        below P k None e h = absurd h
        below P k (Some halt) e h = (let within = slice_get_within halts k halt e in let z : k < i = omega (arith, within, long) in z)

-- ---- the lines that call at a stop

module _ (table : Table) (lines : LineTable) (are : AreLines table lines) (b bound : ℕ) (rows : List (List WayData)) where
  -- one more position
  pub behind_more : (i : ℕ) (at d : LinePosition) (halts : List Halt) (mid new : List WayData) → i < length (positions_at lines b) → at ≡ get_or (positions_at lines b) i d
      → halts ≡ (line_at lines at.line).halts
      → Gathers (RidesAmong table b (SeenBehind lines (positions_at lines b) i) rows) 0 bound [] mid
      → Gathers (RidesAmong table b (StopsFrom halts (at.position + 1)) rows) 0 bound mid new
      → Gathers (RidesAmong table b (SeenBehind lines (positions_at lines b) (i + 1)) rows) 0 bound [] new
  behind_more i at d halts mid new within is same before here =
      among_then table b bound rows (SeenBehind lines (positions_at lines b) i) (StopsFrom halts (at.position + 1))
      (SeenBehind lines (positions_at lines b) (i + 1)) [] mid new
      (λ e h. (h.0, seen_before (positions_at lines b) i h.0 h.1, h.2))
      (λ e h. (at, seen_here (positions_at lines b) i at d within is, subst (λ (hs : List Halt). StopsFrom hs (at.position + 1) e) same h))
      (λ e h. elim (seen_split (positions_at lines b) i at d within is h.0 h.1) [
        | inl s ↦ inl (h.0, s, h.2)
        | inr x ↦ inr (subst (λ (hs : List Halt). StopsFrom hs (at.position + 1) e) (sym same)
            (subst (λ (p : LinePosition). StopsFrom (line_at lines p.line).halts (p.position + 1) e) x h.2))
      ])
      before here

  pub behind_none : (mid : List WayData) → mid ≡ [] → Gathers (RidesAmong table b (SeenBehind lines (positions_at lines b) 0) rows) 0 bound [] mid
  behind_none mid empty = subst (λ (ws : List WayData). Gathers (RidesAmong table b (SeenBehind lines (positions_at lines b) 0) rows) 0 bound [] ws) (sym empty)
      (among_none table b bound rows (SeenBehind lines (positions_at lines b) 0) [] (λ e h. seen_none (positions_at lines b) h.0 h.1))

  -- every ride from the stop boards at one of the positions, and alights after it
  pub behind_all : (i : ℕ) (new : List WayData) → length (positions_at lines b) ≤ i
      → Gathers (RidesAmong table b (SeenBehind lines (positions_at lines b) i) rows) 0 bound [] new
      → Gathers (RidesAmong table b Anywhere rows) 0 bound [] new
  behind_all i new long is =
      among_for table b bound rows (SeenBehind lines (positions_at lines b) i) Anywhere [] new (λ e h. tt) found is where
        found : (e : ℕ) (leg : Leg) (by : ℕ) → ServesBy table b e by leg → Unit {0} → SeenBehind lines (positions_at lines b) i e
        found e leg by s any =
            let f = line_of table lines leg are s.ride in
            let at : LinePosition = record { line = f.0; position = leg.board } in
            let line = line_at lines f.0 in
            let n = leg.instance in
            let halts = member_halts table line n (are.each f.0 no_line f.1) f.2 in
            let a = there (call_at table n leg.alight) s.ride.alights in
            let stop : (halt_of a.0).stop ≡ e = sym (ap (λ (o : Option Call). unwrap_or (option_map (λ (c : Call). c.stop) o) 0) a.1) ∙ s.ends in (
              at,
              seen_all (positions_at lines b) i at long ((are.positions b).all at (subst (λ (p : ℕ). CallsAt lines.lines p at) s.starts f.3)),
              (
                leg.alight,
                (let lt = s.ride.later in let z : leg.board + 1 ≤ leg.alight = omega (arith, lt) in z),
                subst (λ (o : Option Halt). IsSomeAnd o (λ halt. halt.stop ≡ e)) (sym (halt_there table n leg.alight line.halts a.0 halts a.1)) stop,
              ),
            )

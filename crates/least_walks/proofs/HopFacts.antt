-- The ways that begin with a walk or a change.
use Rattle.std.proofs.Common.{Option, Some, None, ◌≡◌, ◌≢◌, ℕ, ◌+◌, ◌<◌, ◌≤◌, ◌⊎◌, Bool, true, false, List, length, get_or, slice_get, unwrap_or, arith, refl, sym, ◌∙◌, ap, subst, inl, inr, eq-or-lt_of_le}
use Rattle.std.specs.List.{Contains}
use Rattle.std.proofs.lemmas.Option.{same_Some, slice_get_within}
use Rattle.std.proofs.lemmas.Bool.{cases_eq}
use Rattle.timetable.specs.declared.parts.Walk.{Walk}
use Rattle.timetable.specs.Table.{Table, IsTable, stops_of, walks_of, walk, change}
use Rattle.timetable.specs.Journeys.{foot}
use Rattle.timetable.proofs.Rows.{walk_listed, walk_found, walk_good, foot_other, link_other, foot_same, link_same}
use Rattle.rounds.proofs.WalkSteps.{SeenOf}
use Rattle.pattern_query.specs.Way.{hop}
use Rattle.least_walks.specs.Ways.{WayData, IsNoWorse, ways_at, Gathers, WalksTo, HopsTo, HopsAmong, Anywhere}
use Rattle.least_walks.proofs.GatherFacts.{gathers_idle, gathers_for, gathers_then, gathers_best, Seen, seen_none, seen_before, seen_here, seen_split, seen_contained, seen_all}

-- ---- the last walk

pub walk_is : (table : Table) (p t by seconds : ℕ) → foot table p t ≡ Some seconds → (v w : WayData) → WalksTo table p t by v → WalksTo table p t by w → IsNoWorse v w
walk_is table p t by seconds feet v w a b =
    let x : a.seconds ≡ b.seconds = same_Some a.seconds b.seconds (sym a.feet ∙ b.feet) in
    let am = a.in_time in
    let bm = b.in_time in
    let aw = a.walked in
    let bw = b.walked in
    record { late = omega (arith, x, am, bm); short = omega (arith, x, aw, bw) }

-- ---- the ways of one row

pub hops_for : (seconds feet : ℕ) (Rest Next : WayData → Type 0) → ((v : WayData) → Rest v → Next v) → (w : WayData) → HopsTo seconds feet Rest w → HopsTo seconds feet Next w
hops_for seconds feet Rest Next f w h =
    record { rest = h.rest; goes_on = f h.rest h.goes_on; moment = h.moment; walked = h.walked; path = h.path }

pub hops_split : (seconds feet : ℕ) (A B Next : WayData → Type 0) → ((v : WayData) → Next v → A v ⊎ B v) → (w : WayData) → HopsTo seconds feet Next w
    → HopsTo seconds feet A w ⊎ HopsTo seconds feet B w
hops_split seconds feet A B Next split w h = elim (split h.rest h.goes_on) [
  | inl a ↦ inl (record { rest = h.rest; goes_on = a; moment = h.moment; walked = h.walked; path = h.path })
  | inr b ↦ inr (record { rest = h.rest; goes_on = b; moment = h.moment; walked = h.walked; path = h.path })
]

module _ (seconds feet since bound : ℕ) (row : List WayData) (old : List WayData) (i : ℕ) (y d : WayData) (within : i < length row) (is : y ≡ get_or row i d) where
  -- one more of the row
  pub hops_more : (mid new : List WayData) → Gathers (HopsTo seconds feet (Seen row i)) since bound old mid → Gathers (HopsTo seconds feet (λ v. v ≡ y)) since bound mid new
      → Gathers (HopsTo seconds feet (Seen row (i + 1))) since bound old new
  hops_more mid new before here =
      gathers_then (HopsTo seconds feet (Seen row i)) (HopsTo seconds feet (λ v. v ≡ y)) (HopsTo seconds feet (Seen row (i + 1))) since bound old mid new
      (hops_for seconds feet (Seen row i) (Seen row (i + 1)) (λ v s. seen_before row i v s))
      (hops_for seconds feet (λ v. v ≡ y) (Seen row (i + 1)) (λ v e. subst (Seen row (i + 1)) (sym e) (seen_here row i y d within is)))
      (hops_split seconds feet (Seen row i) (λ v. v ≡ y) (Seen row (i + 1)) (seen_split row i y d within is))
      before here

  -- a way of the row that is too early, or walks too much
  pub hops_pass : (mid : List WayData) → ((w : WayData) → HopsTo seconds feet (λ v. v ≡ y) w → w.walked < bound → ⊥) → Gathers (HopsTo seconds feet (Seen row i)) since bound old mid
      → Gathers (HopsTo seconds feet (Seen row (i + 1))) since bound old mid
  hops_pass mid none before =
      hops_more mid mid before (gathers_idle (HopsTo seconds feet (λ v. v ≡ y)) since bound mid (λ w h late short. absurd (none w h short)))

  -- a way of the row that is offered
  pub hops_offer : (mid new : List WayData) (way : WayData) → HopsTo seconds feet (λ v. v ≡ y) way → Gathers (λ w. w ≡ way) since bound mid new
      → Gathers (HopsTo seconds feet (Seen row i)) since bound old mid → Gathers (HopsTo seconds feet (Seen row (i + 1))) since bound old new
  hops_offer mid new way of offered before =
      hops_more mid new before (gathers_best (HopsTo seconds feet (λ v. v ≡ y)) since bound mid new way of better offered) where
        better : (w : WayData) → HopsTo seconds feet (λ v. v ≡ y) w → IsNoWorse way w
        better w h =
            let a = of.moment in
            let b = h.moment in
            let x = ap (λ (v : WayData). v.moment) (of.goes_on ∙ sym h.goes_on) in
            let y' = ap (λ (v : WayData). v.walked) (of.goes_on ∙ sym h.goes_on) in
            let c = of.walked in
            let e = h.walked in
            record { late = omega (arith, a, b, x); short = omega (arith, c, e, y') }

pub hops_none : (seconds feet since bound : ℕ) (row old : List WayData) → Gathers (HopsTo seconds feet (Seen row 0)) since bound old old
hops_none seconds feet since bound row old =
    gathers_idle (HopsTo seconds feet (Seen row 0)) since bound old (λ w h late short. absurd (seen_none row h.rest h.goes_on))

pub hops_all : (seconds feet since bound : ℕ) (row old new : List WayData) (i : ℕ) → length row ≤ i → Gathers (HopsTo seconds feet (Seen row i)) since bound old new
    → Gathers (HopsTo seconds feet (Contains row)) since bound old new
hops_all seconds feet since bound row old new i long is =
    gathers_for (HopsTo seconds feet (Seen row i)) (HopsTo seconds feet (Contains row)) since bound old new
    (hops_for seconds feet (Seen row i) (Contains row) (λ v s. seen_contained row i v s))
    (hops_for seconds feet (Contains row) (Seen row i) (λ v s. seen_all row i v long s)) is

pub no_walk : (o : Option ℕ) (x : ℕ) → o ≡ None → o ≡ Some x → ⊥
no_walk o x a b = cc

-- ---- the stops to which one walks

hop_other : (table : Table) (ridden : Bool) (p q : ℕ) → q ≢ p → hop table ridden p q ≡ walk table p q
hop_other table true p q ne = link_other table p q ne
hop_other table false p q ne = foot_other table p q ne

pub hop_same : (table : Table) (p : ℕ) → (hop table true p p ≡ change table p) × (hop table false p p ≡ Some 0)
hop_same table p = (link_same table p, foot_same table p)

module _ (table : Table) (ridden : Bool) (p since bound : ℕ) (boards : List (List WayData)) where
  among_then : (S T U : ℕ → Type 0) (old mid new : List WayData) → ((b : ℕ) → S b → U b) → ((b : ℕ) → T b → U b) → ((b : ℕ) → U b → S b ⊎ T b)
      → Gathers (HopsAmong table ridden p S boards) since bound old mid → Gathers (HopsAmong table ridden p T boards) since bound mid new
      → Gathers (HopsAmong table ridden p U boards) since bound old new
  among_then S T U old mid new left right split first second =
      gathers_then (HopsAmong table ridden p S boards) (HopsAmong table ridden p T boards) (HopsAmong table ridden p U boards) since bound old mid new
      (λ w h. record { board = h.board; here = left h.board h.here; seconds = h.seconds; hops = h.hops; then = h.then })
      (λ w h. record { board = h.board; here = right h.board h.here; seconds = h.seconds; hops = h.hops; then = h.then })
      (λ w h. elim (split h.board h.here) [
        | inl s ↦ inl (record { board = h.board; here = s; seconds = h.seconds; hops = h.hops; then = h.then })
        | inr t ↦ inr (record { board = h.board; here = t; seconds = h.seconds; hops = h.hops; then = h.then })
      ])
      first second

  -- the ways of one stop
  pub among_one : (q x feet : ℕ) (row old new : List WayData) → hop table ridden p q ≡ Some x → unwrap_or (foot table p q) 0 ≡ feet → row ≡ ways_at boards q
      → Gathers (HopsTo x feet (Contains row)) since bound old new → Gathers (HopsAmong table ridden p (λ b. b ≡ q) boards) since bound old new
  among_one q x feet row old new hops walks same is =
      gathers_for (HopsTo x feet (Contains row)) (HopsAmong table ridden p (λ b. b ≡ q) boards) since bound old new
      (λ w h. record {
        board = q;
        here = refl;
        seconds = x;
        hops = hops;
        then = subst (λ (ws : List WayData). HopsTo x (unwrap_or (foot table p q) 0) (Contains ws) w) same
            (subst (λ (f : ℕ). HopsTo x f (Contains row) w) (sym walks) h);
      })
      (λ w h. back w h.board h.here h.seconds h.hops h.then) is where
        back : (w : WayData) (b : ℕ) → b ≡ q → (y : ℕ) → hop table ridden p b ≡ Some y → HopsTo y (unwrap_or (foot table p b) 0) (Contains (ways_at boards b)) w
            → HopsTo x feet (Contains row) w
        back w b e y other then' =
            let z : y ≡ x = same_Some y x (sym (subst (λ (b : ℕ). hop table ridden p b ≡ Some y) e other) ∙ hops) in
            subst (λ (s : ℕ). HopsTo s feet (Contains row) w) z
            (subst (λ (f : ℕ). HopsTo y f (Contains row) w) walks
            (subst (λ (ws : List WayData). HopsTo y (unwrap_or (foot table p q) 0) (Contains ws) w) (sym same)
            (subst (λ (b : ℕ). HopsTo y (unwrap_or (foot table p b) 0) (Contains (ways_at boards b)) w) e then')))

  -- one can't stay
  pub among_nowhere : (q : ℕ) (old : List WayData) → hop table ridden p q ≡ None → Gathers (HopsAmong table ridden p (λ b. b ≡ q) boards) since bound old old
  among_nowhere q old none =
      gathers_idle (HopsAmong table ridden p (λ b. b ≡ q) boards) since bound old
      (λ w h late short. absurd (no_walk (hop table ridden p q) h.seconds none (subst (λ (b : ℕ). hop table ridden p b ≡ Some h.seconds) h.here h.hops)))

  pub seen_stay : (old new : List WayData) → Gathers (HopsAmong table ridden p (λ b. b ≡ p) boards) since bound old new
      → Gathers (HopsAmong table ridden p (SeenOf p (walks_of table p) 0) boards) since bound old new
  seen_stay old new is =
      gathers_for (HopsAmong table ridden p (λ b. b ≡ p) boards) (HopsAmong table ridden p (SeenOf p (walks_of table p) 0) boards) since bound old new
      (λ w h. record { board = h.board; here = inl h.here; seconds = h.seconds; hops = h.hops; then = h.then })
      (λ w h. record {
        board = h.board;
        here = elim h.here [ inl e ↦ e | inr v ↦ absurd (let lt = v.2 in omega (arith, lt)) ];
        seconds = h.seconds;
        hops = h.hops;
        then = h.then;
      }) is

  module _ (valid : IsTable table) (known : p < stops_of table) where
    -- one walk more
    pub seen_more : (i : ℕ) (w : Walk) (row old mid new : List WayData) → slice_get (walks_of table p) i ≡ Some w → row ≡ ways_at boards w.to
        → Gathers (HopsAmong table ridden p (SeenOf p (walks_of table p) i) boards) since bound old mid
        → Gathers (HopsTo w.seconds w.seconds (Contains row)) since bound mid new
        → Gathers (HopsAmong table ridden p (SeenOf p (walks_of table p) (i + 1)) boards) since bound old new
    seen_more i w row old mid new at same before here =
        let good = walk_good table p i w valid known at in
        let listed = walk_listed table p i w valid known at in
        let walks : unwrap_or (foot table p w.to) 0 ≡ w.seconds = ap (λ (o : Option ℕ). unwrap_or o 0) (foot_other table p w.to good.other ∙ listed) in
        among_then (SeenOf p (walks_of table p) i) (λ b. b ≡ w.to) (SeenOf p (walks_of table p) (i + 1)) old mid new
        (λ b h. elim h [ inl e ↦ inl e | inr v ↦ inr (v.0, v.1, (let lt = v.2 in let z : v.0 < i + 1 = omega (arith, lt) in z), v.3, v.4) ])
        (λ b e. inr (i, w, (let z : i < i + 1 = omega arith in z), at, sym e))
        (λ b h. elim h [
          | inl e ↦ inl (inl e)
          | inr v ↦ elim (eq-or-lt_of_le (let lt = v.2 in let z : v.0 ≤ i = omega (arith, lt) in z)) [
            | inl here' ↦ inr (sym v.4 ∙ ap (λ (w : Walk). w.to) (same_Some v.1 w (sym v.3 ∙ subst (λ (j : ℕ). slice_get (walks_of table p) j ≡ Some w) (sym here') at)))
            | inr lt ↦ inl (inr (v.0, v.1, lt, v.3, v.4))
          ]
        ])
        before (among_one w.to w.seconds w.seconds row mid new (hop_other table ridden p w.to good.other ∙ listed) walks same here)

    -- all walks
    pub seen_walks : (n : ℕ) (old new : List WayData) → length (walks_of table p) ≤ n
        → Gathers (HopsAmong table ridden p (SeenOf p (walks_of table p) n) boards) since bound old new
        → Gathers (HopsAmong table ridden p Anywhere boards) since bound old new
    seen_walks n old new long is =
        gathers_for (HopsAmong table ridden p (SeenOf p (walks_of table p) n) boards) (HopsAmong table ridden p Anywhere boards) since bound old new
        (λ w h. record { board = h.board; here = tt; seconds = h.seconds; hops = h.hops; then = h.then })
        (λ w h. record {
          board = h.board;
          here = elim (cases_eq h.board p) [
            | inl same ↦ inl same
            | inr ne ↦
                let f = walk_found table p h.board h.seconds (sym (hop_other table ridden p h.board ne) ∙ h.hops) in
                inr (f.0, f.1, (let within = slice_get_within (walks_of table p) f.0 f.1 f.2 in let k : f.0 < n = omega (arith, within, long) in k), f.2, f.3)
          ];
          seconds = h.seconds;
          hops = h.hops;
          then = h.then;
        }) is

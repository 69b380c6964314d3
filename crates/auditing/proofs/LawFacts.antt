-- If answers agree at each event, they agree at each moment.
use Rattle.std.proofs.Common.{◌≡◌, ℕ, ◌+◌, ◌<◌, ◌≤◌, List, [], ◌∷◌, Option, None, length, IsSomeAnd, arith, refl, sym, subst, inl, inr, le_trans}
use Rattle.std.proofs.lemmas.Bool.{cases_lt}
use Rattle.timetable.specs.declared.parts.Leg.{Leg}
use Rattle.timetable.specs.declared.parts.Numbers.{Numbers}
use Rattle.timetable.specs.Front.{AreFront, AreBest}
use Rattle.timetable.specs.Journeys.{Journey, Reaches, Unbeaten, foot}
use Rattle.timetable.specs.Table.{Table, stops_of}
use Rattle.timetable.proofs.Taken.{journey_earlier, the_some}
use Rattle.pattern_tree.specs.Content.{Content}
use Rattle.pattern_query.specs.Answer.{TreeReaches}
use Rattle.rounds.specs.Events.{IsEvent}
use Rattle.rounds.proofs.EventLaws.{own_event}
use Rattle.auditing.specs.Audits.{IsFirstDifference}

-- numbers that can be reached at moments: those of one ride or more at some event from the moment on, and at each earlier moment; on
-- foot one is there no later if one leaves earlier
pub record IsTimed (Event : ℕ → Type 0) (P : ℕ → Numbers → Type 0) : Type 0 where
  pub own : (d : ℕ) (n : Numbers) → 1 ≤ n.rides → P d n → (e : ℕ) × Event e × (d ≤ e) × P e n
  pub lower : (d e : ℕ) (n : Numbers) → d ≤ e → 1 ≤ n.rides → P e n → P d n
  pub on_foot : (d e : ℕ) (n : Numbers) → d ≤ e → n.rides ≡ 0 → P e n → (m : Numbers) × P d m × (m.arrival ≤ n.arrival) × (m.rides ≡ 0)

module _ (Event : ℕ → Type 0) (P Q : ℕ → Numbers → Type 0) (p : IsTimed Event P) (q : IsTimed Event Q)
    (there : (d : ℕ) (n : Numbers) → n.rides ≡ 0 → P d n → Q d n) (back : (d : ℕ) (n : Numbers) → n.rides ≡ 0 → Q d n → P d n)
    (agree : (e : ℕ) → Event e → (n : Numbers) → 1 ≤ n.rides → Unbeaten (P e) n → Unbeaten (Q e) n) where
  -- what none beat at d none beat at a later moment at which it is there
  stays : (d e : ℕ) (n : Numbers) → d ≤ e → Unbeaten (P d) n → P e n → Unbeaten (P e) n
  stays d e n le un at = (
    at,
    λ m of beats. elim (cases_lt 0 m.rides) [
      | inl ridden ↦ un.1 m (p.lower d e m le ridden of) beats
      | inr none ↦
          let zero : m.rides ≡ 0 = omega (arith, none) in
          let sooner = p.on_foot d e m le zero of in
          let a = sooner.2 in let r = sooner.3 in let b = beats.0 in let c = beats.1 in
          un.1 sooner.0 sooner.1 (
            le_trans a b,
            (let z : sooner.0.rides ≤ n.rides = omega (arith, r) in z),
            elim beats.2 [
              | inl lt ↦ inl (let z : sooner.0.arrival < n.arrival = omega (arith, a, lt) in z)
              | inr lt ↦ inr (let z : sooner.0.rides < n.rides = omega (arith, r, zero, lt) in z)
            ],
          )
    ],
  )

  half_on_foot : (d : ℕ) (n : Numbers) → n.rides ≡ 0 → Unbeaten (P d) n → Unbeaten (Q d) n
  half_on_foot d n none un = (
    there d n none un.0,
    λ m of beats. un.1 m (back d m (let few = beats.1 in omega (arith, few, none)) of) beats,
  )

  half_ridden : (d : ℕ) (n : Numbers) → 1 ≤ n.rides → Unbeaten (P d) n → Unbeaten (Q d) n
  half_ridden d n some un =
      let one = p.own d n some un.0 in
      let best = agree one.0 one.1 n some (stays d one.0 n one.2 un one.3) in (
        q.lower d one.0 n one.2 some best.0,
        λ m of beats. elim (cases_lt 0 m.rides) [
          | inl ridden ↦
              let two = q.own d m ridden of in
              elim (cases_lt one.0 two.0) [
                | inl before ↦ best.1 m (q.lower one.0 two.0 m (omega (arith, before)) ridden two.3) beats
                | inr after ↦ (agree two.0 two.1 n some (stays d two.0 n two.2 un (p.lower two.0 one.0 n after some one.3))).1 m two.3 beats
              ]
          | inr none ↦ un.1 m (back d m (omega (arith, none)) of) beats
        ],
      )

  pub half : (d : ℕ) (n : Numbers) → Unbeaten (P d) n → Unbeaten (Q d) n
  half d n un = elim (cases_lt 0 n.rides) [
    | inl ridden ↦ half_ridden d n ridden un
    | inr none ↦ half_on_foot d n (omega (arith, none)) un
  ]

-- on foot
walked : (table : Table) (s t d e z : ℕ) → d ≤ e → Journey table s e [] t z → (y : ℕ) × Journey table s d [] t y × (y ≤ z)
walked table s t d e z le j =
    let w = the_some (foot table s t) (λ w. z ≡ e + w) j in
    let at = w.2 in (
      d + w.0,
      subst (λ (o : Option ℕ). IsSomeAnd o (λ v. d + w.0 ≡ d + v)) (sym w.1) refl,
      (omega (arith, le, at)),
    )

module _ (table : Table) (tree : Content) (k t : ℕ) where
  tree_timed : IsTimed (IsEvent table tree.source) (λ d. TreeReaches table tree t d)
  tree_timed = record {
    own = λ d n some of.
        let count = of.2 in
        let e = own_event table tree.source d of.0 t n.arrival (omega (arith, some, count)) of.1.0 in (e.0, e.1, e.2, (of.0, (e.3, of.1.1), of.2));
    lower = λ d e n le some of.
        let count = of.2 in
        (of.0, (journey_earlier table tree.source d e of.0 t n.arrival le (omega (arith, some, count)) of.1.0, of.1.1), of.2);
    on_foot = λ d e n le none of. go d e n le none of.0 of.1.0 of.2;
  } where
    go : (d e : ℕ) (n : Numbers) → d ≤ e → n.rides ≡ 0 → (legs : List Leg) → Journey table tree.source e legs t n.arrival → length legs ≡ n.rides
        → (m : Numbers) × TreeReaches table tree t d m × (m.arrival ≤ n.arrival) × (m.rides ≡ 0)
    go d e n le none [] j count =
        let w = walked table tree.source t d e n.arrival le j in
        (record { arrival = w.0; rides = 0 }, ([], (w.1, inl refl), refl), w.2, refl)
    go d e n le none (leg ∷ legs) j count = absurd (omega (arith, none, count))

  all_timed : IsTimed (IsEvent table tree.source) (λ d. Reaches table 0 k tree.source t d)
  all_timed = record {
    own = λ d n some of.
        let count = of.2 in
        let e = own_event table tree.source d of.0 t n.arrival (omega (arith, some, count)) of.1 in (e.0, e.1, e.2, (of.0, e.3, of.2, of.3, of.4));
    lower = λ d e n le some of.
        let count = of.2 in
        (of.0, journey_earlier table tree.source d e of.0 t n.arrival le (omega (arith, some, count)) of.1, of.2, of.3, of.4);
    on_foot = λ d e n le none of. go d e n le none of.0 of.1 of.2;
  } where
    go : (d e : ℕ) (n : Numbers) → d ≤ e → n.rides ≡ 0 → (legs : List Leg) → Journey table tree.source e legs t n.arrival → length legs ≡ n.rides
        → (m : Numbers) × Reaches table 0 k tree.source t d m × (m.arrival ≤ n.arrival) × (m.rides ≡ 0)
    go d e n le none [] j count =
        let w = walked table tree.source t d e n.arrival le j in
        (record { arrival = w.0; rides = 0 }, ([], w.1, refl, (omega arith), (omega arith)), w.2, refl)
    go d e n le none (leg ∷ legs) j count = absurd (omega (arith, none, count))

  there : (d : ℕ) (n : Numbers) → n.rides ≡ 0 → TreeReaches table tree t d n → Reaches table 0 k tree.source t d n
  there d n none of = (of.0, of.1.0, of.2, (omega arith), (omega (arith, none)))

  back : (d : ℕ) (n : Numbers) → n.rides ≡ 0 → Reaches table 0 k tree.source t d n → TreeReaches table tree t d n
  back d n none of = (of.0, (of.1, inl (go of.0 of.2)), of.2) where
    go : (legs : List Leg) → length legs ≡ n.rides → legs ≡ []
    go [] count = refl
    go (leg ∷ legs) count = absurd (omega (arith, none, count))

  pub exact : t < stops_of table → IsFirstDifference table tree k None → (d : ℕ) (points : List Numbers)
      → AreBest (TreeReaches table tree t d) points → AreFront table k tree.source t d points
  exact within same d points best =
      let Event = IsEvent table tree.source in
      let P = λ (d : ℕ). TreeReaches table tree t d in
      let Q = λ (d : ℕ). Reaches table 0 k tree.source t d in
      let to = half Event P Q tree_timed all_timed there back (λ e event n ridden. (same e event t within n ridden).0) d in
      let from = half Event Q P all_timed tree_timed back there (λ e event n ridden. (same e event t within n ridden).1) d in
      record {
        rising = best.rising;
        each = λ n c. to n (best.each n c);
        all = λ n un. best.all n (from n un);
      }

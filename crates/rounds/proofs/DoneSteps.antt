-- A run that keeps labels goes from one layer to the next.
use Rattle.std.proofs.Common.{Option, ◌≡◌, ℕ, suc, ◌+◌, ◌<◌, ◌≤◌, List, [], length, map, arith, sym, ◌∙◌, ap, subst, inl, inr, ◌≢◌, eq-or-lt_of_le, zero, refl}
use Rattle.std.specs.List.{All}
use Rattle.std.proofs.lemmas.Bool.{cases_eq}
use Rattle.std.proofs.lemmas.List.{length-map, get_or-map}
use Rattle.std.proofs.lemmas.List.Elements.{All-map}
use Rattle.timetable.specs.Table.{Table, IsTable, stops_of}
use Rattle.timetable.specs.Journeys.{foot, from, to, departs, arrives}
use Rattle.timetable.proofs.Taken.{rides_some}
use Rattle.rounds.specs.Answers.{AreRounds}
use Rattle.rounds.specs.Mark.{Mark, at, By}
use Rattle.stop_labels.specs.Row.{RowData, SameRow, ByThen, arrivals_of, settled_of, when}
use Rattle.rounds.specs.Marks.{RideSet, JourneySet, IsMark}
use Rattle.rounds.specs.Serving.{Served}
use Rattle.rounds.specs.Layers.{IsSettled, IsBelow, Attained, IsRound, IsNext, IsBegun, IsBegunRound, IsBegunNext, IsLayer, IsRode, IsDone, IsDoneRound, Begins, Changes, Stepped, Ridden, AreKept, DoneTo, RodeTo, no_row, layer_at, round_at}
use Rattle.rounds.specs.declared.layer.Layer.{Layer}
use Rattle.rounds.proofs.Steps.{by_some}
use Rattle.rounds.proofs.LayerSteps.{then_by}
use Rattle.rounds.proofs.MarkSteps.{rounds_are, known_of}
use Rattle.rounds.proofs.KeptSteps.{layer_done, layer_changed, layer_of_done, layer_of_rode, round_done, round_of_done, next_done}

-- before any ride nobody alights
nobody : (table : Table) (s d : ℕ) (marks : List (Option Mark)) → Attained table (RideSet table s d 0) marks → (p a : ℕ) → By (at marks p) a → ⊥
nobody table s d marks is p a h =
    let m = by_some (at marks p) a h in
    let o = is p m.0 m.1 in
    let some = rides_some table s d o.0 p m.0.arrival o.1.0 in
    let few = o.1.1 in
    omega (arith, some, few)

-- so all rides to the first layer are done as soon as a run has begun
pub first_rode : (table : Table) (s d : ℕ) (x : Layer) → IsBegun table s d 0 x → IsRode table s d 0 x
first_rode table s d x is = record {
  sized = is.sized;
  rides = record {
    size = is.sized.rode;
    marks_are = λ p _. record {
      attained = λ m e. is.rides p m e;
      least = λ legs a h. (let some = rides_some table s d legs p a h.0 in let few = h.1 in absurd (let b : ⊥ = omega (arith, some, few) in b));
    };
  };
  readies = is.readies;
  on_foot = is.on_foot;
}

-- and nobody who alights before any ride could take one
pub first_served : (table : Table) (s d : ℕ) (x : Layer) (rode : List (Option Mark)) → IsDone table s d 0 x → Served table (arrivals_of x.rode) rode
first_served table s d x rode is leg ride h =
    absurd (nobody table s d x.rode.marks (λ p m e. (is.rides.marks_are p (known_of table x.rode.marks is.rides.size p m e)).attained m e) (from table leg) (departs table leg) (then_by (at x.rode.marks (from table leg)) (departs table leg) h))

-- what was done before a run is done, as its labels were settled
module _ (table : Table) (s d r : ℕ) (x x' y y' : Layer) (round round' : RowData) (first : Begins table s d r x x') (second : Begins table s d (suc r) y y') where
  pub round_begun : IsSettled round round' → IsRound table s d (suc r) y round → IsBegunRound table s d (suc r) y' round'
  round_begun settled is = record {
    size = ap (length {A = Option Mark}) settled.marks ∙ is.size;
    attained = subst (λ (marks : List (Option Mark)). Attained table (JourneySet table s d (suc r)) marks) (sym settled.marks) is.attained;
    walked = λ p q w a h e. subst (λ (marks : List (Option Mark)). By (at marks q) (a + w)) (sym settled.marks)
        (is.walked p q w a (subst (λ (o : Option ℕ). ByThen o a) (second.rode.settled p) h) e);
  }

  pub next_begun : IsNext table x y → IsBegunNext table x' y'
  next_begun is = record {
    linked = first.linked is.linked;
    served = λ leg ride h. subst (λ (marks : List (Option Mark)). By (at marks (to table leg)) (arrives table leg)) (sym second.rode.marks)
        (is.served leg ride (subst (λ (o : Option ℕ). ByThen o (departs table leg)) (first.ready (from table leg)) h));
    below = λ p a h. subst (λ (marks : List (Option Mark)). By (at marks p) a) (sym second.rode.marks)
        (is.below p a (subst (λ (o : Option ℕ). ByThen o a) (first.rode.settled p) h));
  }

-- a run has begun in all layers
pub all_begun : (table : Table) (s d : ℕ) (old new : List Layer) (rounds rounds' : List RowData) → length new ≡ length old → length rounds' ≡ length rounds
    → length old ≡ suc (length rounds)
    → ((r : ℕ) → r < length old → Begins table s d r (layer_at old r) (layer_at new r))
    → ((r : ℕ) → r < length rounds → IsSettled (round_at rounds r) (round_at rounds' r))
    → AreKept table s d old rounds → RodeTo table s d 0 new rounds'
all_begun table s d old new rounds rounds' e1 e2 sizes begins settled is = record {
  sizes = omega (arith, e1, e2, sizes);
  done = λ r lt. absurd (let b : ⊥ = omega (arith, lt) in b);
  rode = first_rode table s d (layer_at new 0)
      ((begins 0 (let k : 0 < length old = omega (arith, sizes) in k)).begun (is.each 0 (let k : 0 < length old = omega (arith, sizes) in k)));
  found = λ r lt. absurd (let b : ⊥ = omega (arith, lt) in b);
  nexts = λ r lt. absurd (let b : ⊥ = omega (arith, lt) in b);
  begun = λ r _ lt. let in' : r < length old = omega (arith, lt, e1) in (begins r in').begun (is.each r in');
  ends = λ r _ lt.
      let in' : r < length rounds = omega (arith, lt, e2) in
      round_begun table s d r (layer_at old r) (layer_at new r) (layer_at old (suc r)) (layer_at new (suc r)) (round_at rounds r) (round_at rounds' r)
      (begins r (let k : r < length old = omega (arith, in', sizes) in k)) (begins (suc r) (let k : suc r < length old = omega (arith, in', sizes) in k)) (settled r in') (is.ends r in');
  later = λ r _ lt.
      let in' : r < length rounds = omega (arith, lt, e2) in
      next_begun table s d r (layer_at old r) (layer_at new r) (layer_at old (suc r)) (layer_at new (suc r)) (round_at rounds r) (round_at rounds' r)
      (begins r (let k : r < length old = omega (arith, in', sizes) in k)) (begins (suc r) (let k : suc r < length old = omega (arith, in', sizes) in k)) (is.nexts r in');
}

-- what a layer does to the next is settled only in its rows, and lowering a mark undoes nothing
next_moved : (table : Table) (x x' y : Layer) → SameRow x.rode x'.rode → SameRow x.ready x'.ready
    → ((q a : ℕ) → By (at x.ready.marks q) a → By (at x'.ready.marks q) a) → IsBegunNext table x y → IsBegunNext table x' y
next_moved table x x' y rode ready kept is = record {
  linked = λ p q w a h e. kept q (a + w) (is.linked p q w a (subst (λ (xs : List (Option ℕ)). ByThen (when xs p) a) rode.settled h) e);
  served = subst (λ (xs : List (Option ℕ)). Served table (λ p. settled_of (record { marks = x'.ready.marks; settled = xs }) p) y.rode.marks) (sym ready.settled) is.served;
  below = subst (λ (xs : List (Option ℕ)). IsBelow (λ p. settled_of (record { marks = x'.rode.marks; settled = xs }) p) y.rode.marks) (sym rode.settled) is.below;
}

-- what a layer has of the one before, and its round, are settled in who alights there
next_same : (table : Table) (x y y' : Layer) → y'.rode ≡ y.rode → IsNext table x y → IsNext table x y'
next_same table x y y' e is = record {
  linked = is.linked;
  served = subst (λ (row : RowData). Served table (arrivals_of x.ready) row.marks) (sym e) is.served;
  below = subst (λ (row : RowData). IsBelow (arrivals_of x.rode) row.marks) (sym e) is.below;
}

round_same : (table : Table) (s d r : ℕ) (x x' : Layer) (round : RowData) → x'.rode ≡ x.rode → IsDoneRound table s d r x round → IsDoneRound table s d r x' round
round_same table s d r x x' round e is = record {
  size = is.size;
  journeys = is.journeys;
  walked = subst (λ (row : RowData). Stepped (foot table) (arrivals_of row) round.marks) (sym e) is.walked;
}

less_other : (a b : ℕ) → a < b → a ≢ b
less_other a b lt e = omega (arith, lt, e)

more_other : (a b : ℕ) → b < a → a ≢ b
more_other a b lt e = omega (arith, lt, e)

-- who alights at the layer changes
pub changed : (table : Table) (s d n : ℕ) (layers layers' : List Layer) (rounds : List RowData) (x : Layer) → IsTable table
    → length layers' ≡ length layers → n < length rounds
    → ((r : ℕ) → r ≢ n → layer_at layers' r ≡ layer_at layers r) → layer_at layers' n ≡ x
    → Changes table (layer_at layers n) x → RodeTo table s d n layers rounds → DoneTo table s d n layers' rounds
changed table s d n layers layers' rounds x valid e1 within others here changes is =
    let top = layer_changed table s d n (layer_at layers n) x valid is.rode changes in
    record {
      sizes = e1 ∙ is.sizes;
      done = λ r le. elim (eq-or-lt_of_le le) [
        | inl same ↦ subst (λ k. IsDone table s d k (layer_at layers' k)) (sym same) (subst (λ (y : Layer). IsDone table s d n y) (sym here) top)
        | inr lt ↦ subst (λ (y : Layer). IsDone table s d r y) (sym (others r (less_other r n lt))) (is.done r lt)
      ];
      found = λ r lt. round_same table s d (suc r) (layer_at layers (suc r)) (layer_at layers' (suc r)) (round_at rounds r) (rode_same (suc r)) (is.found r lt);
      nexts = λ r lt.
          subst (λ (y : Layer). IsNext table y (layer_at layers' (suc r))) (sym (others r (less_other r n lt)))
          (next_same table (layer_at layers r) (layer_at layers (suc r)) (layer_at layers' (suc r)) (rode_same (suc r)) (is.nexts r lt));
      begun = λ r lt in'. subst (λ (y : Layer). IsBegun table s d r y) (sym (others r (more_other r n lt))) (is.begun r lt (let k : r < length layers = omega (arith, in', e1) in k));
      ends = λ r le in'.
          subst (λ (y : Layer). IsBegunRound table s d (suc r) y (round_at rounds r)) (sym (others (suc r) (more_other (suc r) n (let k : n < suc r = omega (arith, le) in k))))
          (is.ends r le in');
      later = λ r le in'.
          subst (λ (y : Layer). IsBegunNext table (layer_at layers' r) y) (sym (others (suc r) (more_other (suc r) n (let k : n < suc r = omega (arith, le) in k))))
          (elim (eq-or-lt_of_le le) [
            | inl same ↦
                subst (λ k. IsBegunNext table (layer_at layers' k) (layer_at layers (suc r))) same
                (subst (λ (y : Layer). IsBegunNext table y (layer_at layers (suc r))) (sym here)
                (next_moved table (layer_at layers n) x (layer_at layers (suc r)) (same_row x (layer_at layers n) changes.rode) changes.ready changes.links.kept
                (subst (λ k. IsBegunNext table (layer_at layers k) (layer_at layers (suc r))) (sym same) (is.later r le in'))))
            | inr lt ↦ subst (λ (y : Layer). IsBegunNext table y (layer_at layers (suc r))) (sym (others r (more_other r n lt))) (is.later r le in')
          ]);
    } where
      same_row : (y z : Layer) → y.rode ≡ z.rode → SameRow z.rode y.rode
      same_row y z e = record { size = ap (λ (row : RowData). length row.marks) e; settled = ap (λ (row : RowData). row.settled) e }

      rode_same : (r : ℕ) → (layer_at layers' r).rode ≡ (layer_at layers r).rode
      rode_same r = elim (cases_eq r n) [
        | inl e ↦ subst (λ k. (layer_at layers' k).rode ≡ (layer_at layers k).rode) (sym e) (ap (λ (y : Layer). y.rode) here ∙ changes.rode)
        | inr ne ↦ ap (λ (y : Layer). y.rode) (others r ne)
      ]

-- one ride more
pub done_next : (table : Table) (s d n : ℕ) (layers layers' : List Layer) (rounds rounds' : List RowData) (x : Layer) (round : RowData) → IsTable table
    → length layers' ≡ length layers → length rounds' ≡ length rounds → n < length rounds
    → ((r : ℕ) → r ≢ suc n → layer_at layers' r ≡ layer_at layers r) → layer_at layers' (suc n) ≡ x
    → ((r : ℕ) → r ≢ n → round_at rounds' r ≡ round_at rounds r) → round_at rounds' n ≡ round
    → Ridden table (layer_at layers n) (layer_at layers (suc n)) x (round_at rounds n) round
    → DoneTo table s d n layers rounds → RodeTo table s d (suc n) layers' rounds'
done_next table s d n layers layers' rounds rounds' x round valid e1 e2 within others here others' here' ridden is =
    let ends = is.ends n (let k : n ≤ n = omega arith in k) within in
    let top = layer_done table s d n (layer_at layers n) (layer_at layers (suc n)) x (round_at rounds n) round valid
    (is.done n (let k : n ≤ n = omega arith in k)) (is.begun (suc n) (let k : n < suc n = omega arith in k) (let z = is.sizes in let k : suc n < length layers = omega (arith, z, within) in k)) ridden in
    let end = round_done table s d (suc n) x (round_at rounds n) round valid top.rides ends.size ridden.ended ends.attained ridden.ends in
    let next = next_done table (layer_at layers n) (layer_at layers (suc n)) x (round_at rounds n) round (is.done n (let k : n ≤ n = omega arith in k)).linked ridden in
    record {
      sizes = (let z = is.sizes in let k : length layers' ≡ suc (length rounds') = omega (arith, z, e1, e2) in k);
      done = λ r lt. subst (λ (y : Layer). IsDone table s d r y) (sym (others r (less_other r (suc n) lt))) (is.done r (let k : r ≤ n = omega (arith, lt) in k));
      rode = subst (λ (y : Layer). IsRode table s d (suc n) y) (sym here) top;
      found = λ r lt. elim (eq-or-lt_of_le (let k : r ≤ n = omega (arith, lt) in k)) [
        | inl same ↦
            subst (λ k. IsDoneRound table s d (suc k) (layer_at layers' (suc k)) (round_at rounds' k)) (sym same)
            (subst (λ (y : Layer). IsDoneRound table s d (suc n) y (round_at rounds' n)) (sym here)
            (subst (λ (z : RowData). IsDoneRound table s d (suc n) x z) (sym here') end))
        | inr before ↦
            subst (λ (y : Layer). IsDoneRound table s d (suc r) y (round_at rounds' r)) (sym (others (suc r) (less_other (suc r) (suc n) (let k : suc r < suc n = omega (arith, before) in k))))
            (subst (λ (z : RowData). IsDoneRound table s d (suc r) (layer_at layers (suc r)) z) (sym (others' r (less_other r n before))) (is.found r before))
      ];
      nexts = λ r lt. elim (eq-or-lt_of_le (let k : r ≤ n = omega (arith, lt) in k)) [
        | inl same ↦
            subst (λ k. IsNext table (layer_at layers' k) (layer_at layers' (suc k))) (sym same)
            (subst (λ (y : Layer). IsNext table y (layer_at layers' (suc n))) (sym (others n (less_other n (suc n) (let k : n < suc n = omega arith in k))))
            (subst (λ (y : Layer). IsNext table (layer_at layers n) y) (sym here) next))
        | inr before ↦
            subst (λ (y : Layer). IsNext table y (layer_at layers' (suc r))) (sym (others r (less_other r (suc n) (let k : r < suc n = omega (arith, before) in k))))
            (subst (λ (y : Layer). IsNext table (layer_at layers r) y) (sym (others (suc r) (less_other (suc r) (suc n) (let k : suc r < suc n = omega (arith, before) in k)))) (is.nexts r before))
      ];
      begun = λ r lt in'.
          subst (λ (y : Layer). IsBegun table s d r y) (sym (others r (more_other r (suc n) lt)))
          (is.begun r (let k : n < r = omega (arith, lt) in k) (let k : r < length layers = omega (arith, in', e1) in k));
      ends = λ r le in'.
          subst (λ (y : Layer). IsBegunRound table s d (suc r) y (round_at rounds' r)) (sym (others (suc r) (more_other (suc r) (suc n) (let k : suc n < suc r = omega (arith, le) in k))))
          (subst (λ (z : RowData). IsBegunRound table s d (suc r) (layer_at layers (suc r)) z) (sym (others' r (more_other r n (let k : n < r = omega (arith, le) in k))))
          (is.ends r (let k : n ≤ r = omega (arith, le) in k) (let k : r < length rounds = omega (arith, in', e2) in k)));
      later = λ r le in'.
          let in'' : r < length rounds = omega (arith, in', e2) in
          let was = is.later r (let k : n ≤ r = omega (arith, le) in k) in'' in
          subst (λ (y : Layer). IsBegunNext table (layer_at layers' r) y) (sym (others (suc r) (more_other (suc r) (suc n) (let k : suc n < suc r = omega (arith, le) in k))))
          (elim (eq-or-lt_of_le le) [
            | inl same ↦
                subst (λ k. IsBegunNext table (layer_at layers' k) (layer_at layers (suc r))) same
                (subst (λ (y : Layer). IsBegunNext table y (layer_at layers (suc r))) (sym here)
                (next_moved table (layer_at layers (suc n)) x (layer_at layers (suc r)) ridden.rode (same_ready (layer_at layers (suc n)) x ridden.ready)
                (λ q a h. subst (λ (row : RowData). By (at row.marks q) a) (sym ridden.ready) h)
                (subst (λ k. IsBegunNext table (layer_at layers k) (layer_at layers (suc r))) (sym same) was)))
            | inr lt ↦ subst (λ (y : Layer). IsBegunNext table y (layer_at layers (suc r))) (sym (others r (more_other r (suc n) lt))) was
          ]);
    } where
      same_ready : (y z : Layer) → z.ready ≡ y.ready → SameRow y.ready z.ready
      same_ready y z e = record { size = ap (λ (row : RowData). length row.marks) e; settled = ap (λ (row : RowData). row.settled) e }

-- a run is done: what it leaves may be gone on from, at d and before
pub done_kept : (table : Table) (s d n : ℕ) (layers : List Layer) (rounds : List RowData) → n ≡ length rounds
    → RodeTo table s d n layers rounds → AreKept table s d layers rounds
done_kept table s d n layers rounds all is = record {
  each = λ r lt. elim (eq-or-lt_of_le (let z = is.sizes in let k : r ≤ n = omega (arith, z, lt, all) in k)) [
    | inl same ↦ subst (λ k. IsLayer table s d k (layer_at layers k)) (sym same) (layer_of_rode table s d n (layer_at layers n) is.rode)
    | inr before ↦ layer_of_done table s d r (layer_at layers r) (is.done r before)
  ];
  ends = λ r lt. round_of_done table s d (suc r) (layer_at layers (suc r)) (round_at rounds r) (is.found r (let k : r < n = omega (arith, lt, all) in k));
  nexts = λ r lt. is.nexts r (let k : r < n = omega (arith, lt, all) in k);
}

abbrev pub marks_in : List RowData → List (List (Option Mark))
marks_in rounds = map (λ (row : RowData). row.marks) rounds

-- and its rounds are right
pub done_rounds : (table : Table) (s d n : ℕ) (layers : List Layer) (rounds : List RowData) → n ≡ length rounds
    → All (λ row. length row.marks ≡ stops_of table) rounds → RodeTo table s d n layers rounds → AreRounds table s d n (marks_in rounds)
done_rounds table s d n layers rounds all sizes is =
    rounds_are table s d n (marks_in rounds) (record {
      count = length-map rounds (λ (row : RowData). row.marks) ∙ sym all;
      sizes = All-map (λ (marks : List (Option Mark)). length marks ≡ stops_of table) (λ (row : RowData). row.marks) rounds sizes;
      journeys = λ i t lt. subst (λ (marks : List (Option Mark)). IsMark table (JourneySet table s d (suc i) t) (at marks t))
          (sym (get_or-map (λ (row : RowData). row.marks) rounds i no_row [] (let k : i < length rounds = omega (arith, lt, all) in k))) ((is.found i lt).journeys t);
    })

-- the rides of those who were ready one ride before are done
pub known_served : (table : Table) (s d n : ℕ) (layers : List Layer) (rounds : List RowData) (known : RowData) → DoneTo table s d n layers rounds
    → (n ≡ 0 → known ≡ (layer_at layers 0).rode) → ((r : ℕ) → n ≡ suc r → known ≡ (layer_at layers r).ready)
    → Served table (arrivals_of known) (layer_at layers n).rode.marks × (length known.marks ≡ stops_of table)
known_served table s d zero layers rounds known is first later =
    let done = is.done 0 (let k : 0 ≤ 0 = omega arith in k) in
    let e = first refl in (
      subst (λ (x : RowData). Served table (arrivals_of x) (layer_at layers 0).rode.marks) (sym e) (first_served table s d (layer_at layers 0) (layer_at layers 0).rode.marks done),
      ap (λ (x : RowData). length x.marks) e ∙ done.sized.rode,
    )
known_served table s d (suc r) layers rounds known is first later =
    let e = later r refl in
    let done = is.done r (let k : r ≤ suc r = omega arith in k) in (
      subst (λ (x : RowData). Served table (arrivals_of x) (layer_at layers (suc r)).rode.marks) (sym e) (is.nexts r (let k : r < suc r = omega arith in k)).served,
      ap (λ (x : RowData). length x.marks) e ∙ done.sized.ready,
    )

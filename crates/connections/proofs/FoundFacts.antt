-- What a list of connections keeps as those of one more event are added, and when it is turned round.
use Rattle.std.proofs.Common.{Option, ◌≡◌, ℕ, ◌+◌, ◌-◌, ◌<◌, ◌≤◌, List, [], length, map, get_or, arith, sym, ◌∙◌, ap, subst, inl, inr, le_refl}
use Rattle.std.specs.List.{All, AllPairs, Contains, ReversedBelow}
use Rattle.std.specs.List.Sorted.{IsPermutation}
use Rattle.std.proofs.lemmas.Bool.{cases_lt}
use Rattle.std.proofs.lemmas.List.{get_or-map, length-map}
use Rattle.std.proofs.lemmas.List.Sorted.{Contains-permutation, IsPermutation-sym, length_permutation}
use Rattle.std.proofs.lemmas.List.Elements.{All-contains, Contains-get_or, at_from_Contains}
use Rattle.timetable.specs.declared.parts.Numbers.{Numbers}
use Rattle.timetable.specs.Table.{Table, stops_of}
use Rattle.timetable.specs.Journeys.{Reaches, Unbeaten}
use Rattle.timetable.specs.Front.{AreBest, AreFront, IsSooner}
use Rattle.rounds.specs.Mark.{Mark, arrival_in, moment_in}
use Rattle.rounds.specs.Answers.{AreRounds}
use Rattle.pattern_query.specs.Answer.{PointData, numbers}
use Rattle.connections.specs.declared.connection.Connection.{Connection}
use Rattle.connections.specs.declared.connection.Window.{Window}
use Rattle.connections.specs.Connections.{Connects, IsConnection, IsBefore, AreConnections}
use Rattle.connections.specs.Found.{AreFound, AreMoments, AreLeastAt, AddsSome, IsLowered, IsLoweredWithin, SplitsAt, between, leaving}
use Rattle.connections.proofs.ConnectionFacts.{HasEvents, event_of, connects_if, lowered_if, least_of}
use Rattle.connections.proofs.EventFacts.{place_of, rising_le, rising_lt}

pub all_from : {X : Type 0} (P : X → Type 0) (xs : List X) → ((x : X) → Contains xs x → P x) → All P xs
all_from P xs f = λ k d lt. f (get_or xs k d) (Contains-get_or xs k d lt)

-- what holds of journeys that are added and of the old connections holds of all
pub more_hold : (Holds : ℕ → PointData → Type 0) (e : ℕ) (These : PointData → Type 0) (points : List PointData) (old new : List Connection) → All (Holds e) points
    → AddsSome These e points old new → All (λ (c : Connection). Holds c.departure c.journey) old → All (λ (c : Connection). Holds c.departure c.journey) new
more_hold Holds e These points old new hold adds were =
    all_from (λ (c : Connection). Holds c.departure c.journey) new (λ c h. elim (adds.only c h) [
      | inl was ↦ All-contains (λ (c : Connection). Holds c.departure c.journey) old c were was
      | inr p ↦ subst (λ (c : Connection). Holds c.departure c.journey) (sym p.3) (All-contains (Holds e) points p.0 hold p.1)
    ])

-- a point's numbers are among those of all
pub numbers_in : (points : List PointData) (p : PointData) → Contains points p → Contains (map numbers points) (numbers p)
numbers_in points p h =
    (h.0, (let lt = h.1 in omega (arith, lt, length-map {B = Numbers} points numbers)), get_or-map numbers points h.0 p (numbers p) h.1 ∙ ap (λ (q : PointData). numbers q) h.2)

-- and each of these is of a point
pub point_of : (points : List PointData) (n : Numbers) → Contains (map numbers points) n → (p : PointData) × Contains points p × (numbers p ≡ n)
point_of points n h =
    let some : PointData = record { from = 0; to = 0; departure = 0; arrival = 0; rides = 0; legs = [] } in
    let at = at_from_Contains (map numbers points) n h in
    let lt : at.0 < length points = (let l = at.1 in omega (arith, l, length-map {B = Numbers} points numbers)) in
    (get_or points at.0 some, Contains-get_or points at.0 some lt, sym (get_or-map numbers points at.0 some n lt) ∙ at.2 n)

-- of two best numbers those with more rides arrive earlier
earlier : (Of : Numbers → Type 0) (m n : Numbers) → Unbeaten Of m → Unbeaten Of n → m.rides < n.rides → n.arrival < m.arrival
earlier Of m n a b lt = elim (cases_lt n.arrival m.arrival) [
  | inl less ↦ less
  | inr le ↦ absurd (b.1 m a.0 (le, (let z : m.rides ≤ n.rides = omega (arith, lt) in z), inr lt))
]

pub falls : (Of : Numbers → Type 0) (points : List PointData) → AreBest Of (map numbers points) → AllPairs (λ (p q : PointData). q.arrival < p.arrival) points
falls Of points best = λ i j d lt in'.
    let count = length-map {B = Numbers} points numbers in
    let x = get_or-map numbers points i d (numbers d) (omega (arith, lt, in')) in
    let y = get_or-map numbers points j d (numbers d) in' in
    let rises = best.rising i j (numbers d) lt (omega (arith, in', count)) in
    earlier Of (numbers (get_or points i d)) (numbers (get_or points j d))
    (best.each (numbers (get_or points i d)) (numbers_in points (get_or points i d) (Contains-get_or points i d (omega (arith, lt, in')))))
    (best.each (numbers (get_or points j d)) (numbers_in points (get_or points j d) (Contains-get_or points j d in')))
    (subst (λ (n : Numbers). n.rides < (get_or points j d).rides) x (subst (λ (n : Numbers). (get_or (map numbers points) i (numbers d)).rides < n.rides) y rises))

module _ (Of : ℕ → Numbers → Type 0) where
  -- with those of one more event, all are found from it on
  pub found_more : (These : PointData → Type 0) (e last : ℕ) (points : List PointData) (old new : List Connection)
      → AreBest (Of e) (map numbers points) → ((p : PointData) → Contains points p → These p → Connects Of e (numbers p))
      → ((p : PointData) → Contains points p → Connects Of e (numbers p) → These p) → AddsSome These e points old new
      → e ≤ last → AreFound Of (between (e + 1) last) old → AreFound Of (between e last) new
  found_more These e last points old new best connects these adds within found = record {
    falling = adds.falling (falls (Of e) points best) (λ c h.
        let a = (All-contains (IsConnection Of (between (e + 1) last)) old c found.each h).after in (let z : e < c.departure = omega (arith, a) in z)) found.falling;
    each = all_from (IsConnection Of (between e last)) new (λ c h. elim (adds.only c h) [ inl was ↦ old_one c was | inr p ↦ new_one c p.0 p.1 p.2 p.3 ]);
    all = λ d n after within' is. elim (cases_lt e d) [
      | inl lt ↦ (let f = found.all d n (let z : e + 1 ≤ d = omega (arith, lt) in z) within' is in (f.0, adds.kept f.0 f.1, f.2, f.3))
      | inr le ↦ here d n (let z : e ≡ d = omega (arith, after, le) in z) is
    ];
  } where
    old_one : (c : Connection) → Contains old c → IsConnection Of (between e last) c
    old_one c h =
        let is = All-contains (IsConnection Of (between (e + 1) last)) old c found.each h in
        let a = is.after in
        record { after = (let z : e ≤ c.departure = omega (arith, a) in z); before = is.before; connects = is.connects }

    new_one : (c : Connection) (p : PointData) → Contains points p → These p → c ≡ leaving e p → IsConnection Of (between e last) c
    new_one c p h low is =
        subst (λ (x : Connection). IsConnection Of (between e last) x) (sym is) (record { after = le_refl e; before = within; connects = connects p h low })

    here : (d : ℕ) (n : Numbers) → e ≡ d → Connects Of d n → (c : Connection) × Contains new c × (c.departure ≡ d) × (numbers c.journey ≡ n)
    here d n same is =
        let now = subst (λ (x : ℕ). Connects Of x n) (sym same) is in
        let p = point_of points n (best.all n now.best) in
        (leaving e p.0, adds.all p.0 p.1 (these p.0 p.1 (subst (λ (m : Numbers). Connects Of e m) (sym p.2) now)), same, p.2)

  -- if an event has no connections, there are no more
  pub found_no_more : (e last : ℕ) (list : List Connection) → ((n : Numbers) → ¬ Connects Of e n)
      → AreFound Of (between (e + 1) last) list → AreFound Of (between e last) list
  found_no_more e last list none found = record {
    falling = found.falling;
    each = λ j d lt.
        let is = found.each j d lt in
        let a = is.after in
        record { after = (let z : e ≤ (get_or list j d).departure = omega (arith, a) in z); before = is.before; connects = is.connects };
    all = λ d n after within' is. elim (cases_lt e d) [
      | inl lt ↦ found.all d n (let z : e + 1 ≤ d = omega (arith, lt) in z) within' is
      | inr le ↦ absurd (none n (subst (λ (x : ℕ). Connects Of x n) (let z : d ≡ e = omega (arith, after, le) in z) is))
    ];
  }

  -- turned round, they are the connections in their order
  pub turned : (window : Window) (list new : List Connection) → IsPermutation list new → ReversedBelow list new (length list)
      → AreFound Of window list → AreConnections Of window new
  turned window list new moved mirrored found = record {
    rising = λ i j d lt in'.
        let same = length_permutation list new moved in
        let y : j < length list = omega (arith, in', same) in
        let x : i < length list = omega (arith, lt, y) in
        subst (λ (a : Connection). IsBefore a (get_or new j d)) (sym (mirrored i d x))
        (subst (λ (b : Connection). IsBefore (get_or list (length list - 1 - i) d) b) (sym (mirrored j d y))
        (found.falling (length list - 1 - j) (length list - 1 - i) d (omega (arith, lt, y)) (omega (arith, x))));
    each = all_from (IsConnection Of window) new (λ c h.
        All-contains (IsConnection Of window) list c found.each (Contains-permutation new list c (IsPermutation-sym list new moved) h));
    all = λ d n after before is. (let f = found.all d n after before is in (f.0, Contains-permutation list new f.0 moved f.1, f.2, f.3));
  }

-- with the events from n on that are within the window, all is found
pub record HasFound (Of : ℕ → Numbers → Type 0) (window : Window) (moments : List ℕ) (n : ℕ) (list : List Connection) : Type 0 where
  pub falling : AllPairs (λ a b. IsBefore b a) list
  pub each : All (IsConnection Of window) list
  pub above : (i : ℕ) → i < n → All (λ c. get_or moments i 0 < c.departure) list
  pub all : (d : ℕ) (m : Numbers) → ((i : ℕ) → i < n → get_or moments i 0 < d) → d ≤ window.last → Connects Of d m
      → (c : Connection) × Contains list c × (c.departure ≡ d) × (numbers c.journey ≡ m)

module _ (Is : ℕ → Type 0) (Of : ℕ → Numbers → Type 0) (has : HasEvents Is Of) (window : Window) (moments : List ℕ) (are : AreMoments Is moments) where
  pub has_none : (n : ℕ) → SplitsAt moments window.last n → HasFound Of window moments n []
  has_none n splits = record {
    falling = λ i j d lt in'. absurd (let z : ⊥ = omega (arith, in') in z);
    each = λ i d in'. absurd (let z : ⊥ = omega (arith, in') in z);
    above = λ i lt j d in'. absurd (let z : ⊥ = omega (arith, in') in z);
    all = λ d m past within is.
        let at = place_of Is moments d are (event_of Is Of has d m is) in
        let e = at.2 in
        absurd (elim (cases_lt at.0 n) [
          | inl before ↦ (let b = past at.0 before in let z : ⊥ = omega (arith, b, e) in z)
          | inr after ↦ (let b = splits.1 at.0 after at.1 in let z : ⊥ = omega (arith, b, e, within) in z)
        ]);
  }

  -- all that depart after the event before
  pub found_after : (i : ℕ) (list : List Connection) → i < length moments → HasFound Of window moments (i + 1) list
      → AreFound Of (between (get_or moments i 0 + 1) window.last) list
  found_after i list in' found = record {
    falling = found.falling;
    each = λ j d lt.
        let is = found.each j d lt in
        let above = found.above i (omega arith) j d lt in
        record { after = (let z : get_or moments i 0 + 1 ≤ (get_or list j d).departure = omega (arith, above) in z); before = is.before; connects = is.connects };
    all = λ d m after within is. found.all d m (λ j lt.
        let le = rising_le moments are.rising j i (omega (arith, lt)) in' in
        let z : get_or moments j 0 < d = omega (arith, le, after) in z) within is;
  }

  -- all that depart at an event or later
  pub has_from : (i : ℕ) (list : List Connection) → i < length moments → window.first ≤ get_or moments i 0
      → AreFound Of (between (get_or moments i 0) window.last) list → HasFound Of window moments i list
  has_from i list in' first found = record {
    falling = found.falling;
    each = λ j d lt.
        let is = found.each j d lt in
        let a = is.after in
        record { after = (let z : window.first ≤ (get_or list j d).departure = omega (arith, a, first) in z); before = is.before; connects = is.connects };
    above = λ j lt l d in''.
        let a = (found.each l d in'').after in
        let less = rising_lt moments are.rising j i lt in' in
        (let z : get_or moments j 0 < (get_or list l d).departure = omega (arith, a, less) in z);
    all = λ d m past within is.
        let at = place_of Is moments d are (event_of Is Of has d m is) in
        let e = at.2 in
        elim (cases_lt at.0 i) [
          | inl before ↦ absurd (let b = past at.0 before in let z : ⊥ = omega (arith, b, e) in z)
          | inr after ↦
              let le = rising_le moments are.rising i at.0 after at.1 in
              found.all d m (let z : get_or moments i 0 ≤ d = omega (arith, le, e) in z) within is
        ];
  }

  -- all of the window
  pub found_all : (n first : ℕ) (list : List Connection) → n ≤ first → ((i : ℕ) → i < first → get_or moments i 0 < window.first)
      → HasFound Of window moments n list → AreFound Of window list
  found_all n first list le early found = record {
    falling = found.falling;
    each = found.each;
    all = λ d m after within is. found.all d m (λ i lt. let b = early i (omega (arith, lt, le)) in (let z : get_or moments i 0 < d = omega (arith, b, after) in z)) within is;
  }

-- the connections of an event by the rounds
module _ (table : Table) (k s t e : ℕ) (rounds kept : List (List (Option Mark))) (before : List (List (Option ℕ))) (known : t < stops_of table)
    (are : AreRounds table s e k rounds) (later : AreLeastAt table k s (e + 1) kept) (told : (r t : ℕ) → moment_in before r t ≡ arrival_in kept r t) where
  pub lowered_connects : (points : List PointData) → AreFront table k s t e (map numbers points) → (p : PointData) → Contains points p → IsLowered rounds before t p
      → Connects (Reaches table 0 k s t) e (numbers p)
  lowered_connects points front p h low =
      connects_if table k s e t (numbers p) (front.each (numbers p) (numbers_in points p h)) low.0 rounds kept known (least_of table k s e rounds are) later
      (subst (λ (o : Option ℕ). IsSooner (arrival_in rounds p.rides t) o) (told p.rides t) low.1)

  sooner_at : (n : Numbers) → Connects (Reaches table 0 k s t) e n → IsSooner (arrival_in rounds n.rides t) (moment_in before n.rides t)
  sooner_at n is =
      subst (λ (o : Option ℕ). IsSooner (arrival_in rounds n.rides t) o) (sym (told n.rides t))
      (lowered_if table k s e t n is.best is.ridden rounds kept known (least_of table k s e rounds are) later is.last)

  pub connects_lowered : (points : List PointData) (p : PointData) → Contains points p → Connects (Reaches table 0 k s t) e (numbers p) → IsLowered rounds before t p
  connects_lowered points p h is = (is.ridden, sooner_at (numbers p) is)

  pub none_lowered : (IsLoweredWithin rounds before t k → ⊥) → (n : Numbers) → ¬ Connects (Reaches table 0 k s t) e n
  none_lowered none n is = none (n.rides, is.ridden, is.best.0.4, sooner_at n is)

-- Answers between single stops, and journeys of trees between places.
use Rattle.std.proofs.Common.{◌≡◌, ℕ, zero, suc, ◌<◌, Bool, false, true≢false, List, [], ◌∷◌, map, get_or, Contains, All, arith, refl, sym, subst, subst₂}
use Rattle.std.specs.List.{AllZip}
use Rattle.std.proofs.lemmas.List.Elements.{All-cons, All-nil, All-tail, at_from_Contains}
use Rattle.timetable.specs.declared.parts.Leg.{Leg}
use Rattle.timetable.specs.declared.parts.Numbers.{Numbers}
use Rattle.timetable.specs.Front.{AreFront, AreBest}
use Rattle.timetable.specs.Journeys.{Serves, Reaches}
use Rattle.timetable.specs.Table.{Table}
use Rattle.pattern_query.specs.Answer.{PointData, numbers, IsJourney}
use Rattle.pattern_query.specs.Leaving.{IsLatest, LeavesLast}
use Rattle.pattern_query.specs.Questions.{AreComplete, Held, IsAskedPoint, ReachesBetween}
use Rattle.answering.specs.Answers.{IsLastAsked, IsLastBetween, IsPointBetween, IsReached, IsRideBetween, TellsReached}
use Rattle.feed_basis.specs.Points.{TellsLeaving, TellsNumbers}
use Rattle.answer_lines.specs.declared.answer.Point.{Point}
use Rattle.feed_basis.specs.Basis.{BasisData}

pub contains_one : (s : ℕ) → Contains (s ∷ []) s
contains_one s = (0, omega arith, refl)

pub is_one : (s p : ℕ) → Contains (s ∷ []) p → s ≡ p
is_one s p c = go c.0 c.1 c.2 where
  go : (k : ℕ) → k < 1 → get_or (s ∷ []) k p ≡ p → s ≡ p
  go zero lt e = e
  go (suc k) lt e = absurd (let b : ⊥ = omega (arith, lt) in b)

-- rides and journeys between single stops
pub ride_between : (basis : BasisData) (p q d : ℕ) (leg : Leg) → Serves basis.timetable p q d leg → IsRideBetween basis (p ∷ []) (q ∷ []) d leg
ride_between basis p q d leg h = (p, q, contains_one p, contains_one q, h)

pub between_ride : (basis : BasisData) (p q d : ℕ) (leg : Leg) → IsRideBetween basis (p ∷ []) (q ∷ []) d leg → Serves basis.timetable p q d leg
between_ride basis p q d leg h = subst₂ (λ x y. Serves basis.timetable x y d leg) (sym (is_one p h.0 h.2)) (sym (is_one q h.1 h.3)) h.4

module _ (table : Table) (k p q d : ℕ) where
  reaches_between : (n : Numbers) → Reaches table 0 k p q d n → ReachesBetween table k (p ∷ []) (q ∷ []) d n
  reaches_between n h = (p, q, contains_one p, contains_one q, h)

  between_reaches : (n : Numbers) → ReachesBetween table k (p ∷ []) (q ∷ []) d n → Reaches table 0 k p q d n
  between_reaches n h = subst₂ (λ x y. Reaches table 0 k x y d n) (sym (is_one p h.0 h.2)) (sym (is_one q h.1 h.3)) h.4

  pub best_between : (front : List Numbers) → AreFront table k p q d front → AreBest (ReachesBetween table k (p ∷ []) (q ∷ []) d) front
  best_between front are = record {
    rising = are.rising;
    each = λ n c. let best = are.each n c in (reaches_between n best.0, λ m of. best.1 m (between_reaches m of));
    all = λ n best. are.all n (between_reaches n best.0, λ m of. best.1 m (reaches_between m of));
  }

-- only the numbers are shown
pub shown_numbers : (basis : BasisData) (Of : PointData → Type 0) (front : List Numbers) (points : List Point)
    → AllZip (TellsNumbers basis) front points → AllZip (TellsReached basis Of false) front points
shown_numbers basis Of [] [] h = tt
shown_numbers basis Of [] (point ∷ points) h = absurd h
shown_numbers basis Of (n ∷ front) [] h = absurd h
shown_numbers basis Of (n ∷ front) (point ∷ points) h = (
  record {
    rides = h.0.rides;
    at = h.0.at;
    staged = λ e. absurd (true≢false (sym e));
    unstaged = λ e. h.0.untold;
  },
  shown_numbers basis Of front points h.1,
)

-- what holds of all holds of one that is among them
pub one_of_all : {X : Type 0} (P : X → Type 0) (xs : List X) (x : X) → All P xs → Contains xs x → P x
one_of_all P xs x all c = let i = at_from_Contains xs x c in subst P (i.2 x) (all i.0 x i.1)

-- points that leave last are reported
pub last_asked : (table : Table) (held : Held) (froms tos : List ℕ) (d : ℕ) (points : List PointData)
    → All (IsAskedPoint table held froms tos d) points → All (LeavesLast table (IsAskedPoint table held froms tos d)) points
    → ((k : ℕ) → AreComplete table held k froms → All (IsLatest (ReachesBetween table k froms tos)) points)
    → All (IsLastAsked table held froms tos d) points
last_asked table held froms tos d points are last latest = λ i p lt. record {
  is = are i p lt;
  last = last i p lt;
  latest = λ k complete. latest k complete i p lt;
}

-- a journey between two single stops
pub single_point : (table : Table) (s t d : ℕ) (p : PointData) → IsJourney table s t d p → IsPointBetween table (s ∷ []) (t ∷ []) d p
single_point table s t d p h = (s, t, contains_one s, contains_one t, h)

-- none between two single stops leaves later, and none that leaves as late walks less
pub single_last : (table : Table) (k s t d : ℕ) (p : PointData) → IsJourney table s t d p → LeavesLast table (IsJourney table s t d) p
    → IsLatest (Reaches table 0 k s t) p → IsLastBetween table k (s ∷ []) (t ∷ []) d p
single_last table k s t d p h last latest = record {
  is = single_point table s t d p h;
  last = λ q of same. last q (subst₂ (λ x y. IsJourney table x y d q) (sym (is_one s of.0 of.2)) (sym (is_one t of.1 of.3)) of.4) same;
  latest = λ e of. latest e (between_reaches table k s t e (numbers p) of);
}

-- the numbers of points of a set are reached
pub are_reached : (Of : PointData → Type 0) (journeys : List PointData) → All Of journeys → All (IsReached Of) (map numbers journeys)
are_reached Of [] are = All-nil (IsReached Of)
are_reached Of (p ∷ journeys) are =
    All-cons (IsReached Of) (numbers p) (map numbers journeys) (p, are 0 p (omega arith), refl)
    (are_reached Of journeys (All-tail Of p journeys are))

-- journeys between the stops are reported
pub shown_journeys : (basis : BasisData) (Of : PointData → Type 0) (wanted : Bool) (journeys : List PointData) (points : List Point)
    → All Of journeys → AllZip (TellsLeaving basis wanted) journeys points
    → AllZip (TellsReached basis Of wanted) (map numbers journeys) points
shown_journeys basis Of wanted [] [] are h = tt
shown_journeys basis Of wanted [] (point ∷ points) are h = absurd h
shown_journeys basis Of wanted (p ∷ journeys) [] are h = absurd h
shown_journeys basis Of wanted (p ∷ journeys) (point ∷ points) are h = (
  record {
    rides = h.0.rides;
    at = h.0.at;
    staged = λ e. record { point = p; is = are 0 p (omega arith); reaches = refl; told = h.0.told e };
    unstaged = h.0.untold;
  },
  shown_journeys basis Of wanted journeys points (All-tail Of p journeys are) h.1,
)

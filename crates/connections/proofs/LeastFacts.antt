-- Of the journeys that leave with a connection one that walks least.
use Rattle.std.proofs.Common.{◌≡◌, ℕ, ◌≤◌, arith, refl, sym, ◌∙◌, subst, inr}
use Rattle.timetable.specs.declared.parts.Numbers.{Numbers}
use Rattle.timetable.specs.declared.parts.TheConstants.{LATEST_MOMENT}
use Rattle.timetable.specs.Table.{Table}
use Rattle.timetable.specs.Journeys.{Reaches, Unbeaten}
use Rattle.pattern_query.specs.Answer.{PointData, numbers, IsJourney}
use Rattle.least_walks.specs.Least.{IsLeastLike}
use Rattle.connections.specs.declared.connection.Connection.{Connection}
use Rattle.connections.specs.Connections.{Connects, IsScanned, WalksLeastFor}
use Rattle.connections.proofs.LeaveFacts.{leaves_then}

module _ (table : Table) (k : ℕ) (c : Connection) (scanned : IsScanned table k c) where
  -- its journey is one at its own departure, of the best numbers there
  pub own_journey : IsJourney table c.journey.from c.journey.to c.journey.departure c.journey
  own_journey = subst (λ (d : ℕ). IsJourney table c.journey.from c.journey.to d c.journey) (sym scanned.then) scanned.is

  pub own_best : Unbeaten (Reaches table 0 k c.journey.from c.journey.to c.journey.departure) (numbers c.journey)
  own_best = subst (λ (d : ℕ). Unbeaten (Reaches table 0 k c.journey.from c.journey.to d) (numbers c.journey)) (sym scanned.then) scanned.connects.best

  pub own_early : c.journey.departure ≤ LATEST_MOMENT
  own_early = subst (λ (d : ℕ). d ≤ LATEST_MOMENT) (sym scanned.then) scanned.early

  -- one with its numbers leaves with it
  leaves_with : (q : PointData) → IsJourney table c.journey.from c.journey.to c.departure q → numbers q ≡ numbers c.journey → q.departure ≡ c.departure
  leaves_with q is alike =
      let connects : Connects (Reaches table 0 k c.journey.from c.journey.to) c.departure (numbers q) =
      subst (λ (n : Numbers). Connects (Reaches table 0 k c.journey.from c.journey.to) c.departure n) (sym alike) scanned.connects in
      leaves_then (Reaches table 0 k c.journey.from c.journey.to) c.departure q connects is.after (q.legs, is.in_time, is.counted, (omega arith), connects.best.0.4)

  pub least_for : (q : PointData) → IsLeastLike table c.journey q → WalksLeastFor table c (record { departure = c.departure; journey = q })
  least_for q least =
      let is : IsJourney table c.journey.from c.journey.to c.departure q =
      subst (λ (d : ℕ). IsJourney table c.journey.from c.journey.to d q) scanned.then least.is in
      let then' = leaves_with q is least.alike in
      record {
        like = (refl, least.alike);
        is = is;
        then = then';
        least = λ o other same. inr (
          leaves_with o other (same ∙ least.alike) ∙ sym then',
          least.least o (subst (λ (d : ℕ). IsJourney table c.journey.from c.journey.to d o) (sym scanned.then) other) (same ∙ least.alike),
        );
      }

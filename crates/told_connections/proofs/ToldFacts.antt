-- Connections that are found: the names know their trips and stops.
use Rattle.std.proofs.Common.{◌≡◌, ℕ, ◌<◌, List, Some, length, All, sym, subst, subst₂}
use Rattle.std.proofs.lemmas.List.Elements.{All-contains, All-weaker}
use Rattle.timetable.specs.Journeys.{Journey}
use Rattle.timetable.specs.Table.{Table, stops_of}
use Rattle.pattern_query.specs.Answer.{IsJourney}
use Rattle.pattern_query.specs.Questions.{Held, IsAskedPoint}
use Rattle.feed_ids.specs.Names.{stops_at}
use Rattle.connections.specs.declared.connection.Connection.{Connection}
use Rattle.feed_basis.specs.Basis.{BasisData, IsSound}
use Rattle.feed_basis.specs.Points.{IsKnownJourney}
use Rattle.feed_basis.proofs.StageFacts.{journey_known}

module _ (basis : BasisData) (sound : IsSound basis) (s t : ℕ) (from : s < stops_of basis.timetable) (to : t < stops_of basis.timetable) where
  pub one_known : (c : Connection) → IsJourney basis.timetable s t c.departure c.journey → IsKnownJourney basis c.departure c.journey
  one_known c is =
      journey_known basis sound.valid sound c.journey.from c.departure c.journey.legs c.journey.to c.journey.arrival
      (subst (λ p. p < length basis.names.stops) (sym is.starts) (subst (λ n. s < n) (sym sound.stops) from))
      (subst (λ p. p < length basis.names.stops) (sym is.ends) (subst (λ n. t < n) (sym sound.stops) to))
      (subst₂ (λ p q. Journey basis.timetable p c.departure c.journey.legs q c.journey.arrival) (sym is.starts) (sym is.ends) is.journey)

  pub known_all : (found : List Connection) → All (λ (c : Connection). IsJourney basis.timetable s t c.departure c.journey) found
      → All (λ (c : Connection). IsKnownJourney basis c.departure c.journey) found
  known_all found are = All-weaker (λ (c : Connection). IsJourney basis.timetable s t c.departure c.journey)
      (λ (c : Connection). IsKnownJourney basis c.departure c.journey) one_known found are

-- the stops of a place are stops of the timetable
pub known_stops : (basis : BasisData) → IsSound basis → (id stops : List ℕ) → stops_at basis.names id ≡ Some stops
    → All (λ s. s < stops_of basis.timetable) stops
known_stops basis sound id stops e = subst (λ n. All (λ s. s < n) stops) sound.stops (sound.names id stops e)

-- connections of trees between places
pub asked_known : (basis : BasisData) → IsSound basis → (held : Held) (froms tos : List ℕ) → All (λ s. s < stops_of basis.timetable) froms
    → All (λ s. s < stops_of basis.timetable) tos → (found : List Connection)
    → All (λ (c : Connection). IsAskedPoint basis.timetable held froms tos c.departure c.journey) found
    → All (λ (c : Connection). IsKnownJourney basis c.departure c.journey) found
asked_known basis sound held froms tos from to found are =
    All-weaker (λ (c : Connection). IsAskedPoint basis.timetable held froms tos c.departure c.journey)
    (λ (c : Connection). IsKnownJourney basis c.departure c.journey)
    (λ c h. one_known basis sound h.0.source c.journey.to
    (All-contains (λ s. s < stops_of basis.timetable) froms h.0.source from h.1.0)
    (All-contains (λ s. s < stops_of basis.timetable) tos c.journey.to to h.1.2) c h.2.is) found are

-- what holds of these holds of those that are the same
pub moved : (P : Table → List ℕ → List ℕ → Type 0) (t u : Table) (fs froms ts tos : List ℕ) → t ≡ u → fs ≡ froms → ts ≡ tos → P t fs ts → P u froms tos
moved P t u fs froms ts tos a b c h = subst (λ x. P x froms tos) a (subst (λ x. P t x tos) b (subst (λ x. P t fs x) c h))

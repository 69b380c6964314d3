-- What a table is asked for, and why there is none.
use Rattle.std.specs.Prelude.{◌≡◌, ◌⊎◌, ◌≤◌, ◌++◌, ℕ, List, [], ◌∷◌, None, Some}
use Rattle.std.specs.List.{All, AllZip}
use Rattle.answering.specs.Refusals.{IsCovered}
use Rattle.faults.specs.declared.fault.Fault.{Fault}
use Rattle.faults.specs.declared.fault.Fault.TheVariants as faults
use Rattle.feed_basis.specs.Basis.{BasisData}
use Rattle.feed_basis.specs.Ids.{IsKnown, stop_alone}
use Rattle.pattern_query.specs.declared.refusal.Refusal.{Refusal}
use Rattle.pattern_query.specs.declared.refusal.Refusal.TheVariants as refusals
use Rattle.told_matrix.specs.declared.asking.Asked.{Asked}
use Rattle.told_matrix.specs.declared.asking.Matrix.{Matrix}
use Rattle.told_matrix.specs.declared.place.Place.{Place}
use denote.Ref.{Bor}

-- the place is the stop of the id
pub record IsStop (basis : BasisData) (id : Bor (List ℕ)) (place : Place) : Type 0 where
  pub same : place.id.now ≡ id.now
  pub stop : stop_alone basis.names id.now ≡ Some (place.stop ∷ [])

-- the places are the stops of the ids, in their order
abbrev pub AreStops : BasisData → List (Bor (List ℕ)) → List Place → Type 0
AreStops basis ids places = AllZip (IsStop basis) ids places

-- each id is that of a stop
abbrev pub AreKnown : BasisData → List (Bor (List ℕ)) → Type 0
AreKnown basis ids = All (λ id. IsKnown (stop_alone basis.names) id.now) ids

-- no stop has the id, which is the first such one of these
pub record IsFirstUnknown (basis : BasisData) (ids : List (Bor (List ℕ))) (id : Bor (List ℕ)) : Type 0 where
  pub before : List (Bor (List ℕ))
  pub after : List (Bor (List ℕ))
  pub among : ids ≡ before ++ id ∷ after
  pub earlier : AreKnown basis before
  pub unknown : stop_alone basis.names id.now ≡ None

-- some id is that of no stop, and the fault names the first one; or memory ran out
abbrev pub IsUnknownIn : BasisData → List (Bor (List ℕ)) → Fault → Type 0
IsUnknownIn basis ids fault =
    ((id : Bor (List ℕ)) × (fault ≡ faults.Question (refusals.UnknownStop id)) × IsFirstUnknown basis ids id) ⊎ (fault ≡ faults.Memory)

-- the stops of both lists, and the moments, which are covered
pub record IsMatrix (basis : BasisData) (asked : Asked) (matrix : Matrix) : Type 0 where
  pub origins : AreStops basis asked.origins.now matrix.origins.items
  pub goals : AreStops basis asked.goals.now matrix.goals.items
  pub first : asked.first ≡ Some matrix.first
  pub last : asked.last ≡ Some matrix.last
  pub covered : matrix.first ≤ basis.timetable.horizon
  pub last_covered : matrix.last ≤ basis.timetable.horizon

-- the first id to leave from that is that of no stop is refused, or else the first such one to go to
abbrev pub IsRefused : BasisData → Asked → Refusal → Type 0
IsRefused basis asked (refusals.UnknownStop id) =
    IsFirstUnknown basis asked.origins.now id ⊎ (AreKnown basis asked.origins.now × IsFirstUnknown basis asked.goals.now id)
-- or else one of the moments, which isn't covered
IsRefused basis asked refusals.NotCovered =
    AreKnown basis asked.origins.now × AreKnown basis asked.goals.now
    × (¬ IsCovered basis.timetable asked.first ⊎ ¬ IsCovered basis.timetable asked.last)
IsRefused basis asked (refusals.NotStored id) = ⊥

-- what is asked for is refused, or memory ran out
abbrev pub IsNoMatrix : BasisData → Asked → Fault → Type 0
IsNoMatrix basis asked fault =
    ((refusal : Refusal) × (fault ≡ faults.Question refusal) × IsRefused basis asked refusal) ⊎ (fault ≡ faults.Memory)

-- Why a question has no answer.
use Rattle.std.specs.Prelude.{◌≡◌, ℕ, ◌≤◌, ◌⊎◌, List, [], Option, None, Some, slice_index_or}
use Rattle.timetable.specs.Table.{Table}
use Rattle.feed_ids.specs.Names.{stops_at}
use Rattle.pattern_query.specs.Questions.{Held, IsFirstMissing}
use Rattle.pattern_query.specs.declared.refusal.Refusal.{Refusal}
use Rattle.pattern_query.specs.declared.refusal.Refusal.TheVariants as refusals
use Rattle.faults.specs.declared.fault.Fault.{Fault}
use Rattle.faults.specs.declared.fault.Fault.TheVariants as faults
use Rattle.feed_basis.specs.Basis.{BasisData}
use Rattle.feed_basis.specs.Ids.{IsKnown}
use Rattle.questions.specs.declared.question.Question.{Question}

-- both ids of the question stand for stops
abbrev pub AreKnown : (List ℕ → Option (List ℕ)) → Question → Type 0
AreKnown stops question = IsKnown stops question.from.now × IsKnown stops question.to.now

-- the moment is one of the covered days, and within them
abbrev pub IsCovered : Table → Option ℕ → Type 0
IsCovered table moment = (d : ℕ) × (moment ≡ Some d) × (d ≤ table.horizon)

-- a tree of the stops to leave from isn't there, and the id is that of the first such stop
abbrev pub IsMissing : BasisData → Held → Question → List ℕ → Type 0
IsMissing basis held question id =
    (froms : List ℕ) × (s : ℕ) × (stops_at basis.names question.from.now ≡ Some froms) × IsFirstMissing held froms s
    × (id ≡ slice_index_or basis.names.stops s [])

-- no tree is missed, since none is asked
abbrev pub NoneMissing : List ℕ → Type 0
NoneMissing id = ⊥

-- The first id stands for no stops, or else the second; or else the moment isn't covered; or else a tree is missing.
abbrev pub IsRefused : (List ℕ → Option (List ℕ)) → (List ℕ → Type 0) → Table → Option ℕ → Question → Refusal → Type 0
IsRefused stops Missing table moment question (refusals.UnknownStop id) =
    (stops id.now ≡ None) × ((id.now ≡ question.from.now) ⊎ (IsKnown stops question.from.now × (id.now ≡ question.to.now)))
IsRefused stops Missing table moment question refusals.NotCovered = AreKnown stops question × ¬ IsCovered table moment
IsRefused stops Missing table moment question (refusals.NotStored id) = AreKnown stops question × IsCovered table moment × Missing id.now

-- the question is refused, or memory ran out
abbrev pub IsUnanswered : (List ℕ → Option (List ℕ)) → (List ℕ → Type 0) → Table → Option ℕ → Question → Fault → Type 0
IsUnanswered stops Missing table moment question (faults.Question refusal) = IsRefused stops Missing table moment question refusal
IsUnanswered stops Missing table moment question faults.Memory = Unit {0}
IsUnanswered stops Missing table moment question faults.BadDate = ⊥
IsUnanswered stops Missing table moment question faults.BadTime = ⊥
IsUnanswered stops Missing table moment question faults.NoRandomness = ⊥
IsUnanswered stops Missing table moment question (faults.Feed f) = ⊥
IsUnanswered stops Missing table moment question (faults.Days f) = ⊥
IsUnanswered stops Missing table moment question (faults.Store f) = ⊥
IsUnanswered stops Missing table moment question faults.GateDamaged = ⊥
IsUnanswered stops Missing table moment question faults.StoreInUse = ⊥
IsUnanswered stops Missing table moment question faults.PutFailed = ⊥
IsUnanswered stops Missing table moment question (faults.Migration side f) = ⊥
IsUnanswered stops Missing table moment question faults.OtherList = ⊥
IsUnanswered stops Missing table moment question faults.FileTooLarge = ⊥
IsUnanswered stops Missing table moment question (faults.Part path f) = ⊥
IsUnanswered stops Missing table moment question (faults.OtherTree stop part before) = ⊥
IsUnanswered stops Missing table moment question faults.TooLarge = ⊥

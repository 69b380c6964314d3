-- Steps: when one is at a stop by rides, by when one leaves. Only private clauses cite these words.
use Rattle.std.specs.Prelude.{Option, None, Some, ◌≡◌, ℕ, zero, suc, ◌+◌, ◌^◌, ◌<◌, ◌≤◌, Bool, false, nat_le, ◌||◌, if◌then◌else◌, List, [], length, slice_index_or}
use Rattle.std.specs.List.{All, AllPairs, Contains, fold}
use Rattle.timetable.specs.declared.parts.Numbers.{Numbers}
use Rattle.timetable.specs.Table.{Table}
use Rattle.timetable.specs.Journeys.{IsLeast, Reaches}
use Rattle.timetable.specs.Front.{IsSooner}
use Rattle.rounds.specs.Answers.{ArrivesWithin}
use Rattle.reaching.specs.declared.steps.Step.{Step}
use Rattle.reaching.specs.declared.travel_time.TravelTimes.{TravelTimes}
use Rattle.reaching.specs.TravelTimes.{AreTimes}

-- when one is there who leaves at d: the last of the steps up to d or later says it
unfoldable pub arrival_at : List Step → ℕ → Option ℕ
arrival_at steps d = fold (λ found step. if nat_le d step.until then Some step.arrival else found) None steps

-- whether there is a number, of at most x
abbrev pub is_some_by : Option ℕ → ℕ → Bool
is_some_by None x = false
is_some_by (Some n) x = nat_le n x

-- whether one who leaves at d is there within x seconds, by a walk or by rides
abbrev pub is_within : Option ℕ → List Step → ℕ → ℕ → Bool
is_within walk steps x d = is_some_by walk x || is_some_by (arrival_at steps d) (d + x)

-- how many of the n numbers from `low` on pass the test
unfoldable pub tally : (ℕ → Bool) → ℕ → ℕ → ℕ
tally test low zero = 0
tally test low (suc n) = (if test low then 1 else 0) + tally test (suc low) n

-- the steps go down, from `last` to `first`, and their arrivals are numbers of 32 bits
pub record AreSteps (first last : ℕ) (steps : List Step) : Type 0 where
  pub falling : AllPairs (λ a b. b.until ≤ a.until) steps
  pub after : All (λ step. first ≤ step.until) steps
  pub before : All (λ step. step.until ≤ last) steps
  pub small : All (λ step. step.arrival < 2 ^ 32) steps

-- the steps of the stop of that number
abbrev pub steps_at : List (List Step) → ℕ → List Step
steps_at all t = slice_index_or all t []

-- up to `until` one is there at another moment now, and else as before
pub record IsStepped (until : ℕ) (now : Option ℕ) (old new : List Step) : Type 0 where
  pub upto : (d : ℕ) → d ≤ until → arrival_at new d ≡ now
  pub past : (d : ℕ) → until < d → arrival_at new d ≡ arrival_at old d
  pub sound : (last : ℕ) → until ≤ last → AreSteps until last old → AreSteps until last new

-- a step up to `until` was added exactly if one is there sooner now
pub record AddsStep (until : ℕ) (now before : Option ℕ) (old new : List Step) : Type 0 where
  pub sooner : IsSooner now before → IsStepped until now old new
  pub same : (IsSooner now before → ⊥) → new ≡ old

-- the steps have the least arrival of a journey with a ride for each second of departure from `first` to `last`
pub record Covers (table : Table) (k s t first last : ℕ) (steps : List Step) : Type 0 where
  pub sound : AreSteps first last steps
  pub least : (d : ℕ) → first ≤ d → d ≤ last → IsLeast (ArrivesWithin table s d k t) (arrival_at steps d)

-- at no second from `first` to `last` one gets from s to t
abbrev pub IsNeverThere : Table → ℕ → ℕ → ℕ → ℕ → ℕ → Type 0
IsNeverThere table k s t first last = (d : ℕ) (m : Numbers) → first ≤ d → d ≤ last → ¬ Reaches table 0 k s t d m

-- the travel times to those of the first n stops that one reaches, by number
pub record AreTimesBelow (table : Table) (k s first last n : ℕ) (list : List TravelTimes) : Type 0 where
  pub rising : AllPairs (λ a b. a.stop < b.stop) list
  pub known : All (λ times. times.stop < n) list
  pub each : All (AreTimes table k s first last) list
  pub all : (t d : ℕ) (m : Numbers) → t < n → first ≤ d → d ≤ last → Reaches table 0 k s t d m
      → (times : TravelTimes) × Contains list times × (times.stop ≡ t)

-- ---- where moments lie among others

-- the moments below n are no later than this one, and the others are
abbrev pub SplitsAt : List ℕ → ℕ → ℕ → Type 0
SplitsAt moments moment n =
    ((i : ℕ) → i < n → slice_index_or moments i 0 ≤ moment)
    × ((i : ℕ) → n ≤ i → i < length moments → moment < slice_index_or moments i 0)

-- d is after the moments below n
abbrev pub IsAfter : List ℕ → ℕ → ℕ → Type 0
IsAfter moments n d = (i : ℕ) → i < n → slice_index_or moments i 0 < d

-- d is no later than the moments from n on
abbrev pub IsUpTo : List ℕ → ℕ → ℕ → Type 0
IsUpTo moments n d = (i : ℕ) → n ≤ i → i < length moments → d ≤ slice_index_or moments i 0

-- d is after the moments below n, and no later than the others
abbrev pub LiesAt : List ℕ → ℕ → ℕ → Type 0
LiesAt moments n d = IsAfter moments n d × IsUpTo moments n d

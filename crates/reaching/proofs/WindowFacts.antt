-- The steps of all stops, as the events of a window are looked at from the last to the first.
use Rattle.std.proofs.Common.{Option, Some, None, ◌≡◌, ℕ, ◌+◌, ◌^◌, ◌<◌, ◌⊎◌, List, [], ◌∷◌, ◌++◌, length, get_or, take, arith, refl, sym, ◌∙◌, ap, subst, inl, inr}
use Rattle.std.specs.List.{Contains}
use Rattle.std.proofs.lemmas.List.{take_more}
use Rattle.std.proofs.lemmas.List.Elements.{Contains-push_cases, at_from_Contains}
use Rattle.timetable.specs.Front.{IsSooner}
use Rattle.timetable.specs.Journeys.{IsLeast}
use Rattle.reaching.specs.declared.steps.Step.{Step}
use Rattle.reaching.specs.Steps.{AddsStep, IsStepped}
use Rattle.reaching.proofs.StepFacts.{stepped, stepped_again}

-- a stop was not among those that were looked at, or its step was added
abbrev pub AddedSoFar : List ℕ → ℕ → ℕ → Option ℕ → Option ℕ → List Step → List Step → Type 0
AddedSoFar seen t until now before old new = ((new ≡ old) × ¬ Contains seen t) ⊎ (IsSooner now before × IsStepped until now old new)

in_none : (x : ℕ) → Contains [] x → ⊥
in_none x c = let k = at_from_Contains [] x c in let b : ⊥ = omega (arith, k.1) in b

pub added_none : (t until : ℕ) (now before : Option ℕ) (old : List Step) → AddedSoFar [] t until now before old old
added_none t until now before old = inl (refl, in_none t)

module _ (lowered : List ℕ) (i until : ℕ) (in' : i < length lowered) (stop : ℕ) (is : get_or lowered i stop ≡ stop) where
  longer : take (i + 1) lowered ≡ take i lowered ++ stop ∷ []
  longer = take_more lowered i stop in' ∙ ap (λ (x : ℕ). take i lowered ++ x ∷ []) is

  -- the stop that is looked at
  pub added_here : (now before : Option ℕ) (a : ℕ) (old cur new : List Step) → now ≡ Some a → a < 2 ^ 32 → IsSooner now before
      → AddedSoFar (take i lowered) stop until now before old cur → new ≡ cur ++ record { until = until; arrival = a } ∷ []
      → AddedSoFar (take (i + 1) lowered) stop until now before old new
  added_here now before a old cur new some small sooner (inl h) grown = inr (
    sooner,
    subst (λ (o : Option ℕ). IsStepped until o old new) (sym some)
        (subst (λ (l : List Step). IsStepped until (Some a) old l)
        (sym (grown ∙ ap (λ (l : List Step). l ++ record { until = until; arrival = a } ∷ []) h.0)) (stepped until a old small)),
  )
  added_here now before a old cur new some small sooner (inr h) grown = inr (
    sooner,
    subst (λ (o : Option ℕ). IsStepped until o old new) (sym some)
        (subst (λ (l : List Step). IsStepped until (Some a) old l) (sym grown)
        (stepped_again until a old cur small (subst (λ (o : Option ℕ). IsStepped until o old cur) some h.1))),
  )

  -- another stop
  pub added_there : (t : ℕ) (now before : Option ℕ) (old cur new : List Step) → (t ≡ stop → ⊥)
      → AddedSoFar (take i lowered) t until now before old cur → new ≡ cur
      → AddedSoFar (take (i + 1) lowered) t until now before old new
  added_there t now before old cur new other (inl h) same = inl (
    same ∙ h.0,
    λ c. elim (Contains-push_cases (take i lowered) stop t (subst (λ (l : List ℕ). Contains l t) longer c)) [
      | inl was ↦ h.1 was
      | inr e ↦ other (sym e)
    ],
  )
  added_there t now before old cur new other (inr h) same = inr (h.0, subst (λ (l : List Step). IsStepped until now old l) (sym same) h.1)

-- all that were lowered were looked at
pub added_all : (lowered : List ℕ) (t until : ℕ) (now before : Option ℕ) (old new : List Step) → (IsSooner now before → Contains lowered t)
    → AddedSoFar lowered t until now before old new → AddsStep until now before old new
added_all lowered t until now before old new all (inl h) = record { sooner = λ s. absurd (h.1 (all s)); same = λ _. h.0 }
added_all lowered t until now before old new all (inr h) = record { sooner = λ _. h.1; same = λ none. absurd (none h.0) }

-- a set has one least number, or none
pub one_least : (Of : ℕ → Type 0) (a b : Option ℕ) → IsLeast Of a → IsLeast Of b → a ≡ b
one_least Of None None l m = refl
one_least Of None (Some b) l m = absurd (l b m.0)
one_least Of (Some a) None l m = absurd (m a l.0)
one_least Of (Some a) (Some b) l m =
    let x = l.1 b m.0 in
    let y = m.1 a l.0 in
    ap (λ (n : ℕ). Some n) (let z : a ≡ b = omega (arith, x, y) in z)

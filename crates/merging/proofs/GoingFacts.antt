-- How a store goes on while trees are put together.
use Rattle.std.proofs.Common.{◌≡◌, ℕ, List, [], ◌∷◌, ◌++◌, Bool, true, false, cond, All, None, Some, refl, sym, ◌∙◌, ap, subst, arith}
use mathlib.Core.List.{IsPrefix}
use Rattle.disk_model.specs.Disk.{State}
use Rattle.disk_model.specs.Moments.{LeavesOnly}
use Rattle.pattern_tree.specs.Content.{Content}
use Rattle.section_store.specs.Between.{NothingGoesBetween, PutGoesBetween, GoesBetweenInTurn}
use Rattle.section_store.specs.Fault.{CauseOf}
use Rattle.section_store.specs.GoingLaws.{NothingGoesOn, TrustInTurn}
use Rattle.section_store.specs.Lasting.{IsExact, LosesNothing, StaysTrusted}
use Rattle.section_store.specs.Sections.{Form, IsBeforeOrAfter, IsNew, sources}
use Rattle.section_store.specs.Sources.{is_among}
use Rattle.section_store.specs.declared.fault.PutFault.{PutFault}
use Rattle.section_store.specs.declared.fault.PutFault.TheVariants.{AlreadyStored, Failed, OtherTimetable, TooLarge}
use Rattle.merging.specs.Merging.{Goes, lacked, tree_of, with_next}

-- the laws that a merge goes on by
pub record Laws : Type 0 where
  pub nothing : NothingGoesBetween
  pub put : PutGoesBetween
  pub turn : GoesBetweenInTurn
  pub still : NothingGoesOn
  pub trust : TrustInTurn

module _ (laws : Laws) (form : Form) where
  trusts_still : (old new : State) → new ≡ old → StaysTrusted form old new
  trusts_still old new same = (laws.still form [] [] old new same).trusts

  -- nothing was put
  pub stays : (least most all : List Content) (old new : State) → new ≡ old → Goes form least most all old new
  stays least most all old new same = record {
    goes = laws.nothing form least most old new same;
    trusts = λ exact. trusts_still old new same;
  }

  -- a tree was put, or its put began
  pub puts : (now all : List Content) (tree : Content) (old new : State) → LeavesOnly old new (IsBeforeOrAfter form now tree) → LosesNothing form old new
      → (All (IsExact form) all → IsExact form tree) → (IsExact form tree → StaysTrusted form old new) → Goes form now (now ++ tree ∷ []) all old new
  puts now all tree old new moments loses exact trusts = record {
    goes = laws.put form now tree old new moments loses;
    trusts = λ each. trusts (exact each);
  }

  -- one after the other
  pub in_turn : (least mid most all : List Content) (old between new : State) → IsPrefix least mid → IsPrefix mid most
      → Goes form least mid all old between → Goes form mid most all between new → Goes form least most all old new
  in_turn least mid most all old between new one two first second = record {
    goes = laws.turn form least mid most old between new one two first.goes second.goes;
    trusts = λ exact. laws.trust form old between new (first.trusts exact) (second.trusts exact);
  }

  -- what went on so far goes on to more
  pub to_more : (least mid most all : List Content) (old new : State) → IsPrefix least mid → IsPrefix mid most → Goes form least mid all old new
      → Goes form least most all old new
  to_more least mid most all old new one two first = in_turn least mid most all old new new one two first (stays mid most all new new refl)

-- a stop that isn't among these is none of them
pub is_new : (stop : ℕ) (stored : List ℕ) → is_among stop stored ≡ false → IsNew stop stored
is_new stop [] isnt = tt
is_new stop (s ∷ stored) isnt = (apart stop s stored isnt, is_new stop stored (rest stop s stored isnt)) where
  apart : (stop s : ℕ) (stored : List ℕ) → is_among stop (s ∷ stored) ≡ false → stop ≡ s → ⊥
  apart stop s stored isnt same = grind (arith, isnt, same)

  rest : (stop s : ℕ) (stored : List ℕ) → is_among stop (s ∷ stored) ≡ false → is_among stop stored ≡ false
  rest stop s stored isnt = grind (arith, isnt)

pub not_stored : (ready ours new large : Type 0) (before after : ℕ) (fault : PutFault) → CauseOf ready ours new large before after fault → new → fault ≡ AlreadyStored → ⊥
not_stored ready ours new large before after fault cause is_new is =
    let why : ready × ours × (new → ⊥) = subst (CauseOf ready ours new large before after) is cause in why.2 is_new

-- what comes next of a stop: nothing, if the list has it or there is no tree; else the tree
pub lacked_there : (now all : List Content) (stop : ℕ) (stored : List ℕ) → stored ≡ sources now → is_among stop stored ≡ true → lacked now all stop ≡ None
lacked_there now all stop stored are is = ap (λ (b : Bool). cond b None (tree_of all stop)) (ap (is_among stop) (sym are) ∙ is)

pub lacked_none : (now all : List Content) (stop : ℕ) → None ≡ tree_of all stop → lacked now all stop ≡ None
lacked_none now all stop is = by (is_among stop (sources now)) where
  by : (b : Bool) → cond b None (tree_of all stop) ≡ None
  by true = refl
  by false = sym is

pub lacked_some : (now all : List Content) (stop : ℕ) (stored : List ℕ) (t : Content) → stored ≡ sources now → is_among stop stored ≡ false → Some t ≡ tree_of all stop
    → lacked now all stop ≡ Some t
lacked_some now all stop stored t are isnt is =
    ap (λ (b : Bool). cond b None (tree_of all stop)) (ap (is_among stop) (sym are) ∙ isnt) ∙ sym is

pub skips : (now all : List Content) (stop : ℕ) → lacked now all stop ≡ None → now ≡ with_next now (lacked now all stop)
skips now all stop none = sym (ap (with_next now) none)

pub adds : (now all : List Content) (stop : ℕ) (t : Content) → lacked now all stop ≡ Some t → now ++ t ∷ [] ≡ with_next now (lacked now all stop)
adds now all stop t some = sym (ap (with_next now) some)

pub not_failed : (ready ours new large : Type 0) (before after : ℕ) (fault : PutFault) → CauseOf ready ours new large before after fault → ready → fault ≡ Failed → ⊥
not_failed ready ours new large before after fault cause is_ready is =
    let why : ready → ⊥ = subst (CauseOf ready ours new large before after) is cause in why is_ready

pub not_other : (ready ours new large : Type 0) (before after : ℕ) (fault : PutFault) → CauseOf ready ours new large before after fault → ours → fault ≡ OtherTimetable → ⊥
not_other ready ours new large before after fault cause is_ours is =
    let why : ready × (ours → ⊥) = subst (CauseOf ready ours new large before after) is cause in why.1 is_ours

pub too_large : (ready ours new large : Type 0) (before after : ℕ) (fault : PutFault) → CauseOf ready ours new large before after fault → fault ≡ TooLarge → large
too_large ready ours new large before after fault cause is =
    let why : ready × ours × new × large = subst (CauseOf ready ours new large before after) is cause in why.3

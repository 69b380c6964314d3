-- Files of stops, as they are read and as their faults are said.
use Rattle.std.proofs.Common.{◌≡◌, ◌∙◌, ◌⊎◌, ℕ, List, [], ◌∷◌, ◌++◌, Bor, Contains, Option, Some, Result, IfOk, IfErr, IfSome, MatchResult, append_assoc, map, ap, inl, inr, refl, subst, sym}
use Rattle.std.specs.Global.{Vec}
use Rattle.std.proofs.lemmas.List.{map-append}
use Rattle.std.proofs.lemmas.List.Elements.{Contains-append_left, Contains-push}
use Rattle.faults.specs.declared.fault.Fault.{Fault}
use Rattle.faults.specs.declared.fault.Fault.TheVariants as faults
use Rattle.feed_basis.specs.Basis.{BasisData}
use Rattle.pattern_query.specs.declared.refusal.Refusal.{Refusal}
use Rattle.pattern_query.specs.declared.refusal.Refusal.TheVariants as refusals
use Rattle.stop_lists.specs.Faults.{fault_lines}
use Rattle.stop_lists.specs.Lists.{Explains, IsContent, ids_in}
use Rattle.stop_lists.specs.declared.fault.ListFault.{ListFault}
use Rattle.stop_lists.specs.declared.fault.ListFault.TheVariants as lists
use Rattle.streams.specs.Streams.{IsSaid, StreamData}
use Rattle.told_matrix.specs.Asked.{IsFirstUnknown, IsNoMatrix, IsRefused}
use Rattle.told_matrix.specs.declared.asking.Asked.{Asked}
use Rattle.feed_commands.specs.Matrices.{AreListed, IsListFaultSaid, unknown_in}
use Rattle.feed_commands.proofs.FoundFacts.{matched}

-- what a reader has is what the file has
pub read_from : (remaining : Option (List ℕ)) (bytes : List ℕ) (r : Result (Vec ℕ) ListFault) → remaining ≡ Some bytes
    → IfSome remaining (λ bytes. IfOk r (λ list. IsContent bytes list.items)) → IfSome remaining (λ bytes. IfErr r (Explains bytes))
    → MatchResult r (λ content. IsContent bytes content.items) (Explains bytes)
read_from remaining bytes r is content fault =
    matched r (λ content. IsContent bytes content.items) (Explains bytes)
    (subst (λ (o : Option (List ℕ)). IfSome o (λ bytes. IfOk r (λ list. IsContent bytes list.items))) is content)
    (subst (λ (o : Option (List ℕ)). IfSome o (λ bytes. IfErr r (Explains bytes))) is fault)

-- any fault but want of memory is said with the file
pub fault_said : (path : List ℕ) (fault : ListFault) (old new : StreamData) (status : ℕ) → ¬ (fault ≡ lists.Memory) → status ≡ 6
    → IsSaid (fault_lines path fault) old new → IsListFaultSaid path fault old new status
fault_said path lists.ReadFailed old new status other is said = (is, said)
fault_said path lists.BadText old new status other is said = (is, said)
fault_said path lists.TooLarge old new status other is said = (is, said)
fault_said path lists.Memory old new status other is said = absurd (other refl)

-- one of both files lists the id that no stop has, if that is the fault
abbrev pub IsListed : List ℕ → List ℕ → Fault → Type 0
IsListed from to fault = IfSome (unknown_in fault) (λ id. Contains (ids_in from) id.now ⊎ Contains (ids_in to) id.now)

module _ (basis : BasisData) where
  -- the first id that no stop has is among the texts of the ids
  unknown_among : (ids : List (Bor (List ℕ))) (texts : List (List ℕ)) (id : Bor (List ℕ)) → map (λ id. id.now) ids ≡ texts
      → IsFirstUnknown basis ids id → Contains texts id.now
  unknown_among ids texts id are first =
      let now = λ (id : Bor (List ℕ)). id.now in
      let parts : map now ids ≡ map now first.before ++ (id.now ∷ []) ++ map now first.after =
      ap (map now) first.among ∙ map-append now first.before (id ∷ first.after)
      ∙ sym (append_assoc (map now first.before) (id.now ∷ []) (map now first.after)) in
      let last = Contains-push (map now first.before) id.now in
      subst (λ (all : List (List ℕ)). Contains all id.now) (sym parts ∙ are)
      (Contains-append_left (map now first.before ++ (id.now ∷ [])) (map now first.after) id.now last)

  refused_listed : (from to : List ℕ) (asked : Asked) (refusal : Refusal) → AreListed from to asked → IsRefused basis asked refusal
      → IsListed from to (faults.Question refusal)
  refused_listed from to asked (refusals.UnknownStop id) listed (inl first) =
      inl (unknown_among asked.origins.now (ids_in from) id listed.origins first)
  refused_listed from to asked (refusals.UnknownStop id) listed (inr later) =
      inr (unknown_among asked.goals.now (ids_in to) id listed.goals later.1)
  refused_listed from to asked refusals.NotCovered listed refused = tt
  refused_listed from to asked (refusals.NotStored id) listed refused = tt

  pub unknown_listed : (from to : List ℕ) (asked : Asked) (fault : Fault) → AreListed from to asked → IsNoMatrix basis asked fault
      → IsListed from to fault
  unknown_listed from to asked fault listed (inl refused) =
      subst (IsListed from to) (sym refused.1) (refused_listed from to asked refused.0 listed refused.2)
  unknown_listed from to asked fault listed (inr memory) = subst (IsListed from to) (sym memory) tt

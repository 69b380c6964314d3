-- Ids and their stops.
use Rattle.std.proofs.Common.{◌≡◌, ◌∙◌, ℕ, suc, ◌<◌, ◌++◌, List, [], ◌∷◌, length, take, drop, get_or, None, Bor, inl, inr, sym, ap}
use Rattle.std.proofs.Math.Seq.{drop-cons}
use Rattle.std.proofs.lemmas.List.{take-append-drop}
use Rattle.std.proofs.lemmas.List.Elements.{All-nil, All-cons}
use Rattle.faults.specs.declared.fault.Fault.{Fault}
use Rattle.feed_basis.specs.Basis.{BasisData}
use Rattle.feed_basis.specs.Ids.{IsKnown, stop_alone}
use Rattle.pattern_query.specs.declared.refusal.Refusal.TheVariants as refusals
use Rattle.told_matrix.specs.Asked.{AreKnown, AreStops, IsFirstUnknown, IsNoMatrix, IsUnknownIn}
use Rattle.told_matrix.specs.declared.asking.Asked.{Asked}
use Rattle.told_matrix.specs.declared.place.Place.{Place}

module _ (basis : BasisData) where
  abbrev pub Known : Bor (List ℕ) → Type 0
  Known id = IsKnown (stop_alone basis.names) id.now

  pub all_known : (ids : List (Bor (List ℕ))) (places : List Place) → AreStops basis ids places → AreKnown basis ids
  all_known [] places h = All-nil Known
  all_known (id ∷ ids) [] h = absurd h
  all_known (id ∷ ids) (place ∷ places) h = All-cons Known id ids (place.stop ∷ [], h.0.stop) (all_known ids places h.1)

  -- the first ids have stops, and the next one has none
  pub first_unknown : (ids : List (Bor (List ℕ))) (i : ℕ) (id : Bor (List ℕ)) (places : List Place) → i < length ids → id ≡ get_or ids i id
      → AreStops basis (take i ids) places → stop_alone basis.names id.now ≡ None → IsFirstUnknown basis ids id
  first_unknown ids i id places below is stops none =
      let next : drop i ids ≡ id ∷ drop (suc i) ids = drop-cons ids i id below ∙ ap (λ (x : Bor (List ℕ)). x ∷ drop (suc i) ids) (sym is) in
      record {
        before = take i ids;
        after = drop (suc i) ids;
        among = sym (take-append-drop i ids) ∙ ap (λ (l : List (Bor (List ℕ))). take i ids ++ l) next;
        earlier = all_known (take i ids) places stops;
        unknown = none;
      }

  -- an id to go to isn't known, and those to leave from are
  pub goal_unknown : (asked : Asked) (fault : Fault) → AreKnown basis asked.origins.now → IsUnknownIn basis asked.goals.now fault
      → IsNoMatrix basis asked fault
  goal_unknown asked fault known (inl first) = inl (refusals.UnknownStop first.0, first.1, inr (known, first.2))
  goal_unknown asked fault known (inr memory) = inr memory

-- Groups without items, and the stops that an id stands for.
use Rattle.std.proofs.Common.{Option, ◌≡◌, ℕ, zero, suc, ◌+◌, ◌<◌, List, [], ◌∷◌, length, get_or, map, Some, None, IfSome, All, option_map, arith, refl, subst}
use Rattle.std.specs.List.{range_with_len}
use Rattle.std.specs.Str.{bytes_eq}
use Rattle.feed_ids.specs.Groups.{group, AreBelow}
use Rattle.feed_ids.specs.NameLists.{NameLists}
use Rattle.feed_ids.specs.Names.{KnowsStops, one_or, station_named, stop_named}
use Rattle.feed_ids.proofs.Finding.{position_from_below}

-- groups without items
pub group-empty : {X : Type 0} (count n : ℕ) → group (map (λ (k : ℕ). let none : List X = [] in none) (range_with_len 0 count)) n ≡ []
group-empty count n = go (range_with_len 0 count) n where
  go : {X : Type 0} (ks : List ℕ) (n : ℕ) → get_or (map (λ (k : ℕ). let none : List X = [] in none) ks) n [] ≡ []
  go [] n = refl
  go (k ∷ ks) zero = refl
  go (k ∷ ks) (suc n) = go ks n

-- a stop that is found is one of the names' stops
pub stop_below : (names : NameLists) (id : List ℕ) (stop : ℕ) → stop_named names id ≡ Some stop → stop < length names.stops
stop_below names id stop e =
    let below : IfSome (Some stop) (λ n. n < 0 + length names.stops) = subst (λ o. IfSome o (λ n. n < 0 + length names.stops)) e (position_from_below (bytes_eq id) 0 names.stops) in
    omega (arith, below)

-- what holds of one holds of all of a list of one
pub all_of_one : (count stop : ℕ) → stop < count → All (λ s. s < count) (stop ∷ [])
all_of_one count stop known i d lt = subst (λ i. get_or (stop ∷ []) i d < count) (let e : 0 ≡ i = omega (arith, lt) in e) known

nothing : (stops : List ℕ) → None ≡ Some stops → ⊥
nothing stops e = cc

same : (a b : List ℕ) → Some a ≡ Some b → a ≡ b
same a b e = cc

pub knows_stops : (names : NameLists) → AreBelow (length names.stops) names.children → KnowsStops names
knows_stops names known id stops e = go (stop_named names id) refl (station_named names id) e where
  go : (o : Option ℕ) → stop_named names id ≡ o → (n : Option ℕ) → one_or o (option_map (group names.children) n) ≡ Some stops → All (λ s. s < length names.stops) stops
  go (Some s) is n e = subst (λ l. All (λ s. s < length names.stops) l) (same (s ∷ []) stops e) (all_of_one (length names.stops) s (stop_below names id s is))
  go None is (Some n) e = subst (λ l. All (λ s. s < length names.stops) l) (same (group names.children n) stops e) (known n)
  go None is None e = absurd (nothing stops e)

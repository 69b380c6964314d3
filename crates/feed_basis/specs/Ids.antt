-- Which stops an id stands for.
use Rattle.std.specs.Prelude.{◌≡◌, ℕ, List, [], ◌∷◌, Option, Some}
use Rattle.std.specs.Option.{option_map}
use Rattle.feed_ids.specs.NameLists.{NameLists}
use Rattle.feed_ids.specs.Names.{stop_named}

-- only the stop of the id
abbrev pub stop_alone : NameLists → List ℕ → Option (List ℕ)
stop_alone names id = option_map (λ stop. stop ∷ []) (stop_named names id)

-- the id stands for some stops
abbrev pub IsKnown : (List ℕ → Option (List ℕ)) → List ℕ → Type 0
IsKnown stops id = (found : List ℕ) × (stops id ≡ Some found)

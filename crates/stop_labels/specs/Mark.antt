-- What is kept of a stop: when one is there, and by which rides.
-- The labels of RAPTOR (Delling, Pajor, Werneck, ALENEX 2012), section 3, each with its whole pattern.
use Rattle.std.specs.Prelude.{Option, ◌≡◌, ℕ, ◌≤◌, [], ◌∷◌, ◌++◌, Bool, false, nat_le, List, length, Some, None, IsSomeAnd, slice_index_or, slice_set, if◌then◌else◌}
use Rattle.std.specs.Option.{option_map, unwrap_or}

-- a moment, and the pattern of the rides before it
pub record Mark : Type 0 where
  pub arrival : ℕ
  pub path : List (ℕ × ℕ)

-- a path, and one ride more if there is one
abbrev pub and_ride : List (ℕ × ℕ) → Option (ℕ × ℕ) → List (ℕ × ℕ)
and_ride path None = path
and_ride path (Some ride) = path ++ ride ∷ []

-- the mark at another moment, with one ride more if there is one
abbrev pub moved : Mark → ℕ → Option (ℕ × ℕ) → Mark
moved mark arrival ride = record { arrival = arrival; path = and_ride mark.path ride }

-- the mark of a stop
abbrev pub at : List (Option Mark) → ℕ → Option Mark
at marks p = slice_index_or marks p None

-- there is a mark, of this moment or an earlier one
abbrev pub By : Option Mark → ℕ → Type 0
By mark a = IsSomeAnd mark (λ m. m.arrival ≤ a)

-- whether there is such a mark
abbrev pub is_by : Option Mark → ℕ → Bool
is_by mark a = unwrap_or (option_map (λ m. nat_le m.arrival a) mark) false

-- the marks with this one at p, if it is earlier
abbrev pub lowered : List (Option Mark) → ℕ → Mark → List (Option Mark)
lowered marks p mark = if is_by (at marks p) mark.arrival then marks else slice_set marks p (Some mark)

-- no mark is later than this
abbrev pub AllEarly : ℕ → List (Option Mark) → Type 0
AllEarly latest marks = (p : ℕ) (m : Mark) → at marks p ≡ Some m → m.arrival ≤ latest

-- no mark has more rides than this
abbrev pub AllShort : ℕ → List (Option Mark) → Type 0
AllShort few marks = (p : ℕ) (m : Mark) → at marks p ≡ Some m → length m.path ≤ few

-- when one is there, by a mark
abbrev pub arrival_of : Option Mark → Option ℕ
arrival_of mark = option_map (λ m. m.arrival) mark

-- the mark of one who boards at a stop with mark b and alights at another at the moment of arrival
abbrev pub ridden_to : ℕ → Mark → ℕ → ℕ → Mark
ridden_to from b to arrival = record { arrival = arrival; path = b.path ++ (from, to) ∷ [] }

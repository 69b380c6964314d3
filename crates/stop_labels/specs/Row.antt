-- What clauses see of a row of labels, one for each stop.
use Rattle.std.specs.Prelude.{Option, ◌≡◌, ℕ, ◌≤◌, ◌⊎◌, eqb, List, length, None, IsSomeAnd, slice_index_or}
use Rattle.std.specs.List.{Contains, IsDistinct}
use Rattle.timetable.specs.Front.{IsSooner}
use Rattle.stop_labels.specs.Mark.{Mark, at, arrival_of, lowered}

-- the marks, and when one was at each stop as the row was last settled
pub record RowData : Type 0 where
  pub marks : List (Option Mark)
  pub settled : List (Option ℕ)

-- when one is at a stop by these moments
abbrev pub when : List (Option ℕ) → ℕ → Option ℕ
when moments p = slice_index_or moments p None

-- there is a moment, this one or an earlier one
abbrev pub ByThen : Option ℕ → ℕ → Type 0
ByThen moment a = IsSomeAnd moment (λ x. x ≤ a)

-- when one is at each stop now, and when one was as the row was last settled
abbrev pub arrivals_of : RowData → ℕ → Option ℕ
arrivals_of row p = arrival_of (at row.marks p)

abbrev pub settled_of : RowData → ℕ → Option ℕ
settled_of row p = when row.settled p

-- each stop is listed, once, or as it was settled; those that are listed are sooner. There is room for all
pub record IsRow (marks : List (Option Mark)) (settled : List (Option ℕ)) (listed : List ℕ) (capacity : ℕ) : Type 0 where
  pub size : length settled ≡ length marks
  pub room : length marks ≤ capacity
  pub others : (p : ℕ) → Contains listed p ⊎ (arrival_of (at marks p) ≡ when settled p)
  pub sooner : (p : ℕ) → Contains listed p → IsSooner (arrival_of (at marks p)) (when settled p)
  pub once : IsDistinct eqb listed

-- of the same stops, settled at the same moments
pub record SameRow (old new : RowData) : Type 0 where
  pub size : length new.marks ≡ length old.marks
  pub settled : new.settled ≡ old.settled

-- the row with this mark at p, if it is earlier
abbrev pub lowered_in : RowData → ℕ → Mark → RowData
lowered_in row p mark = record { marks = lowered row.marks p mark; settled = row.settled }

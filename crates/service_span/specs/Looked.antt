-- What is looked up of services and dates. Only private clauses cite these words.
use Rattle.std.specs.Prelude.{◌≡◌, ◌≤ℤ◌, ◌+ℤ◌, pos, unsigned_abs, ◌&&◌, not, ℕ, Bool, true, false, List, Option, None, Some}
use Rattle.std.specs.Ordering.{nat_cmp, ordering_then}
use Rattle.std.specs.Cmp.Lexicographic.{slice_cmp}
use Rattle.std.specs.BTreeSet.{BTreeSet, contains_by}
use denote.Ref.{Bor}
use Rattle.jiff_core.specs.declared.civil.date.Date.{Date}
use Rattle.jiff_core.specs.Date.{epoch_day}
use Rattle.gtfs_rows.specs.declared.values.CalendarRow.{CalendarRow}
use Rattle.gtfs_rows.specs.declared.values.CalendarDate.{CalendarDate}
use Rattle.service_days.specs.Runs.{adds, plans}

-- the service is one of these
abbrev pub is_member : BTreeSet (Bor (List ℕ)) → List ℕ → Bool
is_member names service = contains_by (λ k. slice_cmp nat_cmp service k.now) names

-- how many days a date lies after -9999-01-01
abbrev pub day_number : Date → ℕ
day_number date = unsigned_abs (epoch_day date +ℤ pos 4_371_587)

-- the date of the service is one of these
abbrev pub is_removed : BTreeSet (Bor (List ℕ) × ℕ) → List ℕ → Date → Bool
is_removed removed service date =
    contains_by (λ k. ordering_then (slice_cmp nat_cmp service k.0.now) (nat_cmp (day_number date) k.1)) removed

-- the calendar row has its service on the date, and the date isn't removed
abbrev pub keeps : BTreeSet (Bor (List ℕ) × ℕ) → CalendarRow → Date → Bool
keeps removed row date = plans row.service date row && not (is_removed removed row.service date)

-- the same, if the service is one of these
abbrev pub is_planned : BTreeSet (Bor (List ℕ)) → BTreeSet (Bor (List ℕ) × ℕ) → Date → CalendarRow → Bool
is_planned names removed date row = is_member names row.service && keeps removed row date

-- the exception adds the date to its service, which is one of these
abbrev pub is_extra : BTreeSet (Bor (List ℕ)) → Date → CalendarDate → Bool
is_extra names date row = is_member names row.service && adds row.service date row

-- the first date that passes, or none if no date does
abbrev pub IsFirst : (Date → Bool) → Option Date → Type 0
IsFirst passes None = (date : Date) → passes date ≡ false
IsFirst passes (Some first) = (passes first ≡ true) × ((date : Date) → passes date ≡ true → epoch_day first ≤ℤ epoch_day date)

-- the last one
abbrev pub IsLast : (Date → Bool) → Option Date → Type 0
IsLast passes None = (date : Date) → passes date ≡ false
IsLast passes (Some last) = (passes last ≡ true) × ((date : Date) → passes date ≡ true → epoch_day date ≤ℤ epoch_day last)

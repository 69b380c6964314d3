-- The instances of a line, and their times at its positions.
use Rattle.std.proofs.Common.{Option, Some, None, IsSomeAnd, ◌≡◌, ℕ, zero, suc, ◌+◌, ◌-◌, ◌<◌, ◌≤◌, ◌↔◌, inl, inr, Bool, false, List, [], ◌∷◌, length, get_or, slice_get, map, option_map, unwrap_or, leb, refl, sym, ◌∙◌, ap, subst, arith, le_trans, leb-true, eq-or-lt_of_le, true≢false}
use Rattle.std.specs.List.{AllPairs, Contains, concat, range_with_len, position as first_index, position_or_len}
use Rattle.std.proofs.lemmas.Bool.{le-leb, cases_lt}
use Rattle.std.proofs.lemmas.List.{get_or-map, get_or_default, length-map}
use Rattle.std.proofs.lemmas.List.Elements.{Contains-append_cases}
use Rattle.std.proofs.lemmas.List.FromFn.{length-range_with_len, get_or-range_with_len}
use Rattle.std.proofs.lemmas.List.Quantifiers.{position-Some}
use Rattle.std.proofs.lemmas.List.Sorted.{Contains-permutation}
use Rattle.std.proofs.lemmas.List.Sums.{fails_before_first}
use Rattle.std.proofs.lemmas.Option.{slice_get_within, slice_get_read, slice_get-map, slice_get-get_or, get_or_from_slice_get, same_Some}
use Rattle.timetable.specs.declared.parts.Call.{Call}
use Rattle.timetable.specs.declared.parts.Leg.{Leg}
use Rattle.timetable.specs.Table.{Table, calls_of}
use Rattle.timetable.specs.Journeys.{Ride, call_at, from}
use Rattle.timetable.proofs.Legs.{there, ride_within}
use Rattle.lines.specs.declared.line.Halt.{Halt}
use Rattle.lines.specs.declared.line.Times.{Times}
use Rattle.lines.specs.Lines.{LineData, LineTable, no_line, line_at, AreLines, CallsAt, IsLine, AreNoLater, column, halt_of, times_of, halts_of, course_of, times_at}
use Rattle.lines.proofs.LineFacts.{position_found}

mapped : {X Y : Type 0} (f : X → Y) (o : Option X) (y : Y) → option_map f o ≡ Some y → (x : X) × (o ≡ Some x) × (f x ≡ y)
mapped f None y e = absurd (subst (λ o. IsSomeAnd o (λ _. Unit {0})) (sym e) tt)
mapped f (Some x) y e = (x, refl, same_Some (f x) y e)

-- an instance with the halts of a line calls at each of its positions
pub call_there : (table : Table) (n i : ℕ) (halts : List Halt) (halt : Halt) → halts_of table n ≡ halts → slice_get halts i ≡ Some halt
    → (call : Call) × (call_at table n i ≡ Some call) × (halt_of call ≡ halt)
call_there table n i halts halt same at =
    mapped halt_of (call_at table n i) halt (sym (slice_get-map halt_of (calls_of table n) i) ∙ (ap (λ hs. slice_get hs i) same ∙ at))

-- and the line has a position for each of its calls
pub halt_there : (table : Table) (n i : ℕ) (halts : List Halt) (call : Call) → halts_of table n ≡ halts → call_at table n i ≡ Some call
    → slice_get halts i ≡ Some (halt_of call)
halt_there table n i halts call same at =
    ap (λ hs. slice_get hs i) (sym same) ∙ (slice_get-map halt_of (calls_of table n) i ∙ ap (option_map halt_of) at)

pub times_there : (table : Table) (n i : ℕ) (call : Call) → call_at table n i ≡ Some call → times_at table n i ≡ times_of call
times_there table n i call at =
    get_or_from_slice_get (course_of table n) i (times_of call) (record { arrival = 0; departure = 0 })
    (slice_get-map times_of (calls_of table n) i ∙ ap (option_map times_of) at)

pub column_long : (table : Table) (line : LineData) (i : ℕ) → IsLine table line → i < length line.halts → length (column line i) ≡ length line.members
column_long table line i ok h = ap (length {A = Times}) (ok.times i h) ∙ length-map line.members (λ n. times_at table n i)

pub column_at : (table : Table) (line : LineData) (i k : ℕ) (d : Times) → IsLine table line → i < length line.halts → k < length line.members
    → get_or (column line i) k d ≡ times_at table (get_or line.members k 0) i
column_at table line i k d ok h within =
    ap (λ ts. get_or ts k d) (ok.times i h) ∙ get_or-map (λ n. times_at table n i) line.members k 0 d within

-- an instance of a line that is one of its members, by its position among them
pub member_at : (line : LineData) (n : ℕ) → Contains line.members n → (k : ℕ) × (k < length line.members) × (get_or line.members k 0 ≡ n)
member_at line n has = (has.0, has.1, get_or_default line.members has.0 0 n has.1 ∙ has.2)

-- the instance of a ride has the halts of its line
pub member_halts : (table : Table) (line : LineData) (n : ℕ) → IsLine table line → Contains line.members n → halts_of table n ≡ line.halts
member_halts table line n ok has =
    let m = member_at line n has in
    ap (halts_of table) (sym m.2) ∙ ok.chain.alike m.0 0 m.1

-- ---- every ride is on a line

concat_in : (xss : List (List ℕ)) (n : ℕ) → Contains (concat xss) n → (k : ℕ) × (k < length xss) × Contains (get_or xss k []) n
concat_in [] n h = absurd (let f = h.1 in omega arith)
concat_in (xs ∷ xss) n h = elim (Contains-append_cases xs (concat xss) n h) [
  | inl here ↦ (zero, omega arith, here)
  | inr later ↦ let f = concat_in xss n later in (suc f.0, (let g = f.1 in omega arith), f.2)
]

in_range : (n m : ℕ) → m < n → Contains (range_with_len 0 n) m
in_range n m h =
    let e = length-range_with_len 0 n in
    (m, omega arith, get_or-range_with_len 0 n m m h ∙ (let f : 0 + m ≡ m = omega arith in f))

-- a ride is on an instance of some line, which calls at the position where one boards
pub line_of : (table : Table) (lines : LineTable) (leg : Leg) → AreLines table lines → Ride table leg
    → (k : ℕ) × (k < length lines.lines) × Contains (line_at lines k).members leg.instance
    × CallsAt lines.lines (from table leg) (record { line = k; position = leg.board })
line_of table lines leg are ride =
    let n = leg.instance in
    let members = map (λ (line : LineData). line.members) lines.lines in
    let all : Contains (concat members) n =
    Contains-permutation (range_with_len 0 (length table.instances)) (concat members) n are.once (in_range (length table.instances) n (ride_within table leg ride)) in
    let f = concat_in members n all in
    let k = f.0 in
    let short : k < length lines.lines = (let g = f.1 in let e = length-map lines.lines (λ (line : LineData). line.members) in omega arith) in
    let line = get_or lines.lines k no_line in
    let is : slice_get lines.lines k ≡ Some line = slice_get-get_or lines.lines k no_line short in
    let has : Contains line.members n = subst (λ xs. Contains xs n) (get_or-map (λ (line : LineData). line.members) lines.lines k no_line [] short) f.2 in
    let halts = member_halts table line n (are.each k no_line short) has in
    let b = there (call_at table n leg.board) ride.boards in
    let stop : (halt_of b.0).stop ≡ from table leg = sym (ap (λ o. unwrap_or (option_map (λ (c : Call). c.stop) o) 0) b.1) in (
      k,
      short,
      has,
      subst (λ o. IsSomeAnd o (λ line. IsSomeAnd (slice_get line.halts leg.board) (λ halt. halt.stop ≡ from table leg))) (sym is)
          (subst (λ o. IsSomeAnd o (λ halt. halt.stop ≡ from table leg)) (sym (halt_there table n leg.board line.halts b.0 halts b.1)) stop),
    )

-- ---- the first that passes

-- a search that finds nothing passes all
pub none_passes : {X : Type 0} (p : X → Bool) (xs : List X) (k : ℕ) (d : X) → first_index p xs ≡ None → k < length xs → p (get_or xs k d) ≡ false
none_passes p xs k d is h = elim (cases_lt (position_or_len p xs) (length xs)) [
  | inl short ↦
      let e : Some (position_or_len p xs) ≡ None = position_found p xs (position_or_len p xs) refl short ∙ is in
      absurd (subst (λ o. IsSomeAnd o (λ _. Unit {0})) e tt)
  | inr long ↦ fails_before_first p xs k d (omega arith)
]

-- an instance before another is found exactly if the last one before it departs in time
pub found_before : (times : List Times) (ready trip : ℕ) (d : Times) → AllPairs AreNoLater times → 0 < trip → trip < length times
    → (ready ≤ (get_or times (trip - 1) d).departure) ↔ IsSomeAnd (first_index (λ (t : Times). leb ready t.departure) times) (λ first. first < trip)
found_before times ready trip d rising some within =
    (λ late. forward (first_index (λ (t : Times). leb ready t.departure) times) refl late, λ found. backward (first_index (λ (t : Times). leb ready t.departure) times) refl found) where
      p : Times → Bool
      p = λ t. leb ready t.departure

      forward : (o : Option ℕ) → first_index (λ (t : Times). leb ready t.departure) times ≡ o → ready ≤ (get_or times (trip - 1) d).departure → IsSomeAnd o (λ first. first < trip)
      forward None is late =
          let fails = none_passes (λ (t : Times). leb ready t.departure) times (trip - 1) d is (omega arith) in
          absurd (true≢false (sym (le-leb ready (get_or times (trip - 1) d).departure late) ∙ fails))
      forward (Some first) is late =
          let found = position-Some (λ (t : Times). leb ready t.departure) times first d is in
          elim (cases_lt first trip) [
            | inl before ↦ before
            | inr after ↦
                let fails = found.2 (trip - 1) (omega arith) in
                absurd (true≢false (sym (le-leb ready (get_or times (trip - 1) d).departure late) ∙ fails))
          ]

      backward : (o : Option ℕ) → first_index (λ (t : Times). leb ready t.departure) times ≡ o → IsSomeAnd o (λ first. first < trip) → ready ≤ (get_or times (trip - 1) d).departure
      backward None is found = absurd found
      backward (Some first) is before =
          let found = position-Some (λ (t : Times). leb ready t.departure) times first d is in
          let departs = leb-true ready (get_or times first d).departure found.1 in
          elim (eq-or-lt_of_le (let k : first ≤ trip - 1 = omega arith in k)) [
            | inl e ↦ subst (λ k. ready ≤ (get_or times k d).departure) e departs
            | inr lt ↦ le_trans departs (rising first (trip - 1) d lt (omega arith)).1
          ]

pub halt_read : (halts these : List Halt) (k : ℕ) (halt : Halt) → these ≡ halts → k < length these → halt ≡ get_or these k halt → slice_get halts k ≡ Some halt
halt_read halts these k halt same in' is = ap (λ hs. slice_get hs k) (sym same) ∙ slice_get_read these (length these) k halt refl in' is

-- the call of an instance at a position, and its times
pub call_on : (table : Table) (line : LineData) → IsLine table line → (x k : ℕ) (halt : Halt) → x < length line.members → slice_get line.halts k ≡ Some halt
    → (c : Call) × (call_at table (get_or line.members x 0) k ≡ Some c) × (halt_of c ≡ halt) × ((d : Times) → get_or (column line k) x d ≡ times_of c)
call_on table line ok x k halt h is =
    let n = get_or line.members x 0 in
    let c = call_there table n k line.halts halt (ok.chain.alike x 0 h) is in
    (c.0, c.1, c.2, λ d. column_at table line k x d ok (slice_get_within line.halts k halt is) h ∙ times_there table n k c.0 c.1)

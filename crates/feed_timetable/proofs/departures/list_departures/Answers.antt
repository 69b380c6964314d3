use Rattle.std.proofs.Common.{◌≡◌, ℕ, ◌<◌, ◌≤◌, ◌++◌, ◌∷◌, [], ◌∙◌, sym, ap, arith, get_or, map, take, append_assoc, zero-add, List, false}
use Rattle.std.specs.List.{flat_map, range_with_len}
use Rattle.std.proofs.lemmas.List.{take_all}
use Rattle.std.proofs.lemmas.List.Elements.{All-push}
use Rattle.std.proofs.lemmas.List.FromFn.{map-range_with_len_more}
use Rattle.std.proofs.lemmas.List.Sorted.{All-permutation, IsNonDecreasingBy-from_sort}
use Rattle.gtfs_rows.specs.declared.values.Frequency.{Frequency}
use Rattle.feed_timetable.specs.Departures.{departures, by_time}
use Rattle.feed_timetable.proofs.DepartureFacts.{before_end, count_of, departure_at, departures-range, flat_more, length-departures, sorted_is}
use Rattle.feed_timetable.proofs.departures.list_departures.Goals as goal

pub overflow_mul-x : goal.overflow_mul-x
overflow_mul-x c =
    let d : Frequency = record { trip = 0; start = 0; end = 0; headway = 0; exact = false } in
    let row = get_or c.args.rows.now c.loop-row.row-index d in
    let is = c.requires.rows c.loop-row.row-index d c.loop-row-test.true in
    let end = is.end in
    let lt : c.loop-x.x < count_of row = omega (arith, c.loop-x-test.true, c.departure_count-x-end.ensures, length-departures row is.headway) in
    omega (arith, before_end row c.loop-x.x is.headway lt, end)

pub overflow_add-row : goal.overflow_add-row
overflow_add-row c =
    let d : Frequency = record { trip = 0; start = 0; end = 0; headway = 0; exact = false } in
    let row = get_or c.args.rows.now c.loop-row.row-index d in
    let is = c.requires.rows c.loop-row.row-index d c.loop-row-test.true in
    let end = is.end in
    let lt : c.loop-x.x < count_of row = omega (arith, c.loop-x-test.true, c.departure_count-x-end.ensures, length-departures row is.headway) in
    omega (arith, before_end row c.loop-x.x is.headway lt, end)

pub loop-x-preserved : goal.loop-x-preserved
loop-x-preserved c =
    let d : Frequency = record { trip = 0; start = 0; end = 0; headway = 0; exact = false } in
    let rows = c.args.rows.now in
    let row = get_or rows c.loop-row.row-index d in
    let is = c.requires.rows c.loop-row.row-index d c.loop-row-test.true in
    let end = is.end in
    let x = c.loop-x.x in
    let lt : x < count_of row = omega (arith, c.loop-x-test.true, c.departure_count-x-end.ensures, length-departures row is.headway) in
    let early : departure_at row x ≤ 604_799 = omega (arith, before_end row x is.headway lt, end) in
    let front = flat_map departures (take c.loop-row.row-index rows) in
    rw c.in_ok-push.ensures.items (record {
      so_far = ap (λ (ts : List ℕ). ts ++ departure_at row x ∷ []) c.loop-x.invariant.so_far
          ∙ (append_assoc front (map (departure_at row) (range_with_len 0 x)) (departure_at row x ∷ [])
          ∙ ap (λ (ts : List ℕ). front ++ ts) (sym (map-range_with_len_more (departure_at row) 0 x x (zero-add x))));
      early = All-push (λ time. time ≤ 604_799) c.loop-x.times.items (departure_at row x) c.loop-x.invariant.early early;
    })

pub loop-row-preserved : goal.loop-row-preserved
loop-row-preserved c =
    let d : Frequency = record { trip = 0; start = 0; end = 0; headway = 0; exact = false } in
    let rows = c.args.rows.now in
    let i = c.loop-row.row-index in
    let row = get_or rows i d in
    let is = c.requires.rows i d c.loop-row-test.true in
    let all : c.loop-x.x ≡ count_of row = omega (arith, c.loop-x-test.false, c.loop-x.auto.x-end, c.departure_count-x-end.ensures, length-departures row is.headway) in
    record {
      so_far = c.loop-x.invariant.so_far
          ∙ (ap (λ (ts : List ℕ). flat_map departures (take i rows) ++ ts) (ap (λ n. map (departure_at row) (range_with_len 0 n)) all ∙ sym (departures-range row is.headway))
          ∙ sym (flat_more departures rows i d c.loop-row-test.true));
      early = c.loop-x.invariant.early;
    }

pub returns-clause-listed : goal.returns-clause-listed
returns-clause-listed c =
    let rows = c.args.rows.now in
    let sorted = c.sort_unstable.new.self.items in
    sorted_is c.loop-row.times.items sorted c.sort_unstable.ensures.permutation (IsNonDecreasingBy-from_sort (λ x. x) sorted c.sort_unstable.ensures.sorted)
    ∙ ap by_time (c.loop-row.invariant.so_far ∙ ap (flat_map departures) (take_all c.loop-row.row-index rows (omega (arith, c.loop-row-test.false))))

pub returns-clause-early : goal.returns-clause-early
returns-clause-early c =
    All-permutation (λ time. time ≤ 604_799) c.loop-row.times.items c.sort_unstable.new.self.items c.sort_unstable.ensures.permutation c.loop-row.invariant.early

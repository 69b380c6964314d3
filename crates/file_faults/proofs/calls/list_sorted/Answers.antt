use Rattle.std.proofs.Common.{◌≡◌, ◌∙◌, sym, ap, subst, refl, arith, ℕ, ◌+◌, ◌-◌, ◌≤◌, List, [], ◌∷◌, ◌++◌, length, take, drop, length-drop, Option}
use Rattle.std.specs.Prelude.{nat_eq, option_to_list}
use Rattle.std.specs.List.{filter_map}
use Rattle.std.proofs.lemmas.List.{drop-drop}
use Rattle.std.proofs.lemmas.List.Elements.{filter_map-append}
use Rattle.std.proofs.lemmas.List.Sums.{prefix_len-le-length}
use Rattle.gtfs_rows.specs.declared.fault.FeedFault.{FeedFault}
use Rattle.gtfs_rows.specs.declared.values.StopTime.{StopTime}
use Rattle.gtfs_rows.specs.Faults.{first_fault}
use Rattle.gtfs_calls.specs.TripTests.{calls_by_trip, calls_of_trip, trip_tests}
use Rattle.gtfs_calls.proofs.TripFacts.{IsRest, calls_by_trip-more, cut-none, front-part, in_front, rest-of, rest-step}
use Rattle.file_faults.proofs.ListFacts.{adds-is, adds-none, adds-then, one}
use Rattle.file_faults.proofs.calls.list_sorted.Goals as goal

-- the fault of one trip more
one-more : (calls : List StopTime) (trip : ℕ) → filter_map (λ calls. first_fault (trip_tests calls)) (calls_by_trip calls (trip + 1))
    ≡ filter_map (λ calls. first_fault (trip_tests calls)) (calls_by_trip calls trip) ++ option_to_list (first_fault (trip_tests (calls_of_trip calls trip)))
one-more calls trip =
    let fault : List StopTime → Option FeedFault = λ calls. first_fault (trip_tests calls) in
    ap (filter_map fault) (calls_by_trip-more calls trip) ∙ filter_map-append fault (calls_by_trip calls trip) (calls_of_trip calls trip ∷ [])
    ∙ ap (λ (zs : List FeedFault). filter_map fault (calls_by_trip calls trip) ++ zs) (one (fault (calls_of_trip calls trip)))

pub loop-trip-init : goal.loop-trip-init
loop-trip-init c = record { list = adds-none c.args.list.now; rest = (cut-none c.args.calls.now c.requires).rest; within = omega arith }

pub loop-trip-preserved : goal.loop-trip-preserved
loop-trip-preserved c =
    let calls = c.args.calls.now in
    let start = c.loop-trip.start in
    let trip = c.loop-trip.trip in
    let m = c.calls_in_front-len.result in
    let left = drop start calls in
    let k = in_front trip left in
    let rest : take (length calls - start) (drop start calls) ≡ left = rest-of calls calls start refl in
    let len : m ≡ k = c.calls_in_front-len.ensures ∙ ap (in_front trip) rest in
    let part : take m (take (length calls - start) (drop start calls)) ≡ calls_of_trip calls trip =
    ap (take m) rest ∙ ap (λ (n : ℕ). take n left) len ∙ front-part calls trip left c.loop-trip.invariant.rest in
    let fits : k ≤ length left = prefix_len-le-length (λ (call : StopTime). nat_eq call.trip trip) left in
    let P : List StopTime → Type 0 = λ xs. IsRest calls (trip + 1) xs in
    let Q : ℕ → Type 0 = λ n. IsRest calls (trip + 1) (drop (start + n) calls) in
    record {
      list = adds-is (sym (one-more calls trip)) (adds-then c.loop-trip.invariant.list
          (adds-is (ap option_to_list (c.trip_fault.ensures ∙ ap (λ (p : List StopTime). first_fault (trip_tests p)) part)) c.in_ok-add_found.ensures));
      rest = subst Q (sym len) (subst P (drop-drop k start calls) (rest-step calls trip left c.loop-trip.invariant.rest));
      within = omega (arith, fits, len, length-drop start calls, c.loop-trip.invariant.within);
    }

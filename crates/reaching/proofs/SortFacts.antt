-- Different stops that are sorted by arrival, and then by number.
use Rattle.std.proofs.Common.{◌≡◌, ℕ, ◌<◌, true, false, List, length, map, get_or, arith, sym, ◌∙◌, inl, inr, IsPermutation, IsSortedByKey}
use Rattle.std.specs.Prelude.{eqb, nat_eq, nat_lt}
use Rattle.std.specs.Cmp.{IsTotalOrder}
use Rattle.std.specs.List.{AllPairs, IsDistinct}
use Rattle.std.specs.Ordering.{is_lt, nat_cmp, ordering_then}
use Rattle.std.specs.declared.cmp.Ordering.{Ordering}
use Rattle.std.proofs.lemmas.Bool.{cases_order, eq-eqb, eqb-false, le-ltb, lt-ltb, ne_eqb}
use Rattle.std.proofs.lemmas.Bool.Decides.{eqb_tells}
use Rattle.std.proofs.lemmas.Cmp.{nat_cmp_total, on_total, then_total}
use Rattle.std.proofs.lemmas.List.{get_or-map, length-map}
use Rattle.std.proofs.lemmas.List.Sorted.{IsPermutation-map, ranks_by, sorted_far}
use Rattle.std.proofs.lemmas.Map.Keys.{IsDistinct-IsPermutation, IsDistinct-from_apart, apart_from_distinct}
use Rattle.reaching.specs.Reached.{IsBefore}
use Rattle.reaching.specs.declared.reached.Reached.{Reached}

abbrev pub stop_in : Reached → ℕ
stop_in r = r.stop

abbrev pub key_of : Reached → ℕ × ℕ
key_of r = (r.arrival, r.stop)

abbrev pub key_cmp : ℕ × ℕ → ℕ × ℕ → Ordering
key_cmp a b = ordering_then (nat_cmp a.0 b.0) (nat_cmp a.1 b.1)

key-total : IsTotalOrder key_cmp
key-total = then_total (on_total (λ (a : ℕ × ℕ). a.0) nat_cmp_total) (on_total (λ (a : ℕ × ℕ). a.1) nat_cmp_total)

eqb-flips : (x y : ℕ) → nat_eq x y ≡ nat_eq y x
eqb-flips x y = elim (eqb_tells x y) [
  | inl e ↦ e.0 ∙ sym (eq-eqb y x (sym e.1))
  | inr n ↦ n.0 ∙ sym (ne_eqb y x (λ e. n.1 (sym e)))
]

none : Reached
none = record { stop = 0; arrival = 0; rides = 0 }

stop-at : (list : List Reached) (i d : ℕ) → i < length list → get_or (map stop_in list) i d ≡ (get_or list i none).stop
stop-at list i d lt = get_or-map stop_in list i none d lt

-- different stops stay so if they change places
stops-apart : (list sorted : List Reached) → AllPairs (λ a b. a.stop < b.stop) list → IsPermutation list sorted → (i j : ℕ) (d : Reached) → i < j → j < length sorted
    → (get_or sorted i d).stop ≡ (get_or sorted j d).stop → ⊥
stops-apart list sorted rising moved i j d ij jl same =
    let count = length-map {B = ℕ} list stop_in in
    let apart : IsDistinct eqb (map stop_in list) = IsDistinct-from_apart eqb (map stop_in list) (λ i j d ij jl.
    let lt : j < length list = omega (arith, jl, count) in
    let x = stop-at list i d (omega (arith, ij, lt)) in
    let y = stop-at list j d lt in
    let r = rising i j none ij lt in
    ne_eqb (get_or (map stop_in list) i d) (get_or (map stop_in list) j d) (λ e. absurd (omega (arith, x, y, r, e)))) in
    let still = IsDistinct-IsPermutation eqb eqb-flips (map stop_in list) (map stop_in sorted) (IsPermutation-map stop_in list sorted moved) apart in
    let x = get_or-map stop_in sorted i d d.stop (omega (arith, ij, jl)) in
    let y = get_or-map stop_in sorted j d d.stop jl in
    let no = apart_from_distinct eqb (map stop_in sorted) i j d.stop still ij (omega (arith, jl, length-map {B = ℕ} sorted stop_in)) in
    eqb-false (get_or (map stop_in sorted) i d.stop) (get_or (map stop_in sorted) j d.stop) no (x ∙ same ∙ sym y)

-- of two different stops the one whose key isn't the later comes before
comes-first : (a b : Reached) → is_lt (key_cmp (key_of b) (key_of a)) ≡ false → (a.stop ≡ b.stop → ⊥) → IsBefore a b
comes-first a b up apart = elim (cases_order a.arrival b.arrival) [
  | inr ne ↦ elim ne [
    | inl lt ↦ inl lt
    | inr gt ↦ absurd (let u : true ≡ false = rw (lt-ltb b.arrival a.arrival gt) at up in cc u)
  ]
  | inl same ↦
      let f : nat_eq b.arrival a.arrival ≡ true = eq-eqb b.arrival a.arrival (sym same) in
      let m : nat_lt b.arrival a.arrival ≡ false = le-ltb b.arrival a.arrival (omega (arith, same)) in
      elim (cases_order a.stop b.stop) [
        | inl equal ↦ absurd (apart equal)
        | inr ne ↦ elim ne [
          | inl lt ↦ inr (same, lt)
          | inr gt ↦ absurd (let u : true ≡ false = rw (m, f, lt-ltb b.stop a.stop gt) at up in cc u)
        ]
      ]
]

-- different stops that are sorted by their keys come one before the other
pub sorted-before : (list sorted : List Reached) → AllPairs (λ a b. a.stop < b.stop) list → IsPermutation list sorted → IsSortedByKey key_of key_cmp sorted → AllPairs IsBefore sorted
sorted-before list sorted rising moved up = λ i j d ij jl.
    comes-first (get_or sorted i d) (get_or sorted j d)
    (sorted_far (λ x y. is_lt (key_cmp (key_of x) (key_of y))) (ranks_by key-total key_of) sorted up i j d (omega arith) jl)
    (stops-apart list sorted rising moved i j d ij jl)

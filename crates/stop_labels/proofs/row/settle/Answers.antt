use Rattle.std.proofs.Common.{◌≡◌, ◌<◌, ◌+◌, ◌⊎◌, ℕ, Option, List, None, length, get_or, slice_set, arith, sym, ◌∙◌, ap, subst, inl, inr}
use Rattle.std.specs.List.{Contains}
use Rattle.std.proofs.lemmas.Bool.{cases_eq}
use Rattle.std.proofs.lemmas.List.{get_or-set_same, get_or-set_other}
use Rattle.stop_labels.specs.Mark.{Mark, at, arrival_of}
use Rattle.stop_labels.specs.Row.{when}
use Rattle.stop_labels.proofs.Listed.{SeenIn, seen_next}
use Rattle.stop_labels.proofs.row.settle.Goals as goal

-- the stop that is settled now
inside : (labels : List (Option Mark)) (listed : List ℕ) (n stop number : ℕ) → ((p : ℕ) → Contains listed p → p < length labels)
    → n < length listed → stop ≡ get_or listed n stop → number ≡ stop → number < length labels
inside labels listed n stop number known lt is same = subst (λ k. k < length labels) (sym same) (known stop (n, lt, sym is))

pub bounds-settled-number : goal.bounds-settled-number
bounds-settled-number c =
    let lt = inside c.args.labels.now c.args.listed.now c.loop-stop.stop-index c.stop-item.result c.number-in-loop-stop.result c.requires.known c.loop-stop-test.true c.stop-item.is c.number-in-loop-stop.ensures.value in
    omega (arith, lt)

-- one more is settled
settled_more : (labels : List (Option Mark)) (listed : List ℕ) (old settled : List (Option ℕ)) (n stop : ℕ) (moment : Option ℕ) → n < length listed → stop ≡ get_or listed n stop
    → stop < length settled → moment ≡ arrival_of (at labels stop)
    → ((p : ℕ) → (when settled p ≡ arrival_of (at labels p)) ⊎ (¬ SeenIn listed n p × (when settled p ≡ when old p)))
    → (p : ℕ) → (when (slice_set settled stop moment) p ≡ arrival_of (at labels p)) ⊎ (¬ SeenIn listed (n + 1) p × (when (slice_set settled stop moment) p ≡ when old p))
settled_more labels listed old settled n stop moment lt is in' here inv p = elim (cases_eq p stop) [
  | inl e ↦ inl (subst (λ k. when (slice_set settled stop moment) k ≡ arrival_of (at labels k)) (sym e) (get_or-set_same settled stop moment None in' ∙ here))
  | inr ne ↦ elim (inv p) [
    | inl done ↦ inl (get_or-set_other settled stop p moment None ne ∙ done)
    | inr was ↦ inr (
      λ seen. elim (seen_next listed n stop p lt is seen) [ inl before ↦ was.0 before | inr now ↦ ne now ],
      get_or-set_other settled stop p moment None ne ∙ was.1,
    )
  ]
]

pub loop-stop-preserved : goal.loop-stop-preserved
loop-stop-preserved c =
    let labels = c.args.labels.now in
    let listed = c.args.listed.now in
    let stop = c.stop-item.result in
    let a = c.number.ensures.value in
    let b = c.number-in-loop-stop.ensures.value in
    let known = inside labels listed c.loop-stop.stop-index stop c.number.result c.requires.known c.loop-stop-test.true c.stop-item.is a in
    rw (b, c.of.ensures) (settled_more labels listed c.args.settled.now c.loop-stop.settled c.loop-stop.stop-index stop c.arrival.result c.loop-stop-test.true c.stop-item.is
    (let k = subst (λ k. k < length labels) a known in let z : stop < length c.loop-stop.settled = omega (arith, k) in z)
    (c.arrival.ensures.value ∙ ap (λ k. arrival_of (at labels k)) a) c.loop-stop.invariant)

use Rattle.std.proofs.Common.{◌≡◌, ◌<◌, ◌≤◌, ◌+◌, ℕ, suc, length, get_or, slice_set, arith, add-one, sym, ◌∙◌, ap, subst, inl, inr}
use Rattle.std.proofs.lemmas.Bool.{cases_eq}
use Rattle.std.proofs.lemmas.List.{length-set, get_or-set_same, get_or-set_other}
use Rattle.timetable.specs.declared.parts.TheConstants.{LATEST_MOMENT}
use Rattle.timetable.specs.Table.{stops_of}
use Rattle.timetable.specs.Journeys.{foot}
use Rattle.rounds.specs.Mark.{AllEarly, AllShort}
use Rattle.stop_labels.specs.Row.{RowData, arrivals_of, settled_of}
use Rattle.rounds.specs.Serving.{Served}
use Rattle.rounds.specs.declared.layer.Layer.{Layer}
use Rattle.rounds.specs.Layers.{IsBegunNext, IsSized, Stepped, Ridden, no_layer, no_row, layer_at, round_at}
use Rattle.rounds.proofs.MarkSteps.{rode_early}
use Rattle.rounds.proofs.KeptSteps.{rides_early, ready_short}
use Rattle.rounds.proofs.DoneSteps.{done_next, known_served}
use Rattle.rounds.proofs.LayerLists.{read_at, second_read, round_read, part_set}
use Rattle.rounds.proofs.scratch.ride_from.Goals as goal

pub known-requires : goal.known-requires
known-requires c = (let z = c.split_at_mut-front.ensures.front_len in omega (arith, z))

pub ride_on-requires-clause-short : goal.ride_on-requires-clause-short
ride_on-requires-clause-short c =
    let n = c.args.index in
    let layers = c.args.layers.now in
    let is = c.requires.done in
    let low : n < length layers = (let z = is.sizes in let i = c.requires.index in omega (arith, z, i)) in
    let under = c.index-front-index.is ∙ (c.split_at_mut-front.ensures.by_index.0 n c.index-front-index.result (omega arith) ∙ read_at layers n c.index-front-index.result low) in
    subst (λ (y : Layer). AllShort 7 y.ready.marks) (sym under)
    (ready_short c.args.table.now c.args.start.now.source c.args.start.now.depart n (layer_at layers n).ready.marks (omega (arith, c.requires.few)) (is.done n (let k : n ≤ n = omega arith in k)).readies)

pub ride_on-requires-clause-early : goal.ride_on-requires-clause-early
ride_on-requires-clause-early c =
    let n = c.args.index in
    let layers = c.args.layers.now in
    let is = c.requires.done in
    let low : n < length layers = (let z = is.sizes in let i = c.requires.index in omega (arith, z, i)) in
    let under = c.index-front-index.is ∙ (c.split_at_mut-front.ensures.by_index.0 n c.index-front-index.result (omega arith) ∙ read_at layers n c.index-front-index.result low) in
    subst (λ (y : Layer). AllEarly LATEST_MOMENT y.rode.marks) (sym under)
    (rode_early c.args.table.now c.args.start.now.source c.args.start.now.depart n (layer_at layers n).rode.marks c.requires.valid (is.done n (let k : n ≤ n = omega arith in k)).rides)

pub ride_on-requires-clause-rode : goal.ride_on-requires-clause-rode
ride_on-requires-clause-rode c =
    let n = c.args.index in
    let layers = c.args.layers.now in
    let is = c.requires.done in
    let in' : suc n < length layers = (let z = is.sizes in let i = c.requires.index in omega (arith, z, i)) in
    let here = second_read layers c.split_at_mut-front.result.1.now n c.index-back-0.result (c.split_at_mut-front.ensures.by_index.1 0 c.index-back-0.result) in' in
    subst (λ (y : Layer). AllEarly LATEST_MOMENT y.rode.marks) (sym here)
    (rides_early c.args.table.now c.args.start.now.source c.args.start.now.depart (suc n) (layer_at layers (suc n)).rode.marks c.requires.valid (is.begun (suc n) (let k : n < suc n = omega arith in k) in').rides)

pub ride_on-requires-clause-next : goal.ride_on-requires-clause-next
ride_on-requires-clause-next c =
    let n = c.args.index in
    let T = c.args.table.now in
    let layers = c.args.layers.now in
    let is = c.requires.done in
    let in' : suc n < length layers = (let z = is.sizes in let i = c.requires.index in omega (arith, z, i)) in
    let low : n < length layers = omega (arith, in') in
    let under = c.index-front-index.is ∙ (c.split_at_mut-front.ensures.by_index.0 n c.index-front-index.result (omega arith) ∙ read_at layers n c.index-front-index.result low) in
    let here = second_read layers c.split_at_mut-front.result.1.now n c.index-back-0.result (c.split_at_mut-front.ensures.by_index.1 0 c.index-back-0.result) in' in
    subst (λ (y : Layer). IsBegunNext T y (get_or c.split_at_mut-front.result.1.now 0 c.index-back-0.result)) (sym under)
    (subst (λ (y : Layer). IsBegunNext T (layer_at layers n) y) (sym here) (is.later n (let k : n ≤ n = omega arith in k) c.requires.index))

pub ride_on-requires-clause-served : goal.ride_on-requires-clause-served
ride_on-requires-clause-served c =
    let n = c.args.index in
    let T = c.args.table.now in
    let layers = c.args.layers.now in
    let front = c.split_at_mut-front.result.0.now in
    let is = c.requires.done in
    let low : n < length layers = (let z = is.sizes in let i = c.requires.index in omega (arith, z, i)) in
    let under = c.index-front-index.is ∙ (c.split_at_mut-front.ensures.by_index.0 n c.index-front-index.result (omega arith) ∙ read_at layers n c.index-front-index.result low) in
    let same : (r : ℕ) → r < n + 1 → layer_at front r ≡ layer_at layers r = λ r lt. c.split_at_mut-front.ensures.by_index.0 r no_layer lt in
    subst (λ (y : Layer). Served T (arrivals_of c.known.result.now) y.rode.marks) (sym under)
    (known_served T c.args.start.now.source c.args.start.now.depart n layers c.args.rounds.now c.known.result.now is
    (λ e. c.known.ensures.first e ∙ ap (λ (y : Layer). y.rode) (same 0 (omega (arith, e))))
    (λ r e. c.known.ensures.later r e ∙ ap (λ (y : Layer). y.ready) (same r (omega (arith, e))))).0

pub returns-clause-rode : goal.returns-clause-rode
returns-clause-rode c =
    let T = c.args.table.now in
    let n = c.args.index in
    let layers = c.args.layers.now in
    let rounds = c.args.rounds.now in
    let front = c.split_at_mut-front.result.0.now in
    let back = c.split_at_mut-front.result.1.now in
    let x = c.ride_on.new.after in
    let round = c.ride_on.new.round in
    let is = c.requires.done in
    let lt = c.requires.index in
    let in' : suc n < length layers = (let z = is.sizes in omega (arith, z, lt)) in
    let low : n < length layers = omega (arith, in') in
    let under = c.index-front-index.is ∙ (c.split_at_mut-front.ensures.by_index.0 n c.index-front-index.result (omega arith) ∙ read_at layers n c.index-front-index.result low) in
    let here = second_read layers back n c.index-back-0.result (c.split_at_mut-front.ensures.by_index.1 0 c.index-back-0.result) in' in
    let ends = round_read rounds n c.index-rounds-index.result lt in
    let parts = part_set layers front back n x c.split_at_mut-front.ensures.value c.split_at_mut-front.ensures.front_len in
    let ridden : Ridden T c.index-front-index.result (get_or back 0 c.index-back-0.result) x (get_or rounds n c.index-rounds-index.result) round = c.ride_on.ensures.ridden in
    let ridden' : Ridden T (layer_at layers n) (layer_at layers (suc n)) x (round_at rounds n) round =
    subst (λ (y : Layer). Ridden T y (layer_at layers (suc n)) x (round_at rounds n) round) under
    (subst (λ (y : Layer). Ridden T c.index-front-index.result y x (round_at rounds n) round) here
    (subst (λ (z : RowData). Ridden T c.index-front-index.result (get_or back 0 c.index-back-0.result) x z round) ends ridden)) in
    rw (parts, add-one) (done_next T c.args.start.now.source c.args.start.now.depart n layers (slice_set layers (suc n) x) rounds (slice_set rounds n round) x round c.requires.valid
    (length-set layers (suc n) x) (length-set rounds n round) lt
    (λ r ne. get_or-set_other layers (suc n) r x no_layer ne)
    (get_or-set_same layers (suc n) x no_layer in')
    (λ r ne. get_or-set_other rounds n r round no_row ne)
    (get_or-set_same rounds n round no_row lt)
    ridden' is)

pub ride_on-requires-clause-known : goal.ride_on-requires-clause-known
ride_on-requires-clause-known c =
    let n = c.args.index in
    let layers = c.args.layers.now in
    let front = c.split_at_mut-front.result.0.now in
    let same : (r : ℕ) → r < n + 1 → layer_at front r ≡ layer_at layers r = λ r lt. c.split_at_mut-front.ensures.by_index.0 r no_layer lt in
    (known_served c.args.table.now c.args.start.now.source c.args.start.now.depart n layers c.args.rounds.now c.known.result.now c.requires.done
    (λ e. c.known.ensures.first e ∙ ap (λ (y : Layer). y.rode) (same 0 (omega (arith, e))))
    (λ r e. c.known.ensures.later r e ∙ ap (λ (y : Layer). y.ready) (same r (omega (arith, e))))).1

pub ride_on-requires-clause-before : goal.ride_on-requires-clause-before
ride_on-requires-clause-before c =
    let n = c.args.index in
    let layers = c.args.layers.now in
    let is = c.requires.done in
    let low : n < length layers = (let z = is.sizes in let i = c.requires.index in omega (arith, z, i)) in
    let under = c.index-front-index.is ∙ (c.split_at_mut-front.ensures.by_index.0 n c.index-front-index.result (omega arith) ∙ read_at layers n c.index-front-index.result low) in
    subst (λ (y : Layer). IsSized (stops_of c.args.table.now) y) (sym under) (is.done n (let k : n ≤ n = omega arith in k)).sized

pub ride_on-requires-clause-after : goal.ride_on-requires-clause-after
ride_on-requires-clause-after c =
    let n = c.args.index in
    let layers = c.args.layers.now in
    let is = c.requires.done in
    let in' : suc n < length layers = (let z = is.sizes in let i = c.requires.index in omega (arith, z, i)) in
    let here = second_read layers c.split_at_mut-front.result.1.now n c.index-back-0.result (c.split_at_mut-front.ensures.by_index.1 0 c.index-back-0.result) in' in
    subst (λ (y : Layer). IsSized (stops_of c.args.table.now) y) (sym here) (is.begun (suc n) (let k : n < suc n = omega arith in k) in').sized

pub ride_on-requires-clause-round : goal.ride_on-requires-clause-round
ride_on-requires-clause-round c =
    let n = c.args.index in
    ap (λ (row : RowData). length row.marks) (round_read c.args.rounds.now n c.index-rounds-index.result c.requires.index)
    ∙ (c.requires.done.ends n (let k : n ≤ n = omega arith in k) c.requires.index).size

pub ride_on-requires-clause-walked : goal.ride_on-requires-clause-walked
ride_on-requires-clause-walked c =
    let n = c.args.index in
    let layers = c.args.layers.now in
    let is = c.requires.done in
    let in' : suc n < length layers = (let z = is.sizes in let i = c.requires.index in omega (arith, z, i)) in
    let here = second_read layers c.split_at_mut-front.result.1.now n c.index-back-0.result (c.split_at_mut-front.ensures.by_index.1 0 c.index-back-0.result) in' in
    let ends = round_read c.args.rounds.now n c.index-rounds-index.result c.requires.index in
    subst (λ (y : Layer). Stepped (foot c.args.table.now) (settled_of y.rode) (get_or c.args.rounds.now n c.index-rounds-index.result).marks) (sym here)
    (subst (λ (row : RowData). Stepped (foot c.args.table.now) (settled_of (layer_at layers (suc n)).rode) row.marks) (sym ends)
    (is.ends n (let k : n ≤ n = omega arith in k) c.requires.index).walked)

pub returns-clause-settled : goal.returns-clause-settled
returns-clause-settled c = λ r.
    let n = c.args.index in
    let rounds = c.args.rounds.now in
    let round = c.ride_on.new.round in
    elim (cases_eq r n) [
      | inl e ↦ subst (λ k. (round_at (slice_set rounds n round) k).settled ≡ (round_at rounds k).settled) (sym e)
          (ap (λ (row : RowData). row.settled) (get_or-set_same rounds n round no_row c.requires.index)
          ∙ (c.ride_on.ensures.ridden.ended.settled ∙ ap (λ (row : RowData). row.settled) (round_read rounds n c.index-rounds-index.result c.requires.index)))
      | inr ne ↦ ap (λ (row : RowData). row.settled) (get_or-set_other rounds n r round no_row ne)
    ]

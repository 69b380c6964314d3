use Rattle.std.proofs.Common.{◌≡◌, ◌<◌, ◌++◌, ◌∷◌, [], ℕ, Option, Some, List, slice_set, vec_capacity, length, get_or, arith, sym, ◌∙◌, ap, subst, true≢false}
use Rattle.timetable.specs.Front.{IsSooner}
use Rattle.std.proofs.lemmas.List.{get_or_default}
use Rattle.stop_labels.specs.Mark.{Mark, at, By, arrival_of, moved}
use Rattle.stop_labels.specs.Row.{RowData, IsRow, when}
use Rattle.stop_labels.proofs.RowSteps.{has_room, put_new, put_again}
use Rattle.stop_labels.proofs.row.Row.put.Goals as goal
use Rattle.stop_labels.proofs.row.Row.put.Goals.{then-not-is_sooner, else-not-is_sooner}

-- what was read of a stop
sooner_read : (marks : List (Option Mark)) (settled : List (Option ℕ)) (n : ℕ) (a b : Option ℕ) → n < length marks → length settled ≡ length marks
    → a ≡ arrival_of (at marks n) → b ≡ get_or settled n b → (IsSooner (arrival_of (at marks n)) (when settled n) → IsSooner a b)
    × (IsSooner a b → IsSooner (arrival_of (at marks n)) (when settled n))
sooner_read marks settled n a b lt size e f =
    let same : when settled n ≡ b = get_or_default settled n _ b (let k : n < length settled = omega (arith, lt, size) in k) ∙ sym f in (
      λ h. subst (λ (o : Option ℕ). IsSooner o b) (sym e) (subst (λ (o : Option ℕ). IsSooner (arrival_of (at marks n)) o) same h),
      λ h. subst (λ (o : Option ℕ). IsSooner o (when settled n)) e (subst (λ (o : Option ℕ). IsSooner a o) (sym same) h),
    )

-- the stop is one of the row
within : (row : RowData) (marks : List (Option Mark)) (stop n : ℕ) → n ≡ stop → marks ≡ row.marks → stop < length row.marks → n < length marks
within row marks stop n e f lt = subst (λ k. k < length marks) (sym e) (subst (λ (ms : List (Option Mark)). stop < length ms) (sym f) lt)

no_sooner : (row : RowData) (marks : List (Option Mark)) (stop n a : ℕ) → n ≡ stop → marks ≡ row.marks → (By (at row.marks stop) a → ⊥) → By (at marks n) a → ⊥
no_sooner row marks stop n a e f none h = none (subst (λ k. By (at row.marks k) a) e (subst (λ (ms : List (Option Mark)). By (at ms n) a) f h))

pub list-requires : goal.list-requires
list-requires c =
    let i = c.self.inside in
    let n = c.number-number.result in
    let is = c.self.invariant in
    let known = within c.args.self.now i.labels c.args.stop n c.number-number.ensures.value (ap (λ (x : RowData). x.marks) c.self.view_is) c.requires.known in
    let room = has_room i.labels i.settled.items i.lowered.items _ n is known
    (λ h. true≢false (sym (c.is_sooner.ensures.1 ((sooner_read i.labels i.settled.items n _ _ known is.size c.moment.ensures c.index.ensures).0 h)) ∙ c.if-not-is_sooner.true)) in
    let len = i.lowered.ok.0 in
    omega (arith, room, len)

pub invariant_of-self : goal.invariant_of-self
invariant_of-self c =
    let i = c.self.inside in
    let n = c.number-number.result in
    let is = c.self.invariant in
    let marks = ap (λ (x : RowData). x.marks) c.self.view_is in
    let known = within c.args.self.now i.labels c.args.stop n c.number-number.ensures.value marks c.requires.known in
    let none = no_sooner c.args.self.now i.labels c.args.stop n c.args.arrival c.number-number.ensures.value marks c.requires.sooner in
    elim c.if-not-is_sooner.branch [
      | then-not-is_sooner w ↦
          let here = λ (h : IsSooner (arrival_of (at i.labels n)) (when i.settled.items n)). true≢false (sym (c.is_sooner.ensures.1 ((sooner_read i.labels i.settled.items n _ _ known is.size c.moment.ensures c.index.ensures).0 h)) ∙ w.if-not-is_sooner.true) in
          rw (c.put.ensures, w.self-inside-is, w.list.ensures.items)
          (subst (λ k. IsRow (slice_set i.labels n (Some (moved c.args.label.now c.args.arrival c.args.ride))) i.settled.items (i.lowered.items ++ k ∷ []) (vec_capacity w.list.new.listed)) c.number-number.ensures.value
          (put_new i.labels i.settled.items i.lowered.items _ n is known here _ (moved c.args.label.now c.args.arrival c.args.ride) w.list.ensures.room none))
      | else-not-is_sooner w ↦
          rw (c.put.ensures, w.self-inside-is) (put_again i.labels i.settled.items i.lowered.items _ n (moved c.args.label.now c.args.arrival c.args.ride) is known none
          ((sooner_read i.labels i.settled.items n _ _ known is.size c.moment.ensures c.index.ensures).1 (c.is_sooner.ensures.0 w.if-not-is_sooner.false)))
    ]

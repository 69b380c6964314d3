use Rattle.std.proofs.Common.{Option, None, ℕ, List, inl, inr, ◌≡◌, ◌+◌, ◌<◌, ◌≤◌, IsTrue, IsSomeAnd, Some, slice_get, length, get_or, arith, refl, sym, ◌∙◌, ap, subst, true≢false}
use Rattle.std.proofs.lemmas.Option.{same_Some, slice_get_within}
use Rattle.lines.specs.declared.line.Halt.{Halt}
use Rattle.lines.specs.declared.line.Times.{Times}
use Rattle.lines.specs.Lines.{column}
use Rattle.stop_events.specs.Events.{Gathered}
use Rattle.stop_events.proofs.MemberFacts.{halt_read, column_long}
use Rattle.stop_events.proofs.EventSteps.{SeenMembers, gathered_past, gathered_more, gathered_members, gathered_closed}
use Rattle.stop_events.proofs.events.gather.Goals as goal
use Rattle.stop_events.proofs.events.gather.Goals.{then-seconds-times+in_ok-push, else-seconds-times, else-halts-position-via-then-halts-position+else-position-last_alighting, else-halts-position-via-else-halts-position}

pub loop-times-preserved : goal.loop-times-preserved
loop-times-preserved c = λ s halt is way.
    let T = c.args.table.now in
    let L = c.args.line.now in
    let position = c.args.position in
    let k = c.loop-times.times-index in
    let items = c.times_at-times-items.result.now in
    let d : Times = record { arrival = 0; departure = 0 } in
    let t : Times = get_or items k d in
    let long = column_long T L position c.requires.line c.requires.position in
    let size = ap (length {A = Times}) c.times_at-times-items.ensures.value in
    let in' : k < length L.members = omega (arith, long, size, c.loop-times-test.true) in
    let time : t ≡ get_or (column L position) k d = ap (λ (ts : List Times). get_or ts k d) c.times_at-times-items.ensures.value in
    let same : halt ≡ c.index-halts-position.result =
    same_Some halt c.index-halts-position.result (sym is ∙ halt_read L.halts c.halts-halts.result.now position c.index-halts-position.result c.halts-halts.ensures.value
    (let e = ap (length {A = Halt}) c.halts-halts.ensures.value in let z = c.requires.position in let h : position < length c.halts-halts.result.now = omega (arith, e, z) in h) c.index-halts-position.is) in
    let may : IsTrue halt.board = ap (λ (h : Halt). h.board) (same ∙ c.index-halts-position.is) ∙ c.if-halts-position.true in
    let last = c.last_alighting.result in
    let before = c.if-position-last_alighting.true in
    let alights : IsSomeAnd (slice_get L.halts last) (λ h. IsTrue h.alight) = elim c.last_alighting.ensures.alights [
      | inl none ↦ absurd (let z = before in omega (arith, none, z))
      | inr some ↦ subst (λ (hs : List Halt). IsSomeAnd (slice_get hs last) (λ h. IsTrue h.alight)) c.halts-halts.ensures.value some
    ] in
    elim c.if-seconds-times.branch [
      | then-seconds-times+in_ok-push w ↦
          rw w.moments-is (subst (λ new. Gathered T s (SeenMembers L position (k + 1)) c.args.moments.now.items new) (sym w.in_ok-push.ensures.items)
          (gathered_more T s c.args.seconds position L halt c.requires.valid c.requires.line is way k last t d c.args.moments.now.items c.loop-times.moments.items in' time
          w.if-seconds-times.true may before alights (c.loop-times.invariant s halt is way)))
      | else-seconds-times w ↦
          rw w.moments-is (gathered_past T s c.args.seconds position L halt c.requires.valid c.requires.line is way k t d c.args.moments.now.items c.loop-times.moments.items in' time
          w.if-seconds-times.false (c.loop-times.invariant s halt is way))
    ]

pub returns-after-loop-times : goal.returns-after-loop-times
returns-after-loop-times c = λ s halt is way.
    let T = c.args.table.now in
    let L = c.args.line.now in
    let long = column_long T L c.args.position c.requires.line c.requires.position in
    let size = ap (length {A = Times}) c.times_at-times-items.ensures.value in
    gathered_members T s c.args.seconds c.args.position L halt c.requires.valid c.requires.line is way c.loop-times.times-index c.args.moments.now.items c.loop-times.moments.items
    (let k : length L.members ≤ c.loop-times.times-index = omega (arith, long, size, c.loop-times-test.false) in k) (c.loop-times.invariant s halt is way)

pub returns-else-halts-position : goal.returns-else-halts-position
returns-else-halts-position c = λ s halt is way.
    let T = c.args.table.now in
    let L = c.args.line.now in
    let position = c.args.position in
    let same : halt ≡ c.index-halts-position.result =
    same_Some halt c.index-halts-position.result (sym is ∙ halt_read L.halts c.halts-halts.result.now position c.index-halts-position.result c.halts-halts.ensures.value
    (let e = ap (length {A = Halt}) c.halts-halts.ensures.value in let z = c.requires.position in let h : position < length c.halts-halts.result.now = omega (arith, e, z) in h) c.index-halts-position.is) in
    elim c.else-halts-position.branch [
      | else-halts-position-via-then-halts-position+else-position-last_alighting w ↦
          gathered_closed T s c.args.seconds position L halt c.requires.valid c.requires.line is way w.last_alighting.result c.args.moments.now.items
          (λ k some. w.last_alighting.ensures.last k (subst (λ (hs : List Halt). IsSomeAnd (slice_get hs k) (λ h. IsTrue h.alight)) (sym c.halts-halts.ensures.value) some))
          (λ may before. (let late = w.if-position-last_alighting.false in let b : ⊥ = omega (arith, late, before) in b))
      | else-halts-position-via-else-halts-position w ↦
          gathered_closed T s c.args.seconds position L halt c.requires.valid c.requires.line is way (length L.halts) c.args.moments.now.items
          (λ k some. within (slice_get L.halts k) k L.halts refl some)
          (λ may before. true≢false (sym may ∙ (ap (λ (h : Halt). h.board) (same ∙ c.index-halts-position.is) ∙ w.if-halts-position.false)))
    ] where
      within : (o : Option Halt) (k : ℕ) (hs : List Halt) → slice_get hs k ≡ o → IsSomeAnd o (λ h. IsTrue h.alight) → k ≤ length hs
      within None k hs e h = absurd h
      within (Some x) k hs e h = let lt = slice_get_within hs k x e in omega (arith, lt)

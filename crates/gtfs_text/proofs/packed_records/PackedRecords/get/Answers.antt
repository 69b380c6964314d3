use Rattle.std.proofs.Common.{◌≡◌, ℕ, zero, suc, List, [], ◌-◌, ◌<◌, length, get_or, take, drop, refl, sym, ◌∙◌, ap, arith}
use Rattle.std.proofs.lemmas.List.{get_or_past}
use Rattle.gtfs_text.proofs.PieceFacts.{begin_at, pieces_count, begins_first, begins_after, piece_at, ends_at}
use Rattle.gtfs_text.proofs.packed_records.PackedRecords.get.Goals as goal
use Rattle.gtfs_text.proofs.packed_records.PackedRecords.get.Goals.{then-number-eq0, else-number-eq0}

-- where the piece of a number begins: the first at 0, and each other one at the end before it
begins_zero : (ends : List ℕ) (number start : ℕ) → number ≡ 0 → start ≡ 0 → start ≡ begin_at 0 ends number
begins_zero ends number start e f = f ∙ (sym (begins_first 0 ends) ∙ ap (begin_at 0 ends) (sym e))

begins_later : (ends : List ℕ) (number start read : ℕ) → (number ≡ 0 → ⊥) → number < length ends → start ≡ read → read ≡ get_or ends (number - 1) read
    → start ≡ begin_at 0 ends number
begins_later ends zero start read some h e is = absurd (some refl)
begins_later ends (suc k) start read some h e is =
    let less : suc k - 1 ≡ k = omega arith in
    e ∙ (is ∙ (ap (λ n. get_or ends n read) less ∙ sym (begins_after 0 ends k read h)))

pub returns-then-number-len : goal.returns-then-number-len
returns-then-number-len c =
    let i = c.self.inside in
    let held = i.ends.ok.0 in
    let count = pieces_count 0 i.text.items i.ends.items in
    let same = ap (length {A = List ℕ}) c.self.view_is in
    sym (get_or_past c.args.self.now c.args.number [] (omega (arith, held, count, same, c.len.ensures, c.if-number-len.true)))

pub part-requires-clause-order : goal.part-requires-clause-order
part-requires-clause-order c =
    let i = c.self.inside in
    let held = i.ends.ok.0 in
    let within : c.args.number < length i.ends.items = omega (arith, held, c.len.ensures, c.if-number-len.false) in
    let begins : c.if-number-eq0.start ≡ begin_at 0 i.ends.items c.args.number = elim c.if-number-eq0.branch [
      | then-number-eq0 w ↦ begins_zero i.ends.items c.args.number c.if-number-eq0.start w.if-number-eq0.true w.start-is
      | else-number-eq0 w ↦ begins_later i.ends.items c.args.number c.if-number-eq0.start _ w.if-number-eq0.false within w.start-is w.index.ensures
    ] in
    let piece = ends_at 0 (length i.text.items) i.ends.items c.args.number c.index-2.result.now c.self.invariant within in
    let low = piece.0 in
    omega (arith, begins, low, c.index-2.ensures)

pub part-requires-clause-within : goal.part-requires-clause-within
part-requires-clause-within c =
    let i = c.self.inside in
    let held = i.ends.ok.0 in
    let within : c.args.number < length i.ends.items = omega (arith, held, c.len.ensures, c.if-number-len.false) in
    let piece = ends_at 0 (length i.text.items) i.ends.items c.args.number c.index-2.result.now c.self.invariant within in
    let high = piece.1 in
    let text = ap (length {A = ℕ}) c.deref.ensures.value in
    omega (arith, high, text, c.index-2.ensures)

pub returns : goal.returns
returns c =
    let i = c.self.inside in
    let held = i.ends.ok.0 in
    let within : c.args.number < length i.ends.items = omega (arith, held, c.len.ensures, c.if-number-len.false) in
    let begins : c.if-number-eq0.start ≡ begin_at 0 i.ends.items c.args.number = elim c.if-number-eq0.branch [
      | then-number-eq0 w ↦ begins_zero i.ends.items c.args.number c.if-number-eq0.start w.if-number-eq0.true w.start-is
      | else-number-eq0 w ↦ begins_later i.ends.items c.args.number c.if-number-eq0.start _ w.if-number-eq0.false within w.start-is w.index.ensures
    ] in
    c.part.ensures
    ∙ (ap (λ (t : List ℕ). take (c.index-2.result.now - c.if-number-eq0.start) (drop c.if-number-eq0.start t)) c.deref.ensures.value
    ∙ (ap (λ k. take (c.index-2.result.now - k) (drop k i.text.items)) begins
    ∙ (ap (λ k. take (k - begin_at 0 i.ends.items c.args.number) (drop (begin_at 0 i.ends.items c.args.number) i.text.items)) c.index-2.ensures
    ∙ (sym (piece_at 0 i.text.items i.ends.items c.args.number c.index-2.result.now within)
    ∙ ap (λ (pieces : List (List ℕ)). get_or pieces c.args.number []) c.self.view_is))))

use Rattle.std.proofs.Common.{◌≡◌, ℕ, List, [], ◌∷◌, ◌++◌, ◌+◌, length, ◌∙◌, ap, arith}
use Rattle.gtfs_text.proofs.PieceFacts.{pieces_more, ends_more}
use Rattle.gtfs_text.proofs.packed_records.PackedRecords.push.Goals as goal

-- the record ends where the text then ends
at_end : (ends now : List ℕ) (a b size : ℕ) → a ≡ size → now ≡ ends ++ (a + b) ∷ [] → now ≡ ends ++ (size + b) ∷ []
at_end ends now a b size e is = is ∙ ap (λ k. ends ++ (k + b) ∷ []) e

pub invariant_of-self-in-Ok : goal.invariant_of-self-in-Ok
invariant_of-self-in-Ok c =
    let i = c.self.inside in
    let held = i.text.ok.0 in
    let size : c.len.result ≡ length i.text.items = omega (arith, held, c.len.ensures) in
    let ends = at_end i.ends.items c.push.new.self.items c.len.result (length c.args.record.now) (length i.text.items) size c.in_ok-push.ensures.items in
    rw (c.in-Ok.ensures.items, ends) (ends_more 0 i.text.items c.args.record.now i.ends.items c.self.invariant)

pub returns-in-Ok-clause-added : goal.returns-in-Ok-clause-added
returns-in-Ok-clause-added c =
    let i = c.self.inside in
    let held = i.text.ok.0 in
    let size : c.len.result ≡ length i.text.items = omega (arith, held, c.len.ensures) in
    let ends = at_end i.ends.items c.push.new.self.items c.len.result (length c.args.record.now) (length i.text.items) size c.in_ok-push.ensures.items in
    rw (c.in-Ok.ensures.items, ends) (pieces_more 0 i.text.items c.args.record.now i.ends.items c.self.invariant
    ∙ ap (λ (records : List (List ℕ)). records ++ c.args.record.now ∷ []) c.self.view_is)

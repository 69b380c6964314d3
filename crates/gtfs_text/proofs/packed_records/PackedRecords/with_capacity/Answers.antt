use Rattle.std.proofs.Common.{◌≡◌, ℕ, List, [], length, refl, sym, ap, subst}
use Rattle.gtfs_text.specs.Packed.{pieces, AreEnds}
use Rattle.gtfs_text.proofs.packed_records.PackedRecords.with_capacity.Goals as goal

-- no record: no text, and no end
none_end : (text ends : List ℕ) → text ≡ [] → ends ≡ [] → AreEnds 0 ends (length text)
unfolding AreEnds
none_end text ends e f = subst (λ t. AreEnds 0 ends (length t)) (sym e) (subst (λ es. AreEnds 0 es 0) (sym f) refl)

none : (text ends : List ℕ) → ends ≡ [] → pieces 0 text ends ≡ []
unfolding pieces
none text ends f = ap (pieces 0 text) f

pub invariant_of-result : goal.invariant_of-result
invariant_of-result c = none_end c.in_ok-with_capacity.field-0.items c.new.result.items c.in_ok-with_capacity.ensures.items c.new.ensures.items

pub returns : goal.returns
returns c = none c.in_ok-with_capacity.field-0.items c.new.result.items c.new.ensures.items

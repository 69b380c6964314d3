use Rattle.std.proofs.Common.{◌≡◌, ◌∙◌, ◌<◌, [], ◌∷◌, List, ℕ, length, take, map, refl, ap, sym, arith}
use Rattle.std.proofs.lemmas.Grind.{common_steps}
use Rattle.gtfs_text.specs.Lines.{between_commas}
use Rattle.gtfs_text.specs.Sheets.{without_spaces}
use Rattle.gtfs_text.proofs.PackedFacts.{unpacked_step, unpacked_none}
use Rattle.gtfs_text.proofs.RowFacts.{comma_within, cut_at_comma, cut_at_end}
use Rattle.gtfs_text.proofs.row.split_first.Goals as goal
use Rattle.gtfs_text.proofs.row.split_first.Goals.{in-Some, in-None}

pub split_at-requires : goal.split_at-requires
split_at-requires c = rw c.field_end.ensures (comma_within c.in-Line.line.now)

pub returns-then-is_empty : goal.returns-then-is_empty
returns-then-is_empty c =
    let none : length c.in-Packed.packed.now ≡ 0 = grind (arith, common_steps) in
    rw c.in-Packed.is (unpacked_none c.in-Packed.packed.now none)

pub returns-after-split_first : goal.returns-after-split_first
returns-after-split_first c =
    let line = c.in-Line.line.now in
    let rest = c.split_at.result.1.now in
    let field = c.without_spaces.result.now in
    let first : without_spaces (take c.field_end.result line) ≡ field = ap without_spaces (sym c.split_at.ensures.front) ∙ sym c.without_spaces.ensures in
    elim c.match-split_first.branch [
      | in-Some w ↦ rw (c.in-Line.is, w.after-is)
          (cut_at_comma line rest _ _ c.field_end.result c.field_end.ensures c.split_at.ensures.back w.in-Some.ensures.cases.0
          ∙ ap (λ (f : List ℕ). f ∷ map without_spaces (between_commas w.in-Some.after.now)) first)
      | in-None w ↦ rw (c.in-Line.is, w.after-is)
          (cut_at_end line rest c.field_end.result c.field_end.ensures c.split_at.ensures.back w.in-None.ensures.cases
          ∙ ap (λ (f : List ℕ). f ∷ []) first ∙ ap (λ (fs : List (List ℕ)). field ∷ fs) (sym (unpacked_none [] refl)))
    ]

pub returns-else-is_empty : goal.returns-else-is_empty
returns-else-is_empty c =
    let some : 0 < length c.in-Packed.packed.now = grind (arith, common_steps) in
    rw (c.in-Packed.is, c.split_field.ensures.field, c.split_field.ensures.rest) (unpacked_step c.in-Packed.packed.now some)

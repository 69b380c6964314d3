use Rattle.std.proofs.Common.{◌∙◌, sym, ap, refl, ℕ, Option}
use Rattle.gtfs_rows.specs.Rows.{text_under, is_empty}
use Rattle.gtfs_services.proofs.trips.row_fault.Goals as goal

pub returns-then-is_empty-2 : goal.returns-then-is_empty-2
returns-then-is_empty-2 c =
    let at = λ (column : Option ℕ). text_under c.args.sheet.now column c.args.row in
    let there = ap is_empty (sym (c.text_under.ensures ∙ ap at c.requires.columns.id)) ∙ sym c.is_empty.ensures ∙ c.if-is_empty.false in
    let new = sym c.requires.is_new ∙ c.if-not-is_new.false in
    let lacks = ap is_empty (sym (c.text_under-else-not-is_new.ensures ∙ ap at c.requires.columns.service)) ∙ sym c.is_empty-else-not-is_new.ensures ∙ c.if-is_empty-2.true in
    rw (there, new, lacks) refl

pub returns-else-is_empty-2 : goal.returns-else-is_empty-2
returns-else-is_empty-2 c =
    let at = λ (column : Option ℕ). text_under c.args.sheet.now column c.args.row in
    let there = ap is_empty (sym (c.text_under.ensures ∙ ap at c.requires.columns.id)) ∙ sym c.is_empty.ensures ∙ c.if-is_empty.false in
    let new = sym c.requires.is_new ∙ c.if-not-is_new.false in
    let has = ap is_empty (sym (c.text_under-else-not-is_new.ensures ∙ ap at c.requires.columns.service)) ∙ sym c.is_empty-else-not-is_new.ensures ∙ c.if-is_empty-2.false in
    rw (there, new, has) refl

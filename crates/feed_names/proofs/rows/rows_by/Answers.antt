use Rattle.std.proofs.Common.{◌≡◌, ◌∙◌, sym, ap, ℕ, List, ◌-◌, ◌+◌, ◌<◌, Option, Some, cond, length, arith}
use Rattle.std.specs.Str.{bytes_eq}
use Rattle.feed_names.proofs.RowFacts.{kept, passed, row_before, row_from}
use Rattle.feed_names.proofs.rows.rows_by.Goals as goal
use Rattle.feed_names.proofs.rows.rows_by.Goals.{then-contains+in_ok-insert, else-contains}

pub rows-preserved : goal.rows-preserved
rows-preserved c =
    let table = c.args.sheet.now in
    let column = c.args.column in
    let row = c.rows.row in
    let id = c.field-id.result.now in
    let down : row - 1 + 1 ≡ row = omega (arith, c.rows-test.true) in
    let below : row < length table = omega (arith, c.rows-test.true, c.rows.invariant.within) in
    record {
      within = omega (arith, c.rows.invariant.within);
      first = λ q asked. elim c.if-contains.branch [
        | then-contains+in_ok-insert w ↦
            rw w.rows-is (kept c.field-id.result c.rows.rows w.insert.new.self row w.in_ok-insert.ensures.updates q
            ∙ ap (λ (o : Option ℕ). cond (bytes_eq q id) (Some row) o) (c.rows.invariant.first q asked)
            ∙ ap (λ (t : List ℕ). cond (bytes_eq q t) (Some row) (row_from table column (row + 1) q)) c.field-id.ensures
            ∙ sym (row_before table column row q below)
            ∙ ap (λ (n : ℕ). row_from table column n q) (sym down))
        | else-contains w ↦
            rw w.rows-is (c.rows.invariant.first q asked
            ∙ passed table column row c.args.ids.now id q c.field-id.ensures below (sym (c.in_ok-asked.ensures id) ∙ sym c.contains.ensures ∙ w.if-contains.false) asked
            ∙ ap (λ (n : ℕ). row_from table column n q) (sym down))
      ];
    }

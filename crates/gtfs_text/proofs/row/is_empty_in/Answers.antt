use Rattle.std.proofs.Common.{◌≡◌, ◌∙◌, ◌+◌, ◌==◌, ◌-◌, ◌<◌, sym, arith, length, List, ℕ, true}
use Rattle.gtfs_text.specs.Rows.{fields_in}
use Rattle.gtfs_text.proofs.RowFacts.{filled_first, first_passes}
use Rattle.gtfs_text.proofs.row.is_empty_in.Goals as goal

pub columns-preserved : goal.columns-preserved
columns-preserved c =
    let empty : (length c.in-Some.field.now == 0) ≡ true = sym c.is_empty.ensures ∙ c.if-not-is_empty.false in
    let some : 0 < c.args.columns - c.columns.counter = omega (arith, c.columns-test.true) in
    let next : c.args.columns - (c.columns.counter + 1) ≡ c.args.columns - c.columns.counter - 1 = omega arith in
    rw next (first_passes (λ (field : List ℕ). length field == 0) (fields_in c.columns.rest) (fields_in c.in-Some.after) c.in-Some.field.now (c.args.columns - c.columns.counter) c.in-Some.ensures some empty ∙ c.columns.invariant)

pub returns : goal.returns
returns c =
    let first = c.begins_filled.ensures c.if-begins_filled.true in
    rw c.in-Line.is (sym (filled_first c.in-Line.line.now c.args.columns first.0 first.1 first.2 c.if-columns-gt0.true))

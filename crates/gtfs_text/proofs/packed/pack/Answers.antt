use Rattle.std.proofs.Common.{◌≡◌, ◌∙◌, ◌<◌, true, [], ◌++◌, List, ℕ, length, map, take, get_or, sym, ap, arith, Option}
use Rattle.std.specs.Prelude.{unwrap_or}
use Rattle.std.specs.Str.{is_utf8}
use Rattle.csv.specs.Records.{fields_of}
use Rattle.std.proofs.lemmas.Str.{is_utf8-from_IsUtf8}
use Rattle.gtfs_text.specs.Packed.{packed_field}
use Rattle.gtfs_text.specs.Sheets.{is_text, without_spaces}
use Rattle.gtfs_text.proofs.CellFacts.{field_is, field_reached}
use Rattle.gtfs_text.proofs.PackedFacts.{fits, fits_below, unpacked-packed, packed_more, all_more, kept_more, take_whole}
use Rattle.gtfs_text.proofs.TrimFacts.{trimmed_field}
use Rattle.gtfs_text.proofs.packed.pack.Goals as goal
use Rattle.gtfs_text.proofs.packed.pack.Goals.{in-Some+in_ok-push_field, in_default}

pub loop-column-preserved : goal.loop-column-preserved
loop-column-preserved c =
    let fields = fields_of c.args.row.now in
    let within : c.loop-column.column < length (fields_of c.args.row.now) = rw c.len-column-end.ensures at c.loop-column-test.true in
    let kept = map without_spaces (take c.loop-column.column (fields_of c.args.row.now)) in
    elim c.match-get.branch [
      | in-Some+in_ok-push_field w ↦
          let is : w.in-Some.field.now ≡ get_or (fields_of c.args.row.now) c.loop-column.column [] = ap (λ (o : Option (List ℕ)). unwrap_or o []) w.in-Some.ensures.value ∙ field_is (fields_of c.args.row.now) c.loop-column.column in
          let bytes : w.without_spaces.result.now ≡ without_spaces w.in-Some.field.now = w.without_spaces.ensures ∙ ap without_spaces w.as_bytes.ensures.value in
          let more = kept_more (fields_of c.args.row.now) c.loop-column.column w.in-Some.field.now within is in
          let text : is_utf8 (without_spaces w.in-Some.field.now) ≡ true = is_utf8-from_IsUtf8 (without_spaces w.in-Some.field.now) (trimmed_field w.in-Some.field.now (rw w.as_bytes.ensures.value at w.as_bytes.ensures.utf8)) in
          let small : fits (without_spaces w.in-Some.field.now) ≡ true = fits_below (without_spaces w.in-Some.field.now) (rw bytes at w.push_field.ensures.size) in
          let items : c.match-get.packed.items ≡ c.loop-column.packed.items ++ packed_field (without_spaces w.in-Some.field.now) = rw w.packed-is (w.in_ok-push_field.ensures.field ∙ ap (λ (xs : List ℕ). c.loop-column.packed.items ++ packed_field xs) bytes) in
          record {
            packed = rw more (items ∙ ap (λ (xs : List ℕ). xs ++ packed_field (without_spaces w.in-Some.field.now)) c.loop-column.invariant.packed ∙ sym (packed_more kept (without_spaces w.in-Some.field.now)));
            text = rw more (all_more is_utf8 kept (without_spaces w.in-Some.field.now) c.loop-column.invariant.text text);
            small = rw more (all_more fits kept (without_spaces w.in-Some.field.now) c.loop-column.invariant.small small);
          }
      | in_default w ↦ absurd (field_reached (fields_of c.args.row.now) c.loop-column.column within (sym w.in_default.ensures.value))
    ]

pub returns-clause-fields : goal.returns-clause-fields
returns-clause-fields c =
    let past : length (fields_of c.args.row.now) ≡ c.loop-column.column = omega (arith, c.len-column-end.ensures, c.loop-column-test.false, c.loop-column.auto.column-end) in
    let all = ap (map without_spaces) (take_whole (fields_of c.args.row.now) c.loop-column.column past) in
    rw c.loop-column.invariant.packed (unpacked-packed _ c.loop-column.invariant.small ∙ all)

pub returns-clause-text : goal.returns-clause-text
returns-clause-text c = rw c.loop-column.invariant.packed (ap is_text (unpacked-packed _ c.loop-column.invariant.small) ∙ c.loop-column.invariant.text)

use Rattle.std.proofs.Common.{◌≡◌, ◌≤◌, ◌+◌, true, get_or, length, sym, arith}
use Rattle.std.proofs.lemmas.List.Sums.{position_or_len_is}
use Rattle.std.proofs.lemmas.Simd.{run_in_chunk_le, run_in_chunk_stops}
use Rattle.gtfs_text.specs.Lines.{is_comma}
use Rattle.gtfs_text.proofs.RowFacts.{none_before}
use Rattle.gtfs_text.proofs.row.field_end.Goals as goal

pub returns-then-before-lt8 : goal.returns-then-before-lt8
returns-then-before-lt8 c =
    let line = c.args.line.now in
    let at = c.eights.at in
    let before = c.bytes_before_comma-before.result in
    let room : at + 8 ≤ length line = omega (arith, c.eights-test.true, c.eights.invariant.within) in
    let comma : is_comma (get_or line (at + before) 0) ≡ true =
    run_in_chunk_stops is_comma line at 8 before 0 room c.bytes_before_comma-before.ensures c.if-before-lt8.true in
    sym (position_or_len_is is_comma line (at + before) 0 (omega (arith, room, c.if-before-lt8.true))
    (none_before line at before room c.bytes_before_comma-before.ensures c.eights.invariant.before) (λ _. comma))

pub eights-preserved : goal.eights-preserved
eights-preserved c =
    let line = c.args.line.now in
    let at = c.eights.at in
    let before = c.bytes_before_comma-before.result in
    let room : at + 8 ≤ length line = omega (arith, c.eights-test.true, c.eights.invariant.within) in
    record {
      within = omega (arith, room, run_in_chunk_le is_comma line at 8 before 0 room c.bytes_before_comma-before.ensures);
      before = none_before line at before room c.bytes_before_comma-before.ensures c.eights.invariant.before;
    }

pub returns-else-line-at-ne44 : goal.returns-else-line-at-ne44
returns-else-line-at-ne44 c =
    let comma : is_comma (get_or c.args.line.now c.bytes.at 0) ≡ true = grind (arith, c.if-line-at-ne44.false) in
    sym (position_or_len_is is_comma c.args.line.now c.bytes.at 0 (omega (arith, c.bytes-test.true)) c.bytes.invariant.before (λ _. comma))

pub returns-after-bytes : goal.returns-after-bytes
returns-after-bytes c =
    let past : length c.args.line.now ≤ c.bytes.at = omega (arith, c.bytes-test.false) in
    sym (position_or_len_is is_comma c.args.line.now c.bytes.at 0 c.bytes.invariant.within c.bytes.invariant.before (λ within. absurd (omega (arith, within, past))))

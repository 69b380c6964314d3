use Rattle.std.proofs.Common.{ap, arith, length, List, ℕ}
use Rattle.gtfs_text.proofs.PieceFacts.{pieces_count}
use Rattle.gtfs_text.proofs.packed_records.PackedRecords.len.Goals as goal

pub returns : goal.returns
returns c =
    let i = c.self.inside in
    let held = i.ends.ok.0 in
    let count = pieces_count 0 i.text.items i.ends.items in
    let same = ap (length {A = List ℕ}) c.self.view_is in
    let len = c.len.ensures in
    omega (arith, held, count, same, len)

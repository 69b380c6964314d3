use Rattle.std.proofs.Common.{◌≡◌, ◌+◌, ◌++◌, ◌≤◌, ap, arith, drop, length, length-append, length-take, take}
use Rattle.disk_model.specs.Disk.{State, after_sync, after_write}
use Rattle.bench.proofs.storing.write_piece.Goals as goal

pub write_and_sync-requires-2 : goal.write_and_sync-requires-2
write_and_sync-requires-2 g c = λ honest.
    let before = c.write_and_sync.ensures.honest.1 honest in
    let s = g.D.Disk.state c.args.disk.now in
    let end = c.args.end in
    let piece = c.args.piece.now in
    let inside : end ≤ length s.read = c.requires before in
    let did : g.D.Disk.state c.write_and_sync.new.disk ≡ after_sync (after_write end piece s) = c.in_ok-write_and_sync.ensures.written before in
    omega (
      arith,
      inside,
      ap (λ (x : State). length x.read) did,
      length-append (take end s.read) (piece ++ drop (end + length piece) s.read),
      length-take end s.read,
    )

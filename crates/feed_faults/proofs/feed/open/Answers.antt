use Rattle.std.proofs.Common.{inl, inr}
use Rattle.gtfs_rows.specs.Faults.{first_fault}
use Rattle.gtfs_rows.specs.Rows.{opening_tests}
use Rattle.file_faults.proofs.ListFacts.{adds-none}
use Rattle.feed_faults.proofs.feed.open.Goals as goal

pub returns-in-Ok : goal.returns-in-Ok
returns-in-Ok g c = λ bytes content. let a = c.in-Ok.ensures bytes content in (adds-none c.args.list.now, a.0, a.1)

pub returns-in_ok-add_unopened-in-Err : goal.returns-in_ok-add_unopened-in-Err
returns-in_ok-add_unopened-in-Err g c = λ bytes content.
    elim (c.in_ok-add_unopened-in-Err.ensures (first_fault (opening_tests c.args.file bytes)) (c.in-Err.ensures bytes content)) [
      | inl unread ↦ inl unread
      | inr found ↦ inr (c.in-Err.fault, found.0, found.1)
    ]

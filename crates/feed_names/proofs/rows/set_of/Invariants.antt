use Rattle.std.proofs.Common.{◌≡◌, ℕ, List, take}
use Rattle.feed_names.specs.Rows.{is_among, is_member}
use Rattle.feed_names.proofs.rows.set_of.Given as goal

abbrev pub invariant-loop-id : goal.invariant-loop-id
invariant-loop-id l = (id : List ℕ) → is_member l.set id ≡ is_among (take l.id-index l.ids) id

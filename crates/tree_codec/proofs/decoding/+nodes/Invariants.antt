use Rattle.std.proofs.Common.{◌≡◌, ◌+◌, ◌-◌, ◌*◌, None}
use Rattle.pattern_tree.specs.Branch.{branches}
use Rattle.timetable.specs.Widths.{byte_count}
use Rattle.tree_codec.specs.Reading.{remaining, level_at}
use Rattle.tree_codec.proofs.Loops.{with_nodes}
use Rattle.tree_codec.proofs.decoding.+nodes.Given as goal

abbrev pub decreases-read_level : goal.decreases-read_level
decreases-read_level g l = 2 * l.levels

abbrev pub decreases-read_node : goal.decreases-read_node
decreases-read_node g l = 2 * l.below + 1

abbrev pub invariant-read_level-loop : goal.invariant-read_level-loop
invariant-read_level-loop g l =
    let w = byte_count l.form.width in
    with_nodes (branches l.nodes.items) (level_at w l.form.stops l.levels (l.count - l.counter) l.last (remaining l.input.bytes.now l.room.nodes l.room.ends))
    ≡ level_at w l.form.stops l.levels l.count None (remaining l.fn.input.bytes.now l.fn.room.nodes l.fn.room.ends)

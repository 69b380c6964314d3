use Rattle.std.proofs.Common.{rules, ◌≡◌, ◌<◌, ◌≤◌, ◌-◌, ◌+◌, true, false, sym, ap, subst, ◌∙◌, None, Some, arith}
use Rattle.std.specs.Result.{is_ok}
use Rattle.std.proofs.lemmas.Result.{err_from_is_err_and}
use Rattle.pattern_tree.specs.Forest.{Step, none, forest}
use Rattle.pattern_tree.specs.declared.node.Node.TheViews.{out-Node, out-roll-Node}
use Rattle.pattern_tree.specs.Branch.{branch, branches}
use Rattle.pattern_tree.proofs.NodeFacts.{branch_roll, branches_push, next_out, step_out}
use Rattle.timetable.specs.Widths.{byte_count}
use Rattle.tree_codec.specs.Reading.{remaining, children_at, level_at, step_follows, lacks_items}
use Rattle.tree_codec.proofs.Loops.{with_nodes, level_starts, node_given, level_goes_on, level_fails, level_too_deep, level_done, no_children, nothing_next}
use Rattle.tree_codec.proofs.decoding.+nodes.Goals as goal

pub read_level-loop-init : goal.read_level-loop-init
read_level-loop-init g t c = rw (c.in_ok-reserve_exact.ensures.items, c.requires) (level_starts (byte_count c.args.form.width) c.args.form.stops c.args.levels c.args.count None _)

pub read_level-returns-then-levels-eq0 : goal.read_level-returns-then-levels-eq0
read_level-returns-then-levels-eq0 g t c =
    let here = remaining c.loop.input.bytes.now c.loop.room.nodes c.loop.room.ends in
    level_too_deep (branches c.loop.nodes.items) (byte_count c.args.form.width) c.args.form.stops c.args.levels c.args.count c.loop.counter c.loop.last here _ c.loop-test.true c.if-levels-eq0.true c.loop.invariant

pub read_level-returns-in_err-read_node : goal.read_level-returns-in_err-read_node
read_level-returns-in_err-read_node g t c =
    let p = err_from_is_err_and c.from_residual-in_err-read_node.result c.from_residual-in_err-read_node.ensures.1 in
    let some : 0 < c.args.levels = omega arith in
    let here = remaining c.loop.input.bytes.now c.loop.room.nodes c.loop.room.ends in
    let total = level_at (byte_count c.args.form.width) c.args.form.stops c.args.levels c.args.count None (remaining c.args.input.now.bytes.now c.args.room.now.nodes c.args.room.now.ends) in
    rw (p.1, p.2) (level_fails c.in_err-read_node.field-0.0 (branches c.loop.nodes.items) (byte_count c.args.form.width) c.args.form.stops c.args.levels c.args.count c.loop.counter c.loop.last here total c.loop-test.true some c.in_err-read_node.ensures c.loop.invariant)

pub read_level-loop-preserved : goal.read_level-loop-preserved
read_level-loop-preserved g t c =
    let n = c.read_node.new.node in
    let all = c.push_mut.follows.lender n in
    let w = byte_count c.args.form.width in
    let some : 0 < c.args.levels = omega arith in
    let here = remaining c.loop.input.bytes.now c.loop.room.nodes c.loop.room.ends in
    let after = remaining c.read_node.new.input.bytes.now c.read_node.new.room.nodes c.read_node.new.room.ends in
    let total = level_at w c.args.form.stops c.args.levels c.args.count None (remaining c.args.input.now.bytes.now c.args.room.now.nodes c.args.room.now.ends) in
    let e = branches_push c.loop.nodes.items all.items n (c.push_mut.follows.holds n (ap is_ok c.in_ok-node.was)).0 in
    subst (λ (s : Step). with_nodes (branches all.items) (level_at w c.args.form.stops c.args.levels (c.args.count - (c.loop.counter + 1)) (Some s) after) ≡ total) (step_out _ n)
    (rw e (level_goes_on (branches c.loop.nodes.items) w c.args.form.stops c.args.levels c.args.count c.loop.counter c.loop.last here (branch n) after total c.loop-test.true some c.in_ok-read_node.ensures c.loop.invariant))

pub read_level-returns : goal.read_level-returns
read_level-returns g t c =
    let here = remaining c.loop.input.bytes.now c.loop.room.nodes c.loop.room.ends in
    level_done (branches c.loop.nodes.items) (byte_count c.args.form.width) c.args.form.stops c.args.levels c.args.count c.loop.counter c.loop.last here _ c.loop-test.false c.loop.invariant

pub read_node-read_level-requires : goal.read_node-read_level-requires
read_node-read_level-requires g t c κs within =
    (search rules, (within, rw (out-roll-Node _ _, out-roll-Node _ _, out-roll-Node _ _) (nothing_next _ c.args.node.now c.requires.next)))

pub read_node-returns-else-children-gt0 : goal.read_node-returns-else-children-gt0
read_node-returns-else-children-gt0 g t c =
    let w = byte_count c.args.form.width in
    let stops = c.args.form.stops in
    let some : 0 < c.args.room.now.nodes = omega arith in
    let follows : step_follows c.args.last (c.in_ok-board.board, c.in_ok-alight.alight) ≡ true = sym c.if-not-step_follows.ensures in
    let few : c.in_ok-count.count ≤ c.args.room.now.ends = omega arith in
    let item : lacks_items c.in_ok-count.count c.in_ok-children.children ≡ false = sym c.if-is_empty.ensures in
    let none_left : c.in_ok-children.children ≡ 0 = omega (arith, c.if-children-gt0.false) in
    let after = remaining c.number-2.new.self.bytes.now (c.args.room.now.nodes - 1) (c.args.room.now.ends - c.in_ok-count.count) in
    let f = forest (branches (out-Node _ c.args.node.now).next.items) in
    let leaf : f ≡ none = sym (next_out _ c.args.node.now) ∙ c.requires.next in
    rw (branch_roll _ _, out-roll-Node _ _, out-roll-Node _ _)
    (node_given w stops (children_at w stops c.args.below) c.args.last c.args.input.now.bytes.now c.args.room.now.nodes c.args.room.now.ends
    c.in_ok-board.board c.stop.new.self.bytes.now c.in_ok-alight.alight c.stop-2.new.self.bytes.now c.in_ok-count.count c.number.new.self.bytes.now
    c.read_ends.new.ends.items c.read_ends.new.input.bytes.now c.in_ok-children.children c.number-2.new.self.bytes.now f after
    some c.in_ok-board.ensures c.in_ok-alight.ensures follows c.in_ok-count.ensures few c.in_ok-read_ends.ensures c.in_ok-children.ensures item
    (no_children w stops c.args.below c.in_ok-children.children after f none_left leaf))

use Rattle.std.proofs.Common.{rules, ◌≡◌, ◌<◌, ◌≤◌, ◌+◌, ◌∷◌, [], List, length, take, arith, refl, sym, ◌∙◌, ap, subst, length-append}
use Rattle.std.specs.Vec.{vec_len}
use Rattle.std.proofs.lemmas.Bool.{eqb-true}
use Rattle.std.proofs.lemmas.List.{take_all, length-map}
use Rattle.pattern_tree.specs.declared.tree.TheConstants.{MOST_NODES}
use Rattle.pattern_tree.specs.Forest.{Branch, none, forest, levels, node_count}
use Rattle.pattern_tree.specs.Branch.{branch, branches}
use Rattle.pattern_tree.specs.declared.node.Node.TheViews.{out-Node}
use Rattle.pattern_tree.proofs.NodeFacts.{branches_more, ends_out, next_out, step_out}
use Rattle.pattern_tree.proofs.WalkFacts.{levels_at}
use Rattle.packed_patterns.specs.declared.packing.Beginning.{Beginning}
use Rattle.packed_patterns.specs.declared.packing.Pattern.{Pattern}
use Rattle.packed_patterns.specs.Patterns.{Packs, path_to, ride_of}
use Rattle.packed_patterns.proofs.PackFacts.{packs_none, packs_more, packed1, path_is, nodes_at, none_of_none}
use Rattle.packed_patterns.proofs.packing.+pack_level.Goals as goal
use Rattle.packed_patterns.proofs.packing.+pack_level.Goals.{then-not-is_empty+in_ok-pack_level, else-not-is_empty}

pub loop-node-init : goal.loop-node-init
loop-node-init g t c = packs_none c.args.beginnings.now.items c.args.patterns.now.items c.args.before c.requires.packed

pub overflow_cast-last : goal.overflow_cast-last
overflow_cast-last g t c =
    let size : c.len-last.result ≡ length c.push.new.self.items = search rules in
    let b : Beginning = record { board = (out-Node _ c.node-item.result).board; alight = (out-Node _ c.node-item.result).alight; before = c.args.before } in
    let one = length-append c.loop-node.beginnings.items (b ∷ []) in
    let more = length-append c.args.beginnings.now.items c.loop-node.invariant.more in
    let nodes = nodes_at c.args.level.now c.loop-node.node-index c.node-item.result c.node-item.is c.loop-node-test.true in
    let low : c.len-last.result ≤ MOST_NODES = omega (
      arith,
      size,
      one,
      more,
      nodes,
      ap (length {A = Beginning}) c.in_ok-push.ensures.items,
      ap (length {A = Beginning}) c.loop-node.invariant.goes_on,
      c.loop-node.invariant.count,
      c.requires.few,
    ) in
    search (rules, low)

pub pack_level-requires : goal.pack_level-requires
pack_level-requires g t c κs within =
    let n = c.node-item.result in
    let old = c.args.beginnings.now.items in
    let were = c.args.patterns.now.items in
    let level = c.args.level.now in
    let i = c.loop-node.node-index in
    let bs = c.loop-node.beginnings.items in
    let ps = c.loop-node.patterns.items in
    let b : Beginning = record { board = (out-Node _ n).board; alight = (out-Node _ n).alight; before = c.args.before } in
    let deep : levels (branch n).next + 1 ≤ levels (forest (branches level)) = levels_at level i n c.node-item.is c.loop-node-test.true in
    let few : length (path_to 8 old c.args.before) < 8 = omega (arith, deep, c.requires.deep) in
    let size : c.len-last.result ≡ length c.push.new.self.items = search rules in
    let nodes = nodes_at level i n c.node-item.is c.loop-node-test.true in
    let next : (branch n).next ≡ forest (branches c.deref-then-not-is_empty.result.now) = rw c.deref-then-not-is_empty.ensures.value (next_out _ n) in
    let less : node_count (forest (branches c.deref-then-not-is_empty.result.now)) < node_count (forest (branches level)) = omega (arith, nodes, ap node_count next) in
    let path = path_is old were c.args.before c.requires.packed c.requires.before few bs ps (forest (take i (branches level))) c.loop-node.invariant
    b refl c.push.new.self.items c.in_ok-push.ensures.items c.len-last.result size c.deref.result.now c.pack_ends.new.patterns.items c.in_ok-pack_ends.ensures in
    let one = length-append bs (b ∷ []) in
    let more = length-append old c.loop-node.invariant.more in
    let longer = length-append (path_to 8 old c.args.before) (ride_of b ∷ []) in (
      search rules,
      (
        within.0,
        (
          within.1,
          (
            packed1 old were c.args.before c.requires.packed c.requires.before few bs ps (forest (take i (branches level))) c.loop-node.invariant
                b refl c.push.new.self.items c.in_ok-push.ensures.items c.len-last.result size c.deref.result.now c.pack_ends.new.patterns.items c.in_ok-pack_ends.ensures,
            (
              omega (arith, size),
              (
                omega (arith, c.requires.deep, deep, ap length path, longer, ap levels next),
                omega (
                  arith,
                  c.requires.few,
                  nodes,
                  one,
                  more,
                  ap (length {A = Beginning}) c.in_ok-push.ensures.items,
                  ap (length {A = Beginning}) c.loop-node.invariant.goes_on,
                  c.loop-node.invariant.count,
                  ap node_count next,
                ),
              ),
            ),
          ),
        ),
      ),
    )

pub loop-node-preserved : goal.loop-node-preserved
loop-node-preserved g t c =
    let n = c.node-item.result in
    let old = c.args.beginnings.now.items in
    let were = c.args.patterns.now.items in
    let level = c.args.level.now in
    let i = c.loop-node.node-index in
    let bs = c.loop-node.beginnings.items in
    let ps = c.loop-node.patterns.items in
    let bs1 = c.push.new.self.items in
    let ps1 = c.pack_ends.new.patterns.items in
    let m = c.len-last.result in
    let b : Beginning = record { board = (out-Node _ n).board; alight = (out-Node _ n).alight; before = c.args.before } in
    let deep : levels (branch n).next + 1 ≤ levels (forest (branches level)) = levels_at level i n c.node-item.is c.loop-node-test.true in
    let few : length (path_to 8 old c.args.before) < 8 = omega (arith, deep, c.requires.deep) in
    let size : m ≡ length bs1 = search rules in
    let all : (new : List Beginning) (are : List Pattern) → Packs bs1 ps1 m (branch n).next new are → Packs old were c.args.before (forest (take (i + 1) (branches level))) new are =
    λ new are below. subst (λ (l : List Branch). Packs old were c.args.before (forest l) new are)
    (sym (branches_more level i n c.node-item.is c.loop-node-test.true))
    (packs_more old were c.args.before c.requires.packed c.requires.before few bs ps (forest (take i (branches level))) c.loop-node.invariant
    b refl bs1 c.in_ok-push.ensures.items m size c.deref.result.now ps1 c.in_ok-pack_ends.ensures
    (take i (branches level)) (branch n) new are refl (sym (step_out _ n)) (c.deref.ensures.value ∙ sym (ends_out _ n)) below) in
    elim c.if-not-is_empty.branch [
      | then-not-is_empty+in_ok-pack_level w ↦
          let below : Packs bs1 ps1 m (branch n).next w.pack_level.new.beginnings.items w.pack_level.new.patterns.items =
          rw (next_out _ n, ← w.deref-then-not-is_empty.ensures.value) w.in_ok-pack_level.ensures in
          rw (w.beginnings-is, w.patterns-is) (all w.pack_level.new.beginnings.items w.pack_level.new.patterns.items below)
      | else-not-is_empty w ↦
          let leaf : (branch n).next ≡ none = next_out _ n ∙ none_of_none (out-Node _ n).next.items (omega (arith, (out-Node _ n).next.ok.0, eqb-true (vec_len (out-Node _ n).next) 0 (sym w.if-not-is_empty.ensures))) in
          let packed = packed1 old were c.args.before c.requires.packed c.requires.before few bs ps (forest (take i (branches level))) c.loop-node.invariant
          b refl bs1 c.in_ok-push.ensures.items m size c.deref.result.now ps1 c.in_ok-pack_ends.ensures in
          rw (w.beginnings-is, w.patterns-is) (all bs1 ps1 (rw leaf (packs_none bs1 ps1 m packed)))
    ]

pub returns : goal.returns
returns g t c =
    let all = take_all c.loop-node.node-index (branches c.args.level.now) (omega (arith, c.loop-node-test.false, length-map c.args.level.now branch)) in
    subst (λ (bs : List Branch). Packs c.args.beginnings.now.items c.args.patterns.now.items c.args.before (forest bs) c.loop-node.beginnings.items c.loop-node.patterns.items)
    all c.loop-node.invariant

use Rattle.std.proofs.Common.{ap, arith, length, length-append}
use Rattle.std.proofs.lemmas.Result.{err_from_is_err_and}
use Rattle.pattern_tree.specs.Forest.{forest}
use Rattle.pattern_tree.specs.Branch.{branches}
use Rattle.tree_codec.specs.Text.{tree_text}
use Rattle.timetable.specs.Widths.{byte_count}
use Rattle.tree_codec.specs.Reading.{remaining}
use Rattle.tree_codec.proofs.Fields.{each_wide, stops_fit}
use Rattle.tree_codec.proofs.Trees.{tree_found, is_tree, is_read, refused}
use Rattle.tree_codec.proofs.decoding.tree.Goals as goal

pub returns-in_err-source-clause-fault : goal.returns-in_err-source-clause-fault
returns-in_err-source-clause-fault g c =
    let p = err_from_is_err_and c.from_residual.result c.from_residual.ensures.1 in
    rw (p.1, p.2) c.in_err-source.ensures

pub returns-in_err-source-clause-read : goal.returns-in_err-source-clause-read
returns-in_err-source-clause-read g c =
    let p = err_from_is_err_and c.from_residual.result c.from_residual.ensures.1 in
    rw (p.1, p.2) (refused (byte_count c.args.form.width) c.args.form.stops c.args.bytes.now c.in_err-source.field-0.0 c.in_err-source.ensures)

pub overflow_sub-nodes : goal.overflow_sub-nodes
overflow_sub-nodes g c =
    let after = remaining c.source_and_nodes.new.input.bytes.now c.source_and_nodes.new.room.nodes c.source_and_nodes.new.room.ends in
    let found = tree_found (byte_count c.args.form.width) c.args.form.stops (each_wide c.args.form.width) c.args.bytes.now (c.in_ok-source.source, forest (branches c.in_ok-source.first.items), after) (λ i. omega (arith, c.type_inv.bytes i)) c.in_ok-source.ensures in
    omega (arith, found.nodes)

pub overflow_sub-ends : goal.overflow_sub-ends
overflow_sub-ends g c =
    let after = remaining c.source_and_nodes.new.input.bytes.now c.source_and_nodes.new.room.nodes c.source_and_nodes.new.room.ends in
    let found = tree_found (byte_count c.args.form.width) c.args.form.stops (each_wide c.args.form.width) c.args.bytes.now (c.in_ok-source.source, forest (branches c.in_ok-source.first.items), after) (λ i. omega (arith, c.type_inv.bytes i)) c.in_ok-source.ensures in
    omega (arith, found.ends)

pub overflow_sub-used : goal.overflow_sub-used
overflow_sub-used g c =
    let after = remaining c.source_and_nodes.new.input.bytes.now c.source_and_nodes.new.room.nodes c.source_and_nodes.new.room.ends in
    let found = tree_found (byte_count c.args.form.width) c.args.form.stops (each_wide c.args.form.width) c.args.bytes.now (c.in_ok-source.source, forest (branches c.in_ok-source.first.items), after) (λ i. omega (arith, c.type_inv.bytes i)) c.in_ok-source.ensures in
    omega (arith, ap length found.bytes_are, length-append (tree_text (byte_count c.args.form.width) c.in_ok-source.source (forest (branches c.in_ok-source.first.items))) after.bytes)

pub from_nodes-requires : goal.from_nodes-requires
from_nodes-requires g c =
    let after = remaining c.source_and_nodes.new.input.bytes.now c.source_and_nodes.new.room.nodes c.source_and_nodes.new.room.ends in
    let found = tree_found (byte_count c.args.form.width) c.args.form.stops (each_wide c.args.form.width) c.args.bytes.now (c.in_ok-source.source, forest (branches c.in_ok-source.first.items), after) (λ i. omega (arith, c.type_inv.bytes i)) c.in_ok-source.ensures in
    is_tree (byte_count c.args.form.width) c.args.form.stops c.args.bytes.now c.in_ok-source.source (forest (branches c.in_ok-source.first.items)) after found

pub returns-clause-read : goal.returns-clause-read
returns-clause-read g c =
    let after = remaining c.source_and_nodes.new.input.bytes.now c.source_and_nodes.new.room.nodes c.source_and_nodes.new.room.ends in
    let found = tree_found (byte_count c.args.form.width) c.args.form.stops (each_wide c.args.form.width) c.args.bytes.now (c.in_ok-source.source, forest (branches c.in_ok-source.first.items), after) (λ i. omega (arith, c.type_inv.bytes i)) c.in_ok-source.ensures in
    let fit = stops_fit c.args.form.width c.args.form.stops c.args.form.few in
    (is_read (byte_count c.args.form.width) c.args.form.stops c.args.bytes.now c.in_ok-source.source (forest (branches c.in_ok-source.first.items)) after c.from_nodes.result fit found c.from_nodes.ensures)

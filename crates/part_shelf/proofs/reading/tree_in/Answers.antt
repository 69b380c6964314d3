use Rattle.std.proofs.Common.{rules, ◌≡◌, ◌≢◌, ℕ, take, ◌∙◌, ap, subst, arith}
use Rattle.timetable.specs.Table.{stops_of}
use Rattle.pattern_tree.specs.Content.{Content, longest}
use Rattle.tree_codec.specs.Text.{BeginsNoText, TreeText}
use Rattle.tree_codec.specs.declared.fault.CodecFault.TheVariants.{Memory}
use Rattle.part_shelf.proofs.ReadingFacts.{all_stops, no_more, none_begins, same_tree}
use Rattle.part_shelf.proofs.reading.tree_in.Goals as goal

pub returns-then-used-text-clause-tree : goal.returns-then-used-text-clause-tree
returns-then-used-text-clause-tree c = λ other section source wrong.
    let text = c.args.text.now in
    let tree = c.in-Ok.read.0 in
    let used = c.in-Ok.read.1 in
    let stops = all_stops c.stops.result c.args.table.now c.stops.ensures.value c.stops.ensures.valid in
    let read : TreeText 4 (stops_of c.args.table.now) (take used text) tree = subst (λ (n : ℕ). TreeText 4 n (take used text) tree) stops c.in-Ok.ensures.read.1 in
    no_more c.texts_apart.ensures (stops_of c.args.table.now) text used tree other read section.is_text c.if-used-text.true

pub returns-then-depth-from-clause-tree : goal.returns-then-depth-from-clause-tree
returns-then-depth-from-clause-tree c = λ other section source wrong.
    let text = c.args.text.now in
    let tree = c.in-Ok.read.0 in
    let used = c.in-Ok.read.1 in
    let stops = all_stops c.stops.result c.args.table.now c.stops.ensures.value c.stops.ensures.valid in
    let read : TreeText 4 (stops_of c.args.table.now) (take used text) tree = subst (λ (n : ℕ). TreeText 4 n (take used text) tree) stops c.in-Ok.ensures.read.1 in
    let same = same_tree c.texts_apart.ensures (stops_of c.args.table.now) text used tree other read section.is_text in
    let rides : c.from.result ≡ c.args.rides = search rules in
    omega (arith, c.if-depth-from.true, rides, c.depth.ensures.rides, ap (λ (t : Content). longest t.pairs) same, section.shallow)

pub returns-then-ne-clause-tree : goal.returns-then-ne-clause-tree
returns-then-ne-clause-tree c = λ other section source wrong.
    let text = c.args.text.now in
    let tree = c.in-Ok.read.0 in
    let used = c.in-Ok.read.1 in
    let stops = all_stops c.stops.result c.args.table.now c.stops.ensures.value c.stops.ensures.valid in
    let read : TreeText 4 (stops_of c.args.table.now) (take used text) tree = subst (λ (n : ℕ). TreeText 4 n (take used text) tree) stops c.in-Ok.ensures.read.1 in
    let same = same_tree c.texts_apart.ensures (stops_of c.args.table.now) text used tree other read section.is_text in
    let is : c.source.result ≡ c.args.stop = c.source.ensures ∙ ap (λ (t : Content). t.source) same ∙ source in
    search rules

pub returns-else-ne-clause-tree : goal.returns-else-ne-clause-tree
returns-else-ne-clause-tree c = λ other section source.
    let text = c.args.text.now in
    let tree = c.in-Ok.read.0 in
    let used = c.in-Ok.read.1 in
    let stops = all_stops c.stops.result c.args.table.now c.stops.ensures.value c.stops.ensures.valid in
    let read : TreeText 4 (stops_of c.args.table.now) (take used text) tree = subst (λ (n : ℕ). TreeText 4 n (take used text) tree) stops c.in-Ok.ensures.read.1 in
    same_tree c.texts_apart.ensures (stops_of c.args.table.now) text used tree other read section.is_text

pub returns-else-eq-clause-tree : goal.returns-else-eq-clause-tree
returns-else-eq-clause-tree c = λ tree section source wrong.
    let text = c.args.text.now in
    let stops = all_stops c.stops.result c.args.table.now c.stops.ensures.value c.stops.ensures.valid in
    let other : c.in-Err.fault ≢ Memory = search rules in
    none_begins (stops_of c.args.table.now) text tree (subst (λ (n : ℕ). BeginsNoText 4 n text) stops (c.in-Err.ensures.read other)) section.is_text

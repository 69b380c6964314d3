use Rattle.std.proofs.Common.{sym, ◌∙◌, Ok, Err}
use Rattle.std.proofs.lemmas.List.Sorted.{searched}
use Rattle.pattern_tree.proofs.PairFacts.{rises_by_index}
use Rattle.pattern_tree.proofs.AdditionFacts.{with_end_present, with_end_gap}
use Rattle.pattern_tree.proofs.growth.add_end.Goals as goal

pub returns-in_ok-insert-clause-ok : goal.returns-in_ok-insert-clause-ok
returns-in_ok-insert-clause-ok g c =
    let xs = c.args.ends.now.items in
    let up = rises_by_index xs c.requires in
    let found = searched xs c.args.end (Err c.in-Err.at) (rw (← c.deref.ensures.value) c.in-Err.ensures.position) up in
    c.in_ok-insert.ensures.items ∙ sym (with_end_gap xs c.args.end c.in-Err.at found)

pub returns-in_default-clause-ok : goal.returns-in_default-clause-ok
returns-in_default-clause-ok g c =
    let xs = c.args.ends.now.items in
    let up = rises_by_index xs c.requires in
    let found = searched xs c.args.end (Ok c.in_default.field-0) (rw (← c.deref.ensures.value) c.in_default.ensures.position) up in
    sym (with_end_present xs c.args.end c.in_default.field-0 up c.requires found.0 found.1)

use Rattle.std.proofs.Common.{◌∙◌, ◌==◌, Bor, List, ℕ, not, length, map, filter, ap}
use Rattle.std.specs.Str.Lines.{lines}
use Rattle.stop_lists.proofs.ListFacts.{filter_read}
use Rattle.stop_lists.proofs.ids.ids_of.Goals as goal

pub returns-clause-ids : goal.returns-clause-ids
returns-clause-ids c =
    let now = λ (id : Bor (List ℕ)). id.now in
    let some = λ (line : List ℕ). not (length line == 0) in
    ap (map now) c.drop_empty.ensures ∙ (filter_read now some c.in-Ok-lines_of.ids.items
    ∙ ap (filter some) (c.in-Ok-lines_of.ensures ∙ ap lines (c.in-Ok.ensures.cases.0 ∙ c.after_mark.ensures)))

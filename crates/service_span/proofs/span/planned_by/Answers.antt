use Rattle.std.proofs.Common.{◌≡◌, ◌∙◌, sym, ap, true}
use Rattle.service_span.specs.Looked.{is_member}
use Rattle.service_span.proofs.RowFacts.{planned_if_named}
use Rattle.service_span.proofs.span.planned_by.Goals as goal

pub returns-then-is_named : goal.returns-then-is_named
returns-then-is_named c =
    let there : is_member c.args.names.now c.args.row.now.service ≡ true = ap (is_member c.args.names.now) (sym c.as_str.ensures) ∙ (sym c.is_named.ensures ∙ c.if-is_named.true) in
    planned_if_named c.args.names.now c.args.removed.now c.args.row.now c.row_span.result there c.row_span.ensures

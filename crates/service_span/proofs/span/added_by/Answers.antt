use Rattle.std.proofs.Common.{◌≡◌, ◌∙◌, sym, ap, true}
use Rattle.service_span.specs.Looked.{is_member}
use Rattle.service_span.proofs.RowFacts.{extra_span}
use Rattle.service_span.proofs.span.added_by.Goals as goal

pub returns-then-is_named : goal.returns-then-is_named
returns-then-is_named c =
    let there : is_member c.args.names.now c.args.row.now.service ≡ true = ap (is_member c.args.names.now) (sym c.as_str.ensures) ∙ (sym c.is_named.ensures ∙ c.if-is_named.true) in
    extra_span c.args.names.now c.args.row.now there (sym c.is_added.ensures ∙ c.if-is_added.true)

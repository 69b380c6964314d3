use Rattle.std.proofs.Common.{arith, length, subst, sym, ap, ◌∙◌}
use Rattle.std.specs.String.{string_bytes}
use Rattle.std.proofs.lemmas.List.{length-map}
use Rattle.feed_ids.specs.Groups.{AreBelow}
use Rattle.feed_ids.proofs.names.Names.new.Goals as goal

pub invariant_of-result : goal.invariant_of-result
invariant_of-result c =
    let count = ap (λ l. length l) c.in_ok-stops.ensures ∙ length-map c.args.stops.items string_bytes in (
      omega (arith, count, c.requires.few),
      subst (λ n. AreBelow n c.args.children) (sym count) c.requires.known,
    )

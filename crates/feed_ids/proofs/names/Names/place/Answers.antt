use Rattle.std.proofs.Common.{◌≡◌, ◌∙◌, sym, ap, subst, ◌<◌, All, length, None}
use Rattle.feed_ids.specs.NameLists.{NameLists}
use Rattle.feed_ids.specs.Names.{stop_named}
use Rattle.feed_ids.proofs.names.Names.place.Goals as goal

pub returns-in-Some-number : goal.returns-in-Some-number
returns-in-Some-number c =
    let none : stop_named c.args.self.now c.args.id.now ≡ None = sym c.stop_named.ensures.value ∙ c.in_default.is in
    rw (← c.self.view_is) (record {
      value = (
        ap (λ (names : NameLists). stop_named names c.args.id.now) c.self.view_is ∙ none,
        c.in-Some-number.number,
        sym c.number.ensures ∙ c.in-Some-number.is,
        c.of.ensures,
      );
      known = subst (λ stops. All (λ stop. stop < length c.self.inside.stops) stops) (sym c.of.ensures) (c.self.invariant.1 c.in-Some-number.number);
    })

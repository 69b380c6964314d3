use Rattle.std.proofs.Common.{◌∙◌, ℕ, List, Option, Bor, map, ap, inl, inr, refl, subst, sym}
use Rattle.feed_commands.specs.Matrices.{AreListed, IsWindow}
use Rattle.feed_commands.proofs.tabling.print_lists.Goals as goal

pub returns-in-Err : goal.returns-in-Err
returns-in-Err g c = λ from to.
    inl (record { fault = c.in-Err.fault; why = c.in-Err.ensures.fault; nothing = refl; said = c.say_list_fault.ensures })

pub returns-in-Err-ids_of : goal.returns-in-Err-ids_of
returns-in-Err-ids_of g c = λ from to. inr (inl (
  from,
  record { fault = c.in-Err-ids_of.fault; why = c.in-Err-ids_of.ensures.fault; nothing = refl; said = c.say_list_fault-in-Err-ids_of.ensures },
))

pub returns : goal.returns
returns g c = λ from to.
    let basis = c.args.tabling.now.basis.now in
    let question = c.args.tabling.now.question.now in
    let asked = c.new-asked.result in
    let now = λ (id : Bor (List ℕ)). id.now in
    let window = subst (λ (first : Option ℕ). IsWindow basis question question.within first asked.last) (sym c.new-asked.ensures.first)
    (subst (λ (last : Option ℕ). IsWindow basis question question.within c.window_of-first.result.0 last) (sym c.new-asked.ensures.last)
    c.window_of-first.ensures) in
    let listed : AreListed c.args.lists.now.from.now c.args.lists.now.to.now asked = record {
      origins = ap (map now) (c.new-asked.ensures.origins ∙ c.deref.ensures.value) ∙ c.in-Ok.ensures.ids;
      goals = ap (map now) (c.new-asked.ensures.goals ∙ c.deref-2.ensures.value) ∙ c.in-Ok-ids_of.ensures.ids;
    } in
    inr (inr (
      from,
      to,
      (
        asked,
        listed,
        window,
        c.print_table.ensures from to listed,
      ),
    ))

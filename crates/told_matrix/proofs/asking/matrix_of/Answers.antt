use Rattle.std.proofs.Common.{rules, inl, inr, refl}
use Rattle.pattern_query.specs.declared.refusal.Refusal.TheVariants as refusals
use Rattle.told_matrix.proofs.AskedFacts.{all_known, goal_unknown}
use Rattle.told_matrix.proofs.asking.matrix_of.Goals as goal

pub returns-in_err-goals-clause-fault : goal.returns-in_err-goals-clause-fault
returns-in_err-goals-clause-fault c =
    let asked = c.args.asked.now in
    let known = all_known c.args.basis.now asked.origins.now c.in_ok-origins.origins.items c.in_ok-origins.ensures.stops in
    let unknown = goal_unknown c.args.basis.now asked c.in_err-goals.field-0.0 known c.in_err-goals.ensures.fault in
    search rules

pub returns-in_default-clause-fault : goal.returns-in_default-clause-fault
returns-in_default-clause-fault c =
    let basis = c.args.basis.now in
    let asked = c.args.asked.now in
    let from = all_known basis asked.origins.now c.in_ok-origins.origins.items c.in_ok-origins.ensures.stops in
    let to = all_known basis asked.goals.now c.in_ok-goals.goals.items c.in_ok-goals.ensures.stops in
    inl (refusals.NotCovered, refl, (from, to, inl c.in_default.ensures.none))

pub returns-in_default-covered_moment-clause-fault : goal.returns-in_default-covered_moment-clause-fault
returns-in_default-covered_moment-clause-fault c =
    let basis = c.args.basis.now in
    let asked = c.args.asked.now in
    let from = all_known basis asked.origins.now c.in_ok-origins.origins.items c.in_ok-origins.ensures.stops in
    let to = all_known basis asked.goals.now c.in_ok-goals.goals.items c.in_ok-goals.ensures.stops in
    inl (refusals.NotCovered, refl, (from, to, inr c.in_default-covered_moment.ensures.none))

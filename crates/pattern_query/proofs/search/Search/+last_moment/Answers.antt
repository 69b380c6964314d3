use Rattle.std.proofs.Common.{Option, ◌≡◌, ℕ, ◌+◌, ◌<◌, ◌≤◌, List, true, Some, sym, subst, le_trans, le_of_eq}
use Rattle.timetable.specs.declared.parts.Leg.{Leg}
use Rattle.direct_connections.specs.Latest.{ServesBy}
use Rattle.timetable.specs.Journeys.{foot, departs}
use Rattle.pattern_tree.specs.Forest.{Step}
use Rattle.pattern_query.specs.Way.{hop}
use Rattle.pattern_query.specs.Leaving.{CanTake, IsLastMoment, IsBack}
use Rattle.pattern_query.proofs.MomentSteps.{last_foot, none_foot, none_rest, none_ride, last_step, none_step, some_then, none_then, no_steps}
use Rattle.pattern_query.proofs.search.Search.+last_moment.Goals as goal

pub returns-in_default-clause-last : goal.returns-in_default-clause-last
returns-in_default-clause-last t c =
    let T = c.args.self.now.network.now in
    let by = c.args.by in
    let walk : c.foot.result ≡ foot T c.args.at c.args.self.now.to = c.foot.ensures.value in
    let Is = λ (path : List Step) (e : ℕ). IsLastMoment (CanTake T c.args.ridden c.args.at path c.args.self.now.to by) e in
    some_then c.back.result
    (λ (e : ℕ) (back : IsBack c.foot.result by e). subst (λ path. Is path e) (sym (no_steps c.args.path.now c.in_default.ensures.cases))
    (last_foot T c.args.ridden c.args.at c.args.self.now.to by e (subst (λ o. IsBack o by e) walk back)))
    c.back.ensures.some

pub returns-in_default-clause-none : goal.returns-in_default-clause-none
returns-in_default-clause-none t c =
    let T = c.args.self.now.network.now in
    let by = c.args.by in
    let walk : c.foot.result ≡ foot T c.args.at c.args.self.now.to = c.foot.ensures.value in
    let since = c.args.self.now.depart in
    none_then c.back.result
    (λ (none : (e w : ℕ) → c.foot.result ≡ Some w → e + w ≤ by → e < since). subst (λ (path : List Step). (e : ℕ) → CanTake T c.args.ridden c.args.at path c.args.self.now.to by e → e < since)
    (sym (no_steps c.args.path.now c.in_default.ensures.cases))
    (none_foot T c.args.ridden c.args.at c.args.self.now.to by since (subst (λ (o : Option ℕ). (e w : ℕ) → o ≡ Some w → e + w ≤ by → e < since) walk none)))
    c.back.ensures.none

pub returns-in_err-alighted-clause-none : goal.returns-in_err-alighted-clause-none
returns-in_err-alighted-clause-none t c =
    let T = c.args.self.now.network.now in
    let by = c.args.by in
    let since = c.args.self.now.depart in
    let none : (e : ℕ) → CanTake T true c.in-Some.step.now.1 c.in-Some.rest.now c.args.self.now.to by e → e < since = c.in_err-alighted.ensures.none in
    rw c.from_residual.ensures
    (subst (λ (path : List Step). (e : ℕ) → CanTake T c.args.ridden c.args.at path c.args.self.now.to by e → e < since) (sym c.in-Some.ensures.cases.0)
    (none_rest T c.args.ridden c.args.at c.args.self.now.to by c.in-Some.step.now c.in-Some.rest.now c.last_moment.ensures.valid since none))

pub returns-in_err-ride-clause-none : goal.returns-in_err-ride-clause-none
returns-in_err-ride-clause-none t c =
    let T = c.args.self.now.network.now in
    let by = c.args.by in
    let since = c.args.self.now.depart in
    let none : (leg : Leg) → ¬ ServesBy T c.in-Some.step.now.0 c.in-Some.step.now.1 c.in_ok-alighted.alighted leg = c.in_err-ride.ensures.none in
    let last : IsLastMoment (CanTake T true c.in-Some.step.now.1 c.in-Some.rest.now c.args.self.now.to by) c.in_ok-alighted.alighted = c.in_ok-alighted.ensures.last in
    rw c.from_residual-in_err-ride.ensures
    (subst (λ (path : List Step). (e : ℕ) → CanTake T c.args.ridden c.args.at path c.args.self.now.to by e → e < since) (sym c.in-Some.ensures.cases.0)
    (none_ride T c.args.ridden c.args.at c.args.self.now.to by c.in-Some.step.now c.in-Some.rest.now c.last_moment.ensures.valid c.in_ok-alighted.alighted last since none))

pub returns-clause-last : goal.returns-clause-last
returns-clause-last t c =
    let T = c.args.self.now.network.now in
    let by = c.args.by in
    let step = c.in-Some.step.now in
    let rest = c.in-Some.rest.now in
    let at = c.args.self.now.to in
    let alighted = c.in_ok-alighted.alighted in
    let ride = c.in_ok-ride.ride in
    let leg = ride.leg in
    let last : IsLastMoment (CanTake T true step.1 rest at by) alighted = c.in_ok-alighted.ensures.last in
    let serves : ServesBy T step.0 step.1 alighted leg = c.in_ok-ride.ensures.ride in
    let leaves : ride.departure ≡ departs T leg = c.in_ok-ride.ensures.departure in
    let most : (other : Leg) → ServesBy T step.0 step.1 alighted other → departs T other ≤ departs T leg = λ other s. le_trans (c.in_ok-ride.ensures.most other s) (le_of_eq leaves) in
    let walk : c.hop.result ≡ hop T c.args.ridden c.args.at step.0 = c.hop.ensures.value in
    some_then c.back-2.result
    (λ (e : ℕ) (back : IsBack c.hop.result ride.departure e). subst (λ (path : List Step). IsLastMoment (CanTake T c.args.ridden c.args.at path at by) e) (sym c.in-Some.ensures.cases.0)
    (last_step T c.args.ridden c.args.at at by step rest c.last_moment.ensures.valid alighted last leg serves most e
    (subst (λ o. IsBack o (departs T leg) e) walk (subst (λ m. IsBack c.hop.result m e) leaves back))))
    c.back-2.ensures.some

pub returns-clause-none : goal.returns-clause-none
returns-clause-none t c =
    let T = c.args.self.now.network.now in
    let by = c.args.by in
    let step = c.in-Some.step.now in
    let rest = c.in-Some.rest.now in
    let at = c.args.self.now.to in
    let since = c.args.self.now.depart in
    let alighted = c.in_ok-alighted.alighted in
    let ride = c.in_ok-ride.ride in
    let leg = ride.leg in
    let last : IsLastMoment (CanTake T true step.1 rest at by) alighted = c.in_ok-alighted.ensures.last in
    let serves : ServesBy T step.0 step.1 alighted leg = c.in_ok-ride.ensures.ride in
    let leaves : ride.departure ≡ departs T leg = c.in_ok-ride.ensures.departure in
    let most : (other : Leg) → ServesBy T step.0 step.1 alighted other → departs T other ≤ departs T leg = λ other s. le_trans (c.in_ok-ride.ensures.most other s) (le_of_eq leaves) in
    let walk : c.hop.result ≡ hop T c.args.ridden c.args.at step.0 = c.hop.ensures.value in
    none_then c.back-2.result
    (λ (none : (e w : ℕ) → c.hop.result ≡ Some w → e + w ≤ ride.departure → e < since).
    subst (λ (path : List Step). (e : ℕ) → CanTake T c.args.ridden c.args.at path at by e → e < since) (sym c.in-Some.ensures.cases.0)
    (none_step T c.args.ridden c.args.at at by step rest c.last_moment.ensures.valid alighted last leg serves most since
    (subst (λ (o : Option ℕ). (e w : ℕ) → o ≡ Some w → e + w ≤ departs T leg → e < since) walk
    (subst (λ (m : ℕ). (e w : ℕ) → c.hop.result ≡ Some w → e + w ≤ m → e < since) leaves none))))
    c.back-2.ensures.none

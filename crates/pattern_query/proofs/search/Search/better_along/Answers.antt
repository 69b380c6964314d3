use Rattle.std.proofs.Common.{◌≡◌, ℕ, ◌<◌, ◌≤◌, false, arith, sym, ◌∙◌, subst, inl, inr, le_of_lt, true≢false}
use Rattle.std.proofs.lemmas.Bool.{cases_lt}
use Rattle.timetable.specs.Table.{Table}
use Rattle.pattern_query.specs.Leaving.{walked, on_foot, CanTake, IsLastMoment, IsFound}
use Rattle.pattern_query.proofs.MomentSteps.{takes_early}
use Rattle.pattern_query.proofs.BetterSteps.{none_as_late, none_walks_less, alone_better, alone_there}
use Rattle.pattern_query.proofs.search.Search.better_along.Goals as goal

pub returns-in_err-moment-clause-none : goal.returns-in_err-moment-clause-none
returns-in_err-moment-clause-none c =
    let T = c.args.self.now.network.now in
    let s = c.args.self.now.source in
    let path = c.args.path.now in
    let p = c.args.point.now in
    let from = c.from_moment.ensures in
    let None' = λ (table : Table) (t a d : ℕ). (e : ℕ) → CanTake table false s path t a e → e < d in
    let none : None' T c.args.self.now.to p.arrival p.departure =
    subst (λ (d : ℕ). None' T c.args.self.now.to p.arrival d) (from.depart ∙ c.departure.ensures)
    (subst (λ (a : ℕ). None' T c.args.self.now.to a c.from_moment.result.depart) c.arrival.ensures
    (subst (λ (t : ℕ). None' T t c.arrival.result c.from_moment.result.depart) from.to
    (subst (λ (table : Table). None' table c.from_moment.result.to c.arrival.result c.from_moment.result.depart) from.network c.in_err-moment.ensures.none))) in
    rw c.from_residual.ensures (none_as_late T s c.args.self.now.to path c.args.self.now.depart p none)

pub returns-then-walks_no_less-clause-none : goal.returns-then-walks_no_less-clause-none
returns-then-walks_no_less-clause-none c =
    let T = c.args.self.now.network.now in
    let s = c.args.self.now.source in
    let path = c.args.path.now in
    let p = c.args.point.now in
    let e = c.in_ok-moment.moment in
    let from = c.from_moment.ensures in
    let Last = λ (table : Table) (t a : ℕ). IsLastMoment (CanTake table false s path t a) e in
    let last : Last T c.args.self.now.to p.arrival =
    subst (λ (a : ℕ). Last T c.args.self.now.to a) c.arrival.ensures
    (subst (λ (t : ℕ). Last T t c.arrival.result) from.to
    (subst (λ (table : Table). Last table c.from_moment.result.to c.arrival.result) from.network c.in_ok-moment.ensures.last)) in
    let both = c.walks_no_less.ensures.0 c.if-walks_no_less.true in
    none_walks_less T s c.args.self.now.to path c.args.self.now.depart p e last both.0 both.1

pub alone-requires-clause-early : goal.alone-requires-clause-early
alone-requires-clause-early c =
    let path = c.args.path.now in
    let early = takes_early c.from_moment.result.network.now false c.args.self.now.source path c.from_moment.result.to c.arrival.result c.in_ok-moment.moment
    c.in_ok-moment.ensures.valid c.requires.some c.in_ok-moment.ensures.last.0 in
    let is = c.from_moment-2.ensures.depart in
    omega (arith, early, is)

pub returns-clause-better : goal.returns-clause-better
returns-clause-better c =
    let T = c.args.self.now.network.now in
    let s = c.args.self.now.source in
    let t = c.args.self.now.to in
    let path = c.args.path.now in
    let p = c.args.point.now in
    let e = c.in_ok-moment.moment in
    let from = c.from_moment.ensures in
    let Last = λ (table : Table) (t a : ℕ). IsLastMoment (CanTake table false s path t a) e in
    let last : Last T t p.arrival =
    subst (λ (a : ℕ). Last T t a) c.arrival.ensures
    (subst (λ (t : ℕ). Last T t c.arrival.result) from.to
    (subst (λ (table : Table). Last table c.from_moment.result.to c.arrival.result) from.network c.in_ok-moment.ensures.last)) in
    let then = c.from_moment-2.ensures in
    let found = c.alone.result in
    let is : IsFound T s t e path found =
    subst (λ (d : ℕ). IsFound T s t d path found) then.depart
    (subst (λ (t : ℕ). IsFound T s t c.from_moment-2.result.depart path found) then.to
    (subst (λ (x : ℕ). IsFound T x c.from_moment-2.result.to c.from_moment-2.result.depart path found) then.source
    (subst (λ (table : Table). IsFound table c.from_moment-2.result.source c.from_moment-2.result.to c.from_moment-2.result.depart path found) then.network c.alone.ensures))) in
    let since = c.in_ok-moment.ensures.since in
    let is' = from.depart in
    let leaves = c.departure.ensures in
    let late : p.departure ≤ e = omega (arith, since, is', leaves) in
    let walk : e ≡ p.departure → walked T s path t ≤ on_foot T p = λ same. elim (cases_lt (walked T s path t) (on_foot T p)) [
      | inl lt ↦ le_of_lt lt
      | inr ge ↦ absurd (true≢false (sym (c.walks_no_less.ensures.1 (same, ge)) ∙ c.if-walks_no_less.false))
    ] in
    alone_better T s t path c.args.self.now.depart p e last c.requires.some c.requires.after late walk found is

pub returns-clause-none : goal.returns-clause-none
returns-clause-none c =
    let T = c.args.self.now.network.now in
    let s = c.args.self.now.source in
    let t = c.args.self.now.to in
    let path = c.args.path.now in
    let p = c.args.point.now in
    let e = c.in_ok-moment.moment in
    let from = c.from_moment.ensures in
    let Last = λ (table : Table) (t a : ℕ). IsLastMoment (CanTake table false s path t a) e in
    let last : Last T t p.arrival =
    subst (λ (a : ℕ). Last T t a) c.arrival.ensures
    (subst (λ (t : ℕ). Last T t c.arrival.result) from.to
    (subst (λ (table : Table). Last table c.from_moment.result.to c.arrival.result) from.network c.in_ok-moment.ensures.last)) in
    let then = c.from_moment-2.ensures in
    let found = c.alone.result in
    let is : IsFound T s t e path found =
    subst (λ (d : ℕ). IsFound T s t d path found) then.depart
    (subst (λ (t : ℕ). IsFound T s t c.from_moment-2.result.depart path found) then.to
    (subst (λ (x : ℕ). IsFound T x c.from_moment-2.result.to c.from_moment-2.result.depart path found) then.source
    (subst (λ (table : Table). IsFound table c.from_moment-2.result.source c.from_moment-2.result.to c.from_moment-2.result.depart path found) then.network c.alone.ensures))) in
    alone_there T s t path c.args.self.now.depart p e last _ found is

use Rattle.std.proofs.Common.{Option, Some, None, ◌≡◌, ℕ, ◌+◌, ◌-◌, ◌/◌, ◌≤◌, MatchOption, arith, refl, sym, subst}
use Rattle.timetable.specs.Journeys.{IsLeast, foot}
use Rattle.reaching.specs.Steps.{IsNeverThere, is_within, tally}
use Rattle.reaching.specs.TravelTimes.{AreTimes}
use Rattle.reaching.proofs.TimesFacts.{never_there, rank_is}
use Rattle.reaching.proofs.travelling.times_to.Goals as goal

pub returns : goal.returns
returns c =
    let T = c.args.table.now in
    let s = c.args.from in
    let t = c.args.stop in
    let first = c.args.first in
    let last = c.args.last in
    let steps = c.args.steps.now in
    let high = c.from.ensures in
    let low = c.from-2.ensures in
    let seconds : c.from.result + 1 - c.from-2.result ≡ last + 1 - first = omega (arith, high, low) in
    let up = c.div_ceil.ensures in
    let half : c.div_ceil.result ≡ (last + 1 - first + 1) / 2 = omega (arith, up, seconds) in
    let of = λ (j : ℕ) (o : Option ℕ). IsLeast (λ x. j ≤ tally (is_within (foot T s t) steps x) first (last + 1 - first)) o in
    let by = λ (walk : Option ℕ) (j : ℕ) (o : Option ℕ). IsLeast (λ x. j ≤ tally (is_within walk steps x) first (last + 1 - first)) o in
    record {
      stop = refl;
      right = λ k covers. record {
        least = rank_is T k s t first last c.requires.some steps covers 1 (Some c.in_ok-least.least)
            (subst (λ (walk : Option ℕ). by walk 1 (Some c.in_ok-least.least)) c.on_foot-walk.ensures c.in_ok-least.ensures);
        median = rank_is T k s t first last c.requires.some steps covers ((last + 1 - first + 1) / 2) c.rank-2.result
            (subst (λ (j : ℕ). of j c.rank-2.result) half
            (subst (λ (walk : Option ℕ). by walk c.div_ceil.result c.rank-2.result) c.on_foot-walk.ensures c.rank-2.ensures));
        greatest = rank_is T k s t first last c.requires.some steps covers (last + 1 - first) c.rank-3.result
            (subst (λ (j : ℕ). of j c.rank-3.result) seconds
            (subst (λ (walk : Option ℕ). by walk (c.from.result + 1 - c.from-2.result) c.rank-3.result)
            c.on_foot-walk.ensures c.rank-3.ensures));
      };
    }

pub returns-in_err-least-clause-right : goal.returns-in_err-least-clause-right
returns-in_err-least-clause-right c = λ k covers.
    let T = c.args.table.now in
    let s = c.args.from in
    let t = c.args.stop in
    let first = c.args.first in
    let last = c.args.last in
    let steps = c.args.steps.now in
    let none : IsLeast (λ x. 1 ≤ tally (is_within (foot T s t) steps x) first (last + 1 - first)) None =
    subst (λ (walk : Option ℕ). IsLeast (λ x. 1 ≤ tally (is_within walk steps x) first (last + 1 - first)) None)
    c.on_foot-walk.ensures c.in_err-least.ensures in
    let e = c.from_residual.ensures in
    subst (λ (o : Option _). MatchOption o (IsNeverThere T k s t first last) (AreTimes T k s first last)) (sym e)
    (never_there T k s t first last c.requires.some steps covers (rank_is T k s t first last c.requires.some steps covers 1 None none))

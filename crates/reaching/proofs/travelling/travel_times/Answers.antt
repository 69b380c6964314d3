use Rattle.std.proofs.Common.{ℕ, ◌<◌, List, Vec, Global, sym, subst}
use Rattle.std.proofs.lemmas.Result.{IfOk-weaker}
use Rattle.timetable.specs.Table.{stops_of}
use Rattle.rounds.specs.Scratch.{rides_of}
use Rattle.reaching.specs.declared.steps.Step.{Step}
use Rattle.reaching.specs.declared.travel_time.TravelTimes.{TravelTimes}
use Rattle.reaching.specs.Steps.{AreSteps, AreTimesBelow, Covers, steps_at}
use Rattle.reaching.specs.TravelTimes.{AreTravelTimes}
use Rattle.reaching.proofs.TimesFacts.{times_all}
use Rattle.reaching.proofs.travelling.travel_times.Goals as goal

pub list_times-requires-clause-steps : goal.list_times-requires-clause-steps
list_times-requires-clause-steps c = λ t known.
    subst (λ (all : List (List Step)). AreSteps c.args.first c.args.last (steps_at all t)) (sym c.deref.ensures.value)
    (c.in_ok-all.ensures.right t known).sound

pub returns-clause-right : goal.returns-clause-right
returns-clause-right c =
    let T = c.args.table.now in
    let k = rides_of c.args.scratch.now in
    let first = c.args.first in
    let last = c.args.last in
    let all = c.deref.result.now in
    let covers = λ (t : ℕ) (known : t < stops_of T).
    subst (λ (l : List (List Step)). Covers T k c.args.from t first last (steps_at l t)) (sym c.deref.ensures.value)
    (c.in_ok-all.ensures.right t known) in
    IfOk-weaker c.list_times.result
    (λ (list : Vec TravelTimes Global). (k : ℕ) → ((t : ℕ) → t < stops_of T → Covers T k c.args.from t first last (steps_at all t))
    → AreTimesBelow T k c.args.from first last (stops_of T) list.items)
    (λ (list : Vec TravelTimes Global). AreTravelTimes T k c.args.from c.args.first c.args.last list.items)
    (λ list are. times_all T k c.args.from c.args.first c.args.last list.items (are k covers)) c.list_times.ensures

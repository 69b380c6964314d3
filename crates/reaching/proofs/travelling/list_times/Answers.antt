use Rattle.std.proofs.Common.{Option, ◌≡◌, ℕ, ◌+◌, ◌<◌, List, [], length, MatchOption, IfSome, arith, sym, ◌∙◌, subst}
use Rattle.std.proofs.lemmas.List.{get_or_default}
use Rattle.timetable.specs.Table.{stops_of}
use Rattle.reaching.specs.declared.steps.Step.{Step}
use Rattle.reaching.specs.declared.travel_time.TravelTimes.{TravelTimes}
use Rattle.reaching.specs.Steps.{AreSteps, AreTimesBelow, Covers, IsNeverThere, steps_at}
use Rattle.reaching.specs.TravelTimes.{AreTimes}
use Rattle.reaching.proofs.TimesFacts.{below_more, below_same}
use Rattle.reaching.proofs.travelling.list_times.Goals as goal
use Rattle.reaching.proofs.travelling.list_times.Goals.{in-Some+in_ok-push, in_default}

pub times_to-requires-clause-steps : goal.times_to-requires-clause-steps
times_to-requires-clause-steps c =
    let all = c.args.all.now in
    let n = c.loop-number.number in
    let steps = c.index-all-number.result in
    let lt = c.loop-number-test.true in
    let end = c.stops-number-end.ensures.value in
    let known : n < stops_of c.args.table.now = omega (arith, lt, end) in
    let in' : n < length all = (let count = c.requires.count in omega (arith, known, count)) in
    let is : steps_at all n ≡ steps = get_or_default all n [] steps in' ∙ sym c.index-all-number.is in
    subst (λ (l : List Step). AreSteps c.args.first c.args.last l) is (c.requires.steps n known)

pub loop-number-preserved : goal.loop-number-preserved
loop-number-preserved c = λ k covers.
    let T = c.args.table.now in
    let s = c.args.from in
    let first = c.args.first in
    let last = c.args.last in
    let all = c.args.all.now in
    let n = c.loop-number.number in
    let list = c.loop-number.list.items in
    let steps = c.index-all-number.result in
    let lt = c.loop-number-test.true in
    let end = c.stops-number-end.ensures.value in
    let known : n < stops_of T = omega (arith, lt, end) in
    let in' : n < length all = (let count = c.requires.count in omega (arith, known, count)) in
    let is : steps_at all n ≡ steps = get_or_default all n [] steps in' ∙ sym c.index-all-number.is in
    let here : c.new-stop.result ≡ n = c.new-stop.ensures in
    let inv = c.loop-number.invariant k covers in
    let right = c.times_to.ensures.right k (subst (λ (t : ℕ). Covers T k s t first last steps) (sym here)
    (subst (λ (l : List Step). Covers T k s n first last l) is (covers n known))) in
    let Told = λ (o : Option TravelTimes). MatchOption o (IsNeverThere T k s c.new-stop.result first last) (AreTimes T k s first last) in
    elim c.match-times_to.branch [
      | in-Some+in_ok-push w ↦
          let r = w.in-Some.times in
          let are = subst (λ (o : Option TravelTimes). Told o) w.in-Some.is right in
          let stop =
          subst (λ (o : Option TravelTimes). IfSome o (λ times. times.stop ≡ c.new-stop.result)) w.in-Some.is c.times_to.ensures.stop in
          rw w.list-is (subst (λ (items : List TravelTimes). AreTimesBelow T k s first last (n + 1) items) (sym w.in_ok-push.ensures.items)
          (below_more T k s first last n list r inv (stop ∙ here) are))
      | in_default w ↦
          let never = subst (λ (o : Option TravelTimes). Told o) w.in_default.is right in
          rw w.list-is (below_same T k s first last n list inv (subst (λ (t : ℕ). IsNeverThere T k s t first last) here never))
    ]

pub returns : goal.returns
returns c = λ k covers.
    let past = c.loop-number-test.false in
    let most = c.loop-number.auto.number-end in
    let end = c.stops-number-end.ensures.value in
    let all : c.loop-number.number ≡ stops_of c.args.table.now = omega (arith, past, most, end) in
    subst (λ (n : ℕ). AreTimesBelow c.args.table.now k c.args.from c.args.first c.args.last n c.loop-number.list.items) all
    (c.loop-number.invariant k covers)

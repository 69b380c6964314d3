use Rattle.std.proofs.Common.{Option, ◌≡◌, ℕ, ◌+◌, ◌^◌, ◌<◌, List, [], ◌∷◌, ◌++◌, length, take, get_or, set, Vec, Global, arith, refl, sym, ◌∙◌, ap, subst, inl, inr}
use Rattle.std.specs.List.{Contains}
use Rattle.std.proofs.lemmas.Bool.{cases_eq}
use Rattle.std.proofs.lemmas.List.{get_or_default, get_or-set_other, get_or-set_same, length-set, take_all}
use Rattle.std.proofs.lemmas.List.Elements.{Contains-get_or}
use Rattle.timetable.specs.Front.{IsSooner}
use Rattle.rounds.specs.Mark.{arrival_in, moment_in}
use Rattle.rounds.specs.Scratch.{rounds_of, before_of}
use Rattle.reaching.specs.declared.steps.Step.{Step}
use Rattle.reaching.specs.Steps.{steps_at}
use Rattle.reaching.proofs.WindowFacts.{AddedSoFar, added_all, added_here, added_none, added_there}
use Rattle.reaching.proofs.gathering.add_steps.Goals as goal
use Rattle.reaching.proofs.gathering.add_steps.Goals.{in-Some+in_ok-push, in_default}

pub index_mut-requires : goal.index_mut-requires
index_mut-requires c =
    let stop = c.stop-item.result in
    let list = c.lowered-stop-items.result.now in
    let i = c.loop-stop.stop-index in
    let there : Contains list stop =
    subst (λ (s : ℕ). Contains list s) (sym c.stop-item.is) (Contains-get_or list i stop c.loop-stop-test.true) in
    let sooner = (c.lowered-stop-items.ensures stop).0 there in
    let known = c.requires.known stop sooner in
    let number = c.number.ensures.value in
    let count = c.loop-stop.invariant.count in
    omega (arith, known, number, count)

pub loop-stop-init : goal.loop-stop-init
loop-stop-init c = record {
  count = refl;
  each = λ t. added_none t c.args.until
      (arrival_in (rounds_of c.args.view.now) c.args.rides t) (moment_in (before_of c.args.view.now) c.args.rides t)
      (steps_at c.args.all.now.items t);
}

pub loop-stop-preserved : goal.loop-stop-preserved
loop-stop-preserved c =
    let stop = c.stop-item.result in
    let list = c.lowered-stop-items.result.now in
    let i = c.loop-stop.stop-index in
    let until = c.args.until in
    let now = λ (t : ℕ). arrival_in (rounds_of c.args.view.now) c.args.rides t in
    let before = λ (t : ℕ). moment_in (before_of c.args.view.now) c.args.rides t in
    let all = c.loop-stop.all.items in
    let is : get_or list i stop ≡ stop = sym c.stop-item.is in
    let there : Contains list stop = subst (λ (s : ℕ). Contains list s) is (Contains-get_or list i stop c.loop-stop-test.true) in
    let sooner : IsSooner (now stop) (before stop) = (c.lowered-stop-items.ensures stop).0 there in
    let known = c.requires.known stop sooner in
    elim c.match-arrival.branch [
      | in-Some+in_ok-push w ↦
          let a = w.in-Some.arrival in
          let number : w.number.result ≡ stop = w.number.ensures.value in
          let in' : stop < length all = (let count = c.loop-stop.invariant.count in omega (arith, known, count)) in
          let items : c.match-arrival.all.items ≡ set all stop w.push.new.self =
          ap (λ (v : Vec (List Step) Global). v.items) w.all-is ∙ ap (λ (n : ℕ). set all n w.push.new.self) number in
          let small : a < 2 ^ 32 = w.push.ensures.small in
          let grown : w.push.new.self ≡ steps_at all stop ++ record { until = until; arrival = a } ∷ [] =
          w.in_ok-push.ensures.items ∙ ap (λ (l : List Step). l ++ record { until = until; arrival = a } ∷ [])
          (w.index_mut.ensures.value ∙ ap (λ (n : ℕ). get_or all n w.index_mut.result.now) number ∙ get_or_default all stop
          w.index_mut.result.now [] in') in
          record {
            count = ap length items ∙ length-set all stop w.push.new.self ∙ c.loop-stop.invariant.count;
            each = λ t. elim (cases_eq t stop) [
              | inl same ↦ subst (λ (t : ℕ). AddedSoFar (take (i + 1) list) t until (now t) (before t) (steps_at c.args.all.now.items t)
                  (steps_at c.match-arrival.all.items t)) (sym same)
                  (added_here list i until c.loop-stop-test.true stop is (now stop) (before stop) a (steps_at c.args.all.now.items stop)
                  (steps_at all stop)
                  (steps_at c.match-arrival.all.items stop) (sym c.arrival.ensures ∙ w.in-Some.is) small sooner
                  (c.loop-stop.invariant.each stop)
                  (ap (λ (l : List (List Step)). steps_at l stop) items ∙ get_or-set_same all stop w.push.new.self [] in' ∙ grown))
              | inr apart ↦ added_there list i until c.loop-stop-test.true stop is t (now t) (before t) (steps_at c.args.all.now.items t)
                  (steps_at all t)
                  (steps_at c.match-arrival.all.items t) apart (c.loop-stop.invariant.each t)
                  (ap (λ (l : List (List Step)). steps_at l t) items ∙ get_or-set_other all stop t w.push.new.self [] apart)
            ];
          }
      | in_default w ↦ absurd (subst (λ (o : Option ℕ). IsSooner o (before stop)) (sym c.arrival.ensures ∙ w.in_default.is) sooner)
    ]

pub returns-clause-added : goal.returns-clause-added
returns-clause-added c = λ t.
    let list = c.lowered-stop-items.result.now in
    let now = arrival_in (rounds_of c.args.view.now) c.args.rides t in
    let before = moment_in (before_of c.args.view.now) c.args.rides t in
    added_all list t c.args.until now before (steps_at c.args.all.now.items t) (steps_at c.loop-stop.all.items t)
    (c.lowered-stop-items.ensures t).1
    (subst (λ (seen : List ℕ). AddedSoFar seen t c.args.until now before (steps_at c.args.all.now.items t)
    (steps_at c.loop-stop.all.items t)) (take_all c.loop-stop.stop-index list c.loop-stop-test.false) (c.loop-stop.invariant.each t))

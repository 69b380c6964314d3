use Rattle.std.proofs.Common.{◌∙◌, ◌<◌, ℕ, below_more, arith, sym, subst}
use Rattle.std.proofs.lemmas.Bool.{false≢true}
use Rattle.timetable.specs.Table.{Table, stops_of}
use Rattle.auditing.specs.Audits.{Agrees}
use Rattle.auditing.proofs.comparing.first_stop.Goals.{else-is_marked-via-then-is_marked+in_ok-agree+else-not-branch, else-is_marked-via-else-is_marked}
use Rattle.auditing.proofs.comparing.first_stop.Goals as goal

pub returns-then-not-branch-clause-first : goal.returns-then-not-branch-clause-first
returns-then-not-branch-clause-first c = λ unmarked.
    let number = c.loop-number.number in
    let within : number < stops_of c.args.network.now = subst (λ (x : Table). number < stops_of x) c.timetable.ensures.value
    (let e = c.stops-number-end.ensures.value in let lt = c.loop-number-test.true in omega (arith, e, lt)) in (
      subst (λ (s : ℕ). s < stops_of c.args.network.now) (sym c.new-stop.ensures) within,
      λ agrees. false≢true (sym c.if-not-branch.true ∙ c.in_ok-agree.ensures.1 agrees),
      λ t lt. c.loop-number.invariant unmarked t (subst (λ (s : ℕ). t < s) c.new-stop.ensures lt),
    )

pub loop-number-preserved : goal.loop-number-preserved
loop-number-preserved c = λ unmarked.
    let here : Agrees c.args.network.now c.args.patterns.now c.args.rides c.args.depart c.loop-number.number = elim c.else-is_marked.branch [
      | else-is_marked-via-then-is_marked+in_ok-agree+else-not-branch w ↦
          subst (λ (t : ℕ). Agrees c.args.network.now c.args.patterns.now c.args.rides c.args.depart t) c.new-stop.ensures (w.in_ok-agree.ensures.0 w.if-not-branch.false)
      | else-is_marked-via-else-is_marked w ↦ unmarked c.loop-number.number (sym c.is_marked.ensures ∙ w.if-is_marked.false) c.args.depart
    ] in
    below_more (λ (t : ℕ). Agrees c.args.network.now c.args.patterns.now c.args.rides c.args.depart t) c.loop-number.number (c.loop-number.invariant unmarked) here

pub returns-clause-first : goal.returns-clause-first
returns-clause-first c = λ unmarked t lt.
    c.loop-number.invariant unmarked t
    (let s = subst (λ (x : Table). t < stops_of x) (sym c.timetable.ensures.value) lt in let e = c.stops-number-end.ensures.value in let all = c.loop-number-test.false in omega (arith, s, e, all))

pub returns-then-not-branch-clause-within : goal.returns-then-not-branch-clause-within
returns-then-not-branch-clause-within c =
    let number = c.loop-number.number in
    subst (λ (s : ℕ). s < stops_of c.args.network.now) (sym c.new-stop.ensures) (subst (λ (x : Table). number < stops_of x) c.timetable.ensures.value
    (let e = c.stops-number-end.ensures.value in let lt = c.loop-number-test.true in omega (arith, e, lt)))

use Rattle.std.proofs.Common.{◌≡◌, suc, ℕ, List, ◌++◌, ◌∷◌, [], Option, None, arith, add-one, sym, ◌∙◌, ap, subst}
use Rattle.timetable.specs.declared.parts.TheConstants.{LATEST_MOMENT}
use Rattle.timetable.specs.Table.{Table, IsTable}
use Rattle.timetable.specs.Journeys.{foot, link}
use Rattle.rounds.specs.Mark.{Mark, AllEarly}
use Rattle.rounds.specs.Moves.{Scanned}
use Rattle.rounds.specs.Answers.{AreRounds}
use Rattle.stop_labels.specs.Row.{RowData, SameRow, ByThen, when, settled_of}
use Rattle.rounds.specs.Layers.{Stepped}
use Rattle.rounds.proofs.MarkSteps.{Filled, filled_more, rounds_are, rode_early, scanned_rides}
use Rattle.rounds.proofs.KeptSteps.{ready_short}
use Rattle.rounds.proofs.plain.add_rounds.Goals as goal

-- one alights no later than a table's latest time
early : (table : Table) (s d r : ℕ) (ready old new : RowData) (rounds : List (List (Option Mark))) → IsTable table → Filled table s d r ready.marks old.marks rounds → SameRow old new
    → Scanned table (λ _. Unit {0}) ready.marks old.marks new.marks → AllEarly LATEST_MOMENT new.marks
early table s d r ready old new rounds valid is same scan = rode_early table s d (suc r) new.marks valid (scanned_rides table s d r ready.marks old.marks new.marks valid same.size is.readies is.rides scan)

-- in a row that was never settled nothing is done
nothing : (gap : ℕ → ℕ → Option ℕ) (old new : RowData) (marks : List (Option Mark)) → ((p : ℕ) → settled_of old p ≡ None) → SameRow old new → Stepped gap (settled_of new) marks
nothing gap old new marks fresh same p q w a h e =
    absurd (subst (λ (o : Option ℕ). ByThen o a) (fresh p) (subst (λ (ms : List (Option ℕ)). ByThen (when ms p) a) same.settled h))

pub ride_all-requires-clause-readies : goal.ride_all-requires-clause-readies
ride_all-requires-clause-readies c = let b = c.requires.ready in (c.loop.invariant.filled b.0 b.1 b.2).readies.size

pub ride_all-requires-clause-size : goal.ride_all-requires-clause-size
ride_all-requires-clause-size c = let b = c.requires.ready in (c.loop.invariant.filled b.0 b.1 b.2).rides.size

pub ride_all-requires-clause-short : goal.ride_all-requires-clause-short
ride_all-requires-clause-short c =
    let b = c.requires.ready in
    ready_short c.args.table.now b.0 b.1 c.loop.counter c.loop.ready.marks (let few = c.number-end.ensures.few in omega (arith, few)) (c.loop.invariant.filled b.0 b.1 b.2).readies

pub walk_on-requires-clause-starts : goal.walk_on-requires-clause-starts
walk_on-requires-clause-starts c = let b = c.requires.ready in c.ride_all.ensures.same.size ∙ (c.loop.invariant.filled b.0 b.1 b.2).rides.size

pub walk_on-requires-clause-early : goal.walk_on-requires-clause-early
walk_on-requires-clause-early c =
    let b = c.requires.ready in
    early c.args.table.now b.0 b.1 c.loop.counter c.loop.ready c.loop.rode c.ride_all.new.rode c.loop.rounds c.stops-stops.ensures.valid
    (c.loop.invariant.filled b.0 b.1 b.2) c.ride_all.ensures.same c.ride_all.ensures.scanned

pub walk_on-requires-clause-rest : goal.walk_on-requires-clause-rest
walk_on-requires-clause-rest c =
    nothing (foot c.args.table.now) c.loop.rode c.ride_all.new.rode c.in_ok-labels.labels.marks c.loop.invariant.fresh c.ride_all.ensures.same

pub walk_on-requires-in-loop-clause-starts : goal.walk_on-requires-in-loop-clause-starts
walk_on-requires-in-loop-clause-starts c = let b = c.requires.ready in c.ride_all.ensures.same.size ∙ (c.loop.invariant.filled b.0 b.1 b.2).rides.size

pub walk_on-requires-in-loop-clause-size : goal.walk_on-requires-in-loop-clause-size
walk_on-requires-in-loop-clause-size c = let b = c.requires.ready in (c.loop.invariant.filled b.0 b.1 b.2).readies.size

pub walk_on-requires-in-loop-clause-early : goal.walk_on-requires-in-loop-clause-early
walk_on-requires-in-loop-clause-early c =
    let b = c.requires.ready in
    early c.args.table.now b.0 b.1 c.loop.counter c.loop.ready c.loop.rode c.ride_all.new.rode c.loop.rounds c.stops-stops.ensures.valid
    (c.loop.invariant.filled b.0 b.1 b.2) c.ride_all.ensures.same c.ride_all.ensures.scanned

pub walk_on-requires-in-loop-clause-rest : goal.walk_on-requires-in-loop-clause-rest
walk_on-requires-in-loop-clause-rest c =
    nothing (link c.args.table.now) c.loop.rode c.ride_all.new.rode c.loop.ready.marks c.loop.invariant.fresh c.ride_all.ensures.same

pub loop-preserved : goal.loop-preserved
loop-preserved c =
    let T = c.args.table.now in
    let rode = c.ride_all.new.rode in
    let labels = c.walk_on.new.row in
    let ready = c.walk_on-in-loop.new.row in
    let pushed : c.push.new.self ≡ c.loop.rounds ++ labels.marks ∷ [] = c.in_ok-push.ensures in
    record {
      filled = λ s d h.
          rw add-one (subst (λ x. Filled T s d (suc c.loop.counter) ready.marks rode.marks x) (sym pushed)
          (filled_more T s d c.loop.counter c.loop.ready.marks c.loop.rode.marks rode.marks ready.marks c.in_ok-labels.labels.marks labels.marks
          c.loop.rounds c.stops-stops.ensures.valid c.ride_all.ensures.same.size c.walk_on-in-loop.ensures.same.size
          (c.walk_on.ensures.same.size ∙ (c.in_ok-labels.ensures.size ∙ c.stops-stops.ensures.value))
          c.in_ok-labels.ensures.none c.ride_all.ensures.scanned c.walk_on.ensures.walks c.walk_on-in-loop.ensures.walks (c.loop.invariant.filled s d h)));
      fresh = λ p. ap (λ (ms : List (Option ℕ)). when ms p) c.ride_all.ensures.same.settled ∙ c.loop.invariant.fresh p;
    }

pub returns : goal.returns
returns c =
    let e : c.loop.counter ≡ c.args.rides = omega arith in
    λ s d h. subst (λ k. AreRounds c.args.table.now s d k c.loop.rounds) e
    (let f = c.loop.invariant.filled s d h in
    rounds_are c.args.table.now s d c.loop.counter c.loop.rounds (record { count = f.count; sizes = f.sizes; journeys = f.journeys }))

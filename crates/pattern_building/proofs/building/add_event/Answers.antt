use Rattle.std.proofs.Common.{Option, ◌≡◌, ℕ, ◌+◌, ◌≤◌, inl, arith, refl, ◌∙◌, ap, subst, List, ◌∷◌, Err}
use Rattle.timetable.specs.Table.{Table, stops_of}
use Rattle.rounds.specs.Mark.{Mark}
use Rattle.rounds.specs.Answers.{AreRounds}
use Rattle.rounds.specs.Scratch.{rounds_of, before_of, rides_of, source_of, kept_of}
use Rattle.pattern_tree.specs.declared.fault.TreeFault.{TreeFault}
use Rattle.pattern_tree.specs.Forest.{Pair}
use Rattle.pattern_tree.specs.Completeness.{Earned}
use Rattle.pattern_building.specs.RoundPairs.{InRound, UpToRound, AddsGiven, HasGiven}
use Rattle.pattern_building.specs.Lowered.{Lowered}
use Rattle.pattern_building.proofs.LaterFacts.{later_kept, lowered_round}
use Rattle.pattern_building.proofs.GivenFacts.{given_wider, adds_wider, adds_then, has_then, more_rounds, own_round, adds_front}
use Rattle.pattern_building.proofs.BestFacts.{earned_up, complete_given}
use Rattle.pattern_building.proofs.CompleteFacts.{end_inside, event_early, too_many, same_fault}
use Rattle.pattern_building.proofs.building.add_event.Goals as goal

pub loop-round-init : goal.loop-round-init
loop-round-init g c = record {
  source = refl;
  once = c.requires.once;
  adds = λ p h. inl h;
  keeps = λ p h. h;
  all = λ p given. let a = given.1.0.0 in let b = given.1.0.1 in absurd (omega (arith, a, b));
}

pub loop-round-preserved : goal.loop-round-preserved
loop-round-preserved g c =
    let inv = c.loop-round.invariant in
    let now = c.in_ok-add_round.ensures in
    let rounds = rounds_of c.in_ok-view.view in
    let n = c.stops-stops.result in
    let r = c.loop-round.round in
    let old = c.loop-round.tree.pairs in
    let new = c.add_round.new.tree.pairs in
    let before = before_of c.in_ok-view.view in
    record {
      source = now.source ∙ inv.source;
      once = now.once;
      adds = adds_then rounds (UpToRound r n) (UpToRound (r + 1) n) c.args.tree.now.pairs old new (λ i t h. more_rounds r (r + 1) n i t (omega arith) h) inv.adds
          (adds_wider rounds (InRound (r + 1) n) (UpToRound (r + 1) n) old new (own_round r n) now.adds);
      keeps = λ p h. now.keeps p (inv.keeps p h);
      all = has_then rounds (Lowered rounds before (UpToRound r n)) (Lowered rounds before (InRound (r + 1) n)) (Lowered rounds before (UpToRound (r + 1) n))
          old new (lowered_round rounds before r n) inv.all now.keeps now.all;
    }

pub run_kept-requires-clause-early : goal.run_kept-requires-clause-early
run_kept-requires-clause-early g c = event_early c.args.table.now (source_of c.args.scratch.now) c.args.event c.stops-stops.ensures.valid c.requires.event

pub returns-clause-complete : goal.returns-clause-complete
returns-clause-complete g c =
    let T = c.args.table.now in
    let s = source_of c.args.scratch.now in
    let before = before_of c.in_ok-view.view in
    let k = rides_of c.args.scratch.now in
    let rounds = rounds_of c.in_ok-view.view in
    let n = c.stops-stops.result in
    let r = c.loop-round.round in
    let content = c.loop-round.tree.pairs in
    let inv = c.loop-round.invariant in
    let e = c.rides-rides.ensures in
    let t = c.loop-round-test.false in
    let most : k ≤ r = omega arith in
    complete_given T s k c.args.event rounds c.in_ok-view.ensures.right content (kept_of c.args.scratch.now) before
    (end_inside T s c.args.event c.stops-stops.ensures.valid) c.in_ok-view.ensures.before
    (later_kept T s k c.args.event c.args.tree.now.pairs content (kept_of c.args.scratch.now) inv.keeps c.requires.later)
    (subst (λ (m : ℕ). HasGiven rounds (Lowered rounds before (UpToRound k m)) content) c.stops-stops.ensures.value
    (λ p given. inv.all p (given.0, (more_rounds k r n given.0 p.1 most given.1.0, given.1.1), given.2)))

pub returns-clause-earned : goal.returns-clause-earned
returns-clause-earned g c =
    let k = rides_of c.args.scratch.now in
    let rounds = rounds_of c.in_ok-view.view in
    let n = c.stops-stops.result in
    let r = c.loop-round.round in
    let content = c.loop-round.tree.pairs in
    let e = c.rides-rides.ensures in
    let v = c.number-round-end.ensures.value in
    let l = c.loop-round.auto.round-end in
    let few : r ≤ k = omega (arith, e, v, l) in
    earned_up c.args.table.now (source_of c.args.scratch.now) k c.args.event rounds c.in_ok-view.ensures.right n c.args.tree.now.pairs content c.stops-stops.ensures.value
    (adds_wider rounds (UpToRound r n) (UpToRound k n) c.args.tree.now.pairs content (λ i t h. more_rounds r k n i t few h) c.loop-round.invariant.adds)
    c.requires.earned

-- what a round adds that ends with a fault
earned_so_far : (table : Table) (s k d : ℕ) (rounds : List (List (Option Mark))) → AreRounds table s d k rounds → (n r : ℕ) (first old new : List Pair)
    → n ≡ stops_of table → r + 1 ≤ k → AddsGiven rounds (UpToRound r n) first old → AddsGiven rounds (InRound (r + 1) n) old new
    → Earned table k s first → Earned table k s new
earned_so_far table s k d rounds are n r first old new same few before now earned =
    earned_up table s k d rounds are n first new same
    (adds_then rounds (UpToRound r n) (UpToRound k n) first old new (λ i t h. more_rounds r k n i t (omega (arith, few)) h) before
    (adds_wider rounds (InRound (r + 1) n) (UpToRound k n) old new (λ i t h. more_rounds (r + 1) k n i t few (own_round r n i t h)) now))
    earned

pub returns-in_err-add_round-clause-earned : goal.returns-in_err-add_round-clause-earned
returns-in_err-add_round-clause-earned g c =
    let e = c.rides-rides.ensures in
    let v = c.number-round-end.ensures.value in
    let l = c.loop-round-test.true in
    earned_so_far c.args.table.now (source_of c.args.scratch.now) (rides_of c.args.scratch.now) c.args.event (rounds_of c.in_ok-view.view) c.in_ok-view.ensures.right
    c.stops-stops.result c.loop-round.round c.args.tree.now.pairs c.loop-round.tree.pairs c.add_round.new.tree.pairs
    c.stops-stops.ensures.value (omega (arith, e, v, l)) c.loop-round.invariant.adds c.add_round.ensures.adds c.requires.earned

pub returns-in_err-add_round-clause-keeps : goal.returns-in_err-add_round-clause-keeps
returns-in_err-add_round-clause-keeps g c = λ p h. c.add_round.ensures.keeps p (c.loop-round.invariant.keeps p h)

pub returns-in_err-add_round-clause-large : goal.returns-in_err-add_round-clause-large
returns-in_err-add_round-clause-large g c = λ is.
    let T = c.args.table.now in
    let s = source_of c.args.scratch.now in
    let k = rides_of c.args.scratch.now in
    let rounds = rounds_of c.in_ok-view.view in
    let n = c.stops-stops.result in
    let r = c.loop-round.round in
    let new = c.add_round.new.tree.pairs in
    let e = c.rides-rides.ensures in
    let v = c.number-round-end.ensures.value in
    let l = c.loop-round-test.true in
    let few : r + 1 ≤ k = omega (arith, e, v, l) in
    let right = c.in_ok-view.ensures.right in
    let fault = same_fault c.from_residual-in_err-add_round.result c.in_err-add_round.field-0.0 c.from_residual-in_err-add_round.ensures.1 is in
    let found = c.add_round.ensures.large (c.in_err-add_round.was ∙ ap (λ (e : TreeFault). Err e) fault) in
    let so_far = earned_so_far T s k c.args.event rounds right n r c.args.tree.now.pairs c.loop-round.tree.pairs new
    c.stops-stops.ensures.value few c.loop-round.invariant.adds c.add_round.ensures.adds c.requires.earned in
    let given = given_wider rounds (InRound (r + 1) n) (UpToRound k n) (λ i t h. more_rounds (r + 1) k n i t few (own_round r n i t h)) found.0 found.1 in
    too_many T s k new found.0
    (earned_up T s k c.args.event rounds right n new (found.0 ∷ new) c.stops-stops.ensures.value (adds_front rounds (UpToRound k n) new found.0 given) so_far)
    c.add_round.ensures.once found.2

use Rattle.std.proofs.Common.{Option, ◌≡◌, ℕ, ◌+◌, ◌<◌, ◌⊎◌, inl, inr, arith, refl, sym, ◌∙◌, ap, subst, None, IsSome, true≢false, Err}
use Rattle.timetable.specs.Front.{IsSooner}
use Rattle.rounds.specs.Mark.{arrival_in, moment_in}
use Rattle.rounds.specs.Scratch.{rounds_of, before_of}
use Rattle.rounds.proofs.LayerSteps.{seen_all}
use Rattle.pattern_tree.specs.declared.fault.TreeFault.{TreeFault}
use Rattle.pattern_tree.specs.Forest.{Pair}
use Rattle.pattern_tree.specs.Content.{Content, IsTooLarge}
use Rattle.pattern_building.specs.RoundPairs.{Gives, InRound, AddsGiven, Keeps}
use Rattle.pattern_building.proofs.GivenFacts.{IsAdded, AtStop, SeenAt, adds_one, has_then, has_one, has_none, has_narrower, next_stop}
use Rattle.pattern_building.proofs.CompleteFacts.{same_fault}
use Rattle.pattern_building.proofs.building.add_round.Goals as goal
use Rattle.pattern_building.proofs.building.add_round.Goals.{then-number-stops+in-Some+in_ok-insert, then-number-stops+in_default, else-number-stops}

none_is : {X : Type 0} (o : Option X) → o ≡ None → IsSome o → ⊥
none_is {X} o e h = absurd (true≢false (sym (subst (λ (o : Option X). IsSome o) e h)))

pub loop-stop-init : goal.loop-stop-init
loop-stop-init g c = record {
  source = refl;
  once = c.requires.once;
  adds = λ p h. inl h;
  keeps = λ p h. h;
  all = λ p given. let a = given.1.2.1 in absurd (omega (arith, a));
}

pub loop-stop-preserved : goal.loop-stop-preserved
loop-stop-preserved g c =
    let r = c.args.rides in
    let n = c.loop-stop.stop-index in
    let listed = c.lowered-stop-items.result.now in
    let stops = c.args.stops in
    let stop = c.stop-item.result in
    let rounds = rounds_of c.args.view.now in
    let first = c.args.tree.now.pairs in
    let old = c.loop-stop.tree.pairs in
    let inv = c.loop-stop.invariant in
    let here : (i t : ℕ) → AtStop r stop i t × (t < stops) → AtStop r stop i t = λ i t h. h.0 in
    let split : (i t : ℕ) → SeenAt r stops listed (n + 1) i t → SeenAt r stops listed n i t ⊎ (AtStop r stop i t × (t < stops)) =
    λ i t h. next_stop r stops listed n stop i t c.loop-stop-test.true c.stop-item.is h in
    elim c.if-number-stops.branch [
      | then-number-stops+in-Some+in_ok-insert w ↦
          let new = w.insert.new.self.pairs in
          let p : Pair = (w.in-Some.path.now, stop) in
          let gives : Gives rounds r p = (w.in-Some.ensures.sooner.0 refl, w.in-Some.ensures.path) in
          let added : IsAdded old new p = w.in_ok-insert.ensures.added in
          let below = subst (λ k. k < stops) c.number.ensures.value w.if-number-stops.true in
          rw w.tree-is record {
            source = w.insert.ensures.source ∙ inv.source;
            once = w.insert.ensures.once inv.once;
            adds = adds_one rounds (InRound r stops) (InRound r stops) first old new p (λ i t h. h) inv.adds (r, (refl, below), gives) added;
            keeps = λ q h. (added q).1 (inl (inv.keeps q h));
            all = has_then rounds (SeenAt r stops listed n) (λ i t. AtStop r stop i t × (t < stops)) (SeenAt r stops listed (n + 1)) old new split inv.all (λ q h. (added q).1 (inl h))
                (has_narrower rounds (AtStop r stop) (λ i t. AtStop r stop i t × (t < stops)) new here (has_one rounds r stop p new gives refl ((added p).1 (inr refl))));
          }
      | then-number-stops+in_default w ↦
          rw w.tree-is record {
            source = inv.source;
            once = inv.once;
            adds = inv.adds;
            keeps = inv.keeps;
            all = has_then rounds (SeenAt r stops listed n) (λ i t. AtStop r stop i t × (t < stops)) (SeenAt r stops listed (n + 1)) old old split inv.all (λ q h. h)
                (has_narrower rounds (AtStop r stop) (λ i t. AtStop r stop i t × (t < stops)) old here
                (has_none rounds r stop old (λ sooner. none_is w.pattern_stops.result w.in_default.is (w.pattern_stops.ensures.sooner.1 sooner))));
          }
      | else-number-stops w ↦
          let past = w.if-number-stops.false in
          let e = c.number.ensures.value in
          rw w.tree-is record {
            source = inv.source;
            once = inv.once;
            adds = inv.adds;
            keeps = inv.keeps;
            all = has_then rounds (SeenAt r stops listed n) (λ i t. AtStop r stop i t × (t < stops)) (SeenAt r stops listed (n + 1)) old old split inv.all (λ q h. h)
                (λ q given. let same = given.1.0.1 in let below = given.1.1 in absurd (omega (arith, same, below, past, e)));
          }
    ]

pub insert-requires : goal.insert-requires
insert-requires g c =
    let rounds = rounds_of c.args.view.now in
    let p : Pair = (c.in-Some.path.now, c.stop-item.result) in
    let gives : Gives rounds c.args.rides p = (c.in-Some.ensures.sooner.0 refl, c.in-Some.ensures.path) in
    record { some = c.requires.ridden p (subst (λ k. k < c.args.stops) c.number.ensures.value c.if-number-stops.true) gives; short = c.in-Some.ensures.short }

pub returns-clause-all : goal.returns-clause-all
returns-clause-all g c = λ p given.
    let view = c.args.view.now in
    let listed = c.lowered-stop-items.result.now in
    let sooner = subst (λ (r : ℕ). IsSooner (arrival_in (rounds_of view) r p.1) (moment_in (before_of view) r p.1)) given.1.0.0 given.1.1 in
    c.loop-stop.invariant.all p (given.0, (given.1.0.0, given.1.0.1, seen_all listed c.loop-stop.stop-index p.1 (omega arith) ((c.lowered-stop-items.ensures p.1).1 sooner)), given.2)

pub returns-in_err-insert-clause-adds : goal.returns-in_err-insert-clause-adds
returns-in_err-insert-clause-adds g c =
    subst (λ (t : Content). AddsGiven (rounds_of c.args.view.now) (InRound c.args.rides c.args.stops) c.args.tree.now.pairs t.pairs) (sym c.in_err-insert.ensures.unchanged) c.loop-stop.invariant.adds

pub returns-in_err-insert-clause-keeps : goal.returns-in_err-insert-clause-keeps
returns-in_err-insert-clause-keeps g c =
    subst (λ (t : Content). Keeps c.args.tree.now.pairs t.pairs) (sym c.in_err-insert.ensures.unchanged) c.loop-stop.invariant.keeps

pub returns-in_err-insert-clause-large : goal.returns-in_err-insert-clause-large
returns-in_err-insert-clause-large g c = λ is.
    let rounds = rounds_of c.args.view.now in
    let p : Pair = (c.in-Some.path.now, c.stop-item.result) in
    let gives : Gives rounds c.args.rides p = (c.in-Some.ensures.sooner.0 refl, c.in-Some.ensures.path) in
    let old = c.loop-stop.tree.pairs in
    let fault = same_fault c.from_residual.result c.in_err-insert.field-0.0 c.from_residual.ensures.1 is in
    let refused = c.in_err-insert.was ∙ ap (λ (e : TreeFault). Err e) fault in
    let large : IsTooLarge old p = c.insert.ensures.large refused in
    let below : p.1 < c.args.stops = subst (λ k. k < c.args.stops) c.number.ensures.value c.if-number-stops.true in
    (p, (c.args.rides, (refl, below), gives), subst (λ (t : Content). IsTooLarge t.pairs p) (sym c.in_err-insert.ensures.unchanged) large)

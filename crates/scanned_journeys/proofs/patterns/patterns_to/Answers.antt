use Rattle.std.proofs.Common.{Option, ◌≡◌, ℕ, ◌+◌, ◌≤◌, ◌↔◌, ◌⊎◌, List, [], IsSome, None, true≢false, arith, refl, sym, ◌∙◌, subst}
use Rattle.std.proofs.lemmas.List.Elements.{at_from_Contains}
use Rattle.std.proofs.lemmas.Result.{IfOk-weaker}
use Rattle.std.specs.List.{Contains}
use Rattle.rounds.specs.Scratch.{rounds_of}
use Rattle.pattern_tree.specs.Forest.{Step, Pair}
use Rattle.pattern_tree.specs.Content.{IsTooLarge}
use Rattle.scanned_journeys.specs.Patterns.{HasPatterns}
use Rattle.scanned_journeys.proofs.FewFacts.{pattern_of, room_for, more_patterns, no_pattern, same_patterns}
use Rattle.scanned_journeys.proofs.patterns.patterns_to.Goals as goal
use Rattle.scanned_journeys.proofs.patterns.patterns_to.Goals.{in-Some+in_ok-put, in_default}

none_is : {X : Type 0} (o : Option X) → o ≡ None → IsSome o → ⊥
none_is {X} o e h = absurd (true≢false (sym (subst (λ (o : Option X). IsSome o) e h)))

pub loop-round-init : goal.loop-round-init
loop-round-init c =
    let e = c.new_in-tree.ensures in
    rw e (record {
      source = refl;
      once = λ i j d lt in'. absurd (let b : ⊥ = omega (arith, in') in b);
      has = record {
        only = λ p h. absurd (let k = at_from_Contains [] p h in let b : ⊥ = omega (arith, k.1) in b);
        all = λ r p some few is. absurd (let b : ⊥ = omega (arith, some, few) in b);
      };
    })

pub loop-round-preserved : goal.loop-round-preserved
loop-round-preserved c =
    let rounds = rounds_of c.args.view.now in
    let t = c.args.to in
    let n = c.loop-round.round in
    let old = c.loop-round.tree.pairs in
    let inv = c.loop-round.invariant in
    let e = c.number-round-end.ensures.value in
    let lt = c.loop-round-test.true in
    let few : n + 1 ≤ c.args.rides = omega (arith, e, lt) in
    elim c.match-pattern.branch [
      | in-Some+in_ok-put w ↦
          let p : Pair = (w.in-Some.path.items, t) in
          let new = w.put.new.tree.pairs in
          let is = pattern_of rounds t c.args.rides (n + 1) c.requires.counted (omega arith) few w.in-Some.path.items (w.in-Some.ensures.sooner.0 refl) w.in-Some.ensures.path in
          let added = subst (λ (path : List Step). (q : Pair) → Contains new q ↔ (Contains old q ⊎ (q ≡ (path, t)))) w.as_slice.ensures.value w.in_ok-put.ensures.added in
          rw w.tree-is record {
            source = w.put.ensures.source ∙ inv.source;
            once = w.put.ensures.once;
            has = more_patterns rounds t n old inv.has new p is added;
          }
      | in_default w ↦
          rw w.tree-is record {
            source = inv.source;
            once = inv.once;
            has = no_pattern rounds t n old inv.has (λ sooner. none_is c.pattern.result w.in_default.is (c.pattern.ensures.sooner.1 sooner));
          }
    ]

pub put-requires-clause-some : goal.put-requires-clause-some
put-requires-clause-some c =
    let e = c.number-round-end.ensures.value in
    let lt = c.loop-round-test.true in
    let few : c.loop-round.round + 1 ≤ c.args.rides = omega (arith, e, lt) in
    let is = pattern_of (rounds_of c.args.view.now) c.args.to c.args.rides (c.loop-round.round + 1) c.requires.counted (omega arith) few c.in-Some.path.items
    (c.in-Some.ensures.sooner.0 refl) c.in-Some.ensures.path in
    let k = is.counted in
    rw c.as_slice.ensures.value (omega (arith, k))

pub put-requires-clause-room : goal.put-requires-clause-room
put-requires-clause-room c =
    let rounds = rounds_of c.args.view.now in
    let t = c.args.to in
    let n = c.loop-round.round in
    let inv = c.loop-round.invariant in
    let e = c.number-round-end.ensures.value in
    let most = c.number-round-end.ensures.few in
    let lt = c.loop-round-test.true in
    let few : n + 1 ≤ c.args.rides = omega (arith, e, lt) in
    let is = pattern_of rounds t c.args.rides (n + 1) c.requires.counted (omega arith) few c.in-Some.path.items
    (c.in-Some.ensures.sooner.0 refl) c.in-Some.ensures.path in
    let k = is.counted in
    subst (λ (path : List Step). ¬ IsTooLarge c.loop-round.tree.pairs (path, t)) (sym c.as_slice.ensures.value)
    (room_for rounds t n c.loop-round.tree.pairs inv.has (c.in-Some.path.items, t) inv.once (omega (arith, lt, most)) (omega (arith, k, lt, most)))

pub returns-clause-patterns : goal.returns-clause-patterns
returns-clause-patterns c =
    let rounds = rounds_of c.args.view.now in
    let n = c.loop-round.round in
    let e = c.number-round-end.ensures.value in
    let most = c.loop-round.auto.round-end in
    let past = c.loop-round-test.false in
    let all : n ≡ c.args.rides = omega (arith, e, most, past) in
    let old = c.loop-round.tree.pairs in
    let has = subst (λ (k : ℕ). HasPatterns rounds c.args.to k old) all c.loop-round.invariant.has in
    IfOk-weaker c.of.result _ _ (λ patterns moved. same_patterns rounds c.args.to c.args.rides old patterns.pairs moved has) c.of.ensures.pairs

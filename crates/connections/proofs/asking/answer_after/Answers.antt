use Rattle.std.proofs.Common.{◌+◌, get_or, arith, le_refl}
use Rattle.pattern_query.specs.Questions.{Held}
use Rattle.connections.specs.Found.{IsEventOf, Scope}
use Rattle.connections.proofs.EventFacts.{between_moments, after_moments, rising_le}
use Rattle.connections.proofs.TreeFacts.{is_flow, after_next, after_last}
use Rattle.connections.proofs.asking.answer_after.Goals as goal

pub returns-then-end-events : goal.returns-then-end-events
returns-then-end-events g c = λ scope e is lies.
    let T = c.args.network.now in
    let held : Held = g.T.Trees.held c.args.trees.now in
    let froms = c.args.froms.now in
    let tos = c.args.tos.now in
    let moments = c.args.events.now in
    let n = c.args.end in
    let le = lies.1 n (le_refl n) c.if-end-events.true in
    after_next (IsEventOf T froms) (Scope T held froms tos scope) (is_flow T held froms tos scope) e (get_or moments n 0) c.ask_at.result (omega (arith, le))
    (λ x lt below. between_moments (IsEventOf T froms) moments n (e + 1) c.requires.events lies
    (λ i from in'. rising_le moments c.requires.events.rising n i from in') x (omega (arith, lt)) below)
    (c.ask_at.ensures.best scope is)

pub returns-else-end-events : goal.returns-else-end-events
returns-else-end-events g c = λ scope e is lies.
    let T = c.args.network.now in
    let held : Held = g.T.Trees.held c.args.trees.now in
    let froms = c.args.froms.now in
    let tos = c.args.tos.now in
    let past = c.if-end-events.false in
    after_last (IsEventOf T froms) (Scope T held froms tos scope) (is_flow T held froms tos scope) e
    (λ x lt. after_moments (IsEventOf T froms) c.args.events.now c.args.end (e + 1) c.requires.events lies past x (omega (arith, lt)))

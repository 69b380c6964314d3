use Rattle.std.proofs.Common.{◌∙◌, refl, sym, arith}
use Rattle.std.proofs.lemmas.Bool.{false≢true}
use Rattle.packed_patterns.specs.Patterns.{path_of}
use Rattle.packed_patterns.proofs.ContainsFacts.{found, none}
use Rattle.packed_patterns.proofs.patterns.Patterns.contains.Goals as goal

pub returns-then-are_equal : goal.returns-then-are_equal
returns-then-are_equal g c =
    let bs = c.ending_at-ending.result.beginnings.now in
    let items = c.ending_at-ending.result.patterns.now in
    let path = c.args.path.now in
    let same = c.are_equal.ensures.0 c.if-are_equal.true in (
      λ _. (c.ending_at-ending.ensures path).0
          (found (path_of bs) items path c.loop-pattern.pattern-index c.pattern-item.result c.loop-pattern-test.true c.pattern-item.is
          (sym c.rides_of.ensures ∙ sym c.deref.ensures.0 ∙ same)),
      λ _. refl,
    )

pub returns : goal.returns
returns g c =
    let bs = c.ending_at-ending.result.beginnings.now in
    let items = c.ending_at-ending.result.patterns.now in
    let path = c.args.path.now in
    let all = c.loop-pattern-test.false in (
      λ no. absurd (false≢true no),
      λ has. absurd (none (path_of bs) items path (λ i d within. c.loop-pattern.invariant i d (omega (arith, within, all))) ((c.ending_at-ending.ensures path).1 has)),
    )

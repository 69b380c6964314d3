use Rattle.std.proofs.Common.{rules, ◌+◌, ◌++◌, ◌<◌, ◌≤◌, [], ◌∷◌, List, Option, length, take, refl, sym, subst, arith}
use Rattle.std.proofs.lemmas.List.{take_all}
use Rattle.pattern_tree.specs.Content.{Content}
use Rattle.part_shelf.specs.Spots.{AreSpots, IsEntry}
use Rattle.part_shelf.specs.declared.entry.Spot.{Spot}
use Rattle.part_shelf.proofs.SpotFacts.{none_noted, noted_more, zip_long}
use Rattle.part_shelf.proofs.noting.note.Goals as goal

pub loop-i-init : goal.loop-i-init
loop-i-init c = λ form states now all trees part are each. none_noted form states now c.args.spots.now.items all trees are

pub loop-i-preserved : goal.loop-i-preserved
loop-i-preserved c = λ form states now all trees part are each.
    let at = c.loop-i in
    let below : at.i < length c.args.entries.now = search rules in
    let so_far = at.invariant form states now all trees part are each in
    subst (λ (l : List (Option Spot)). AreSpots form (states ++ now ∷ []) l (all ++ take (at.i + 1) trees)) (sym c.note_one.ensures)
    (noted_more form states now at.spots.items all trees c.args.entries.now at.i c.index-entries-i.result c.args.part _ part each below c.index-entries-i.is refl refl refl so_far)

pub returns : goal.returns
returns c = λ form states now all trees part are each.
    let at = c.loop-i in
    let long = zip_long (IsEntry form now.read) c.args.entries.now trees each in
    let done : length trees ≤ at.i = omega (arith, long, c.loop-i-test.false) in
    subst (λ (l : List Content). AreSpots form (states ++ now ∷ []) at.spots.items (all ++ l)) (take_all at.i trees done)
    (at.invariant form states now all trees part are each)

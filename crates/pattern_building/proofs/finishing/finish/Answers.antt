use Rattle.std.proofs.Common.{◌≡◌, ◌∙◌, ◌<◌, ℕ, List, Err, ap, refl, sym, subst, subst₂}
use Rattle.std.specs.Arc.{arc_value}
use Rattle.timetable.specs.Table.{Table, stops_of}
use Rattle.rounds.specs.Scratch.{rides_of}
use Rattle.pattern_tree.specs.declared.fault.TreeFault.{TreeFault}
use Rattle.pattern_tree.specs.Forest.{Pair}
use Rattle.pattern_tree.specs.Completeness.{Complete, Earned, TooManyAreEarned}
use Rattle.pattern_building.proofs.CompleteFacts.{short_of, same_fault}
use Rattle.pattern_building.proofs.finishing.finish.Goals as goal

-- what was built from the copy of the shared timetable, for the source and rides that were asked for
finished : (table asked : Table) (source s k rides : ℕ) (ps : List Pair) → table ≡ asked → s ≡ source → rides ≡ k
    → Complete table rides source ps → Earned table rides source ps → (Complete asked k s ps × Earned asked k s ps)
finished table asked source s k rides ps same here few complete earned = (
  subst (λ (t : Table). Complete t k s ps) same (subst (λ (x : ℕ). Complete table x s ps) few (subst (λ (x : ℕ). Complete table rides x ps) (sym here) complete)),
  subst (λ (t : Table). Earned t k s ps) same (subst (λ (x : ℕ). Earned table x s ps) few (subst (λ (x : ℕ). Earned table rides x ps) (sym here) earned)),
)

pub new-requires : goal.new-requires
new-requires c =
    let tree = c.in_ok-tree.tree in
    let built = c.in_ok-tree.ensures in
    let both = finished c.deref.result.now (arc_value c.in_ok-table.table) c.args.source tree.source c.args.k (rides_of c.args.scratch.now) tree.pairs
    c.deref.ensures built.source c.requires.rides built.complete built.earned in
    record {
      known = subst₂ (λ (s : ℕ) (t : Table). s < stops_of t) (sym built.source) (sym (c.in_ok-table.ensures)) c.requires.source;
      is = record { source = refl; complete = both.0; earned = both.1; short = short_of (arc_value c.in_ok-table.table) tree.source c.args.k tree.pairs both.1 };
    }

pub returns-in_err-tree-clause-large : goal.returns-in_err-tree-clause-large
returns-in_err-tree-clause-large c = λ is.
    let fault = same_fault c.from_residual-in_err-tree.result c.in_err-tree.field-0.0 c.from_residual-in_err-tree.ensures.1 is in
    let large = c.build_and_copy-built.ensures.large (c.in_err-tree.was ∙ ap (λ (e : TreeFault). Err e) fault) in
    subst (λ (t : Table). TooManyAreEarned t c.args.k c.args.source) (c.deref.ensures ∙ c.in_ok-table.ensures)
    (subst (λ (k : ℕ). TooManyAreEarned c.deref.result.now k c.args.source) c.requires.rides large)

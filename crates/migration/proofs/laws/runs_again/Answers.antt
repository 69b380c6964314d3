use Rattle.std.proofs.Common.{◌≡◌, List, subst, sym}
use Rattle.disk_model.proofs.Moments.{leaves_last}
use Rattle.pattern_tree.specs.Content.{Content}
use mathlib.Core.List.{IsPrefix}
use Rattle.section_store.specs.Between.{StandsBetween}
use Rattle.migration.proofs.Joining.{between_of}
use Rattle.migration.proofs.laws.runs_again.Goals as goal

pub returns : goal.returns
returns c = λ was form old now target new trees read goes left kept list found left_by kept_by of_left of_kept.
    let one = c.stands_for_one.ensures in
    let old_is : list ≡ trees = one was left list trees of_left (read.settled left left_by) in
    let here = leaves_last goes.recovered new (StandsBetween form goes.found trees) goes.goes.leaves (between_of form goes.found trees goes.front goes.recovered goes.rest) kept kept_by in
    let new_is : found ≡ here.trees = one form kept found here.trees of_kept here.stands in
    subst (IsPrefix found) (sym old_is) (subst (λ (l : List Content). IsPrefix l trees) (sym new_is) here.front)

-- If all opened trees are right, so is each that is shown, and an answer from them is exact.
use Rattle.std.proofs.Common.{ℕ, List, All, Result, Ok, Err, IfOk, MatchResult}
use Rattle.timetable.specs.Table.{stops_of}
use Rattle.pattern_tree.specs.Content.{Content}
use Rattle.pattern_tree.proofs.OrderFacts.{whole_of}
use Rattle.pattern_query.specs.Answer.{PointData}
use Rattle.pattern_query.specs.Questions.{Held, AreComplete, IsAnswer}
use Rattle.section_store.specs.Sections.{Form}
use Rattle.section_store.specs.Lasting.{IsExact}
use Rattle.board.specs.Trees.{GoesOn}
use Rattle.board.proofs.Lookup.{shown_is_listed, all_right}
use Rattle.planner.specs.PlannerView.{PlannerView}
use Rattle.planner.specs.Asking.{AreBestBetween, held_after}

-- the trees that are shown are complete
pub shown_complete : (form : Form) (opened list : List Content) (froms : List ℕ) → GoesOn form opened list → All (IsExact form) opened
    → AreComplete form.table (held_after (stops_of form.table) list) form.rides froms
shown_complete form opened list froms goes right = λ s tree here at.
    let found = shown_is_listed (stops_of form.table) list s tree at in
    whole_of form.table form.rides tree.source tree (all_right form opened list tree goes right found.0)

-- an answer from complete trees is exact
pub answer_exact : {X : Type 0} (p : PlannerView) (held : Held) (from to : List ℕ) (d : ℕ) (R : X → Type 0) (result : Result (List PointData) X)
    → MatchResult result (IsAnswer p.form.table p.names held from to d) R → ((froms : List ℕ) → AreComplete p.form.table held p.form.rides froms)
    → IfOk result (AreBestBetween p from to d)
answer_exact p held from to d R (Ok points) is complete = record {
  froms = is.froms;
  tos = is.tos;
  leaves = is.leaves;
  arrives = is.arrives;
  best = is.exact p.form.rides (complete is.froms);
}
answer_exact p held from to d R (Err fault) is complete = tt
